-- Digits of a word moved together, in all its fields at once: groups of k digits, each in a field of 2 k places, become groups of
-- 2 k digits by one shift and one mask.
use Rattle.std.specs.Prelude.{◌≡◌, ℕ, zero, suc, ◌+◌, ◌-◌, ◌*◌, ◌/◌, ◌%◌, ◌^◌, ◌<◌}
use Rattle.std.proofs.Common.{sym, ap, ap₂, ◌∙◌, mod-lt, mod-eq_of_lt, add-zero, add_comm, lt_of_lt_of_le, le-add_right, arith, pow_pos, pow_mono, shr-shr}
use Rattle.std.proofs.Math.Nat.{div-eq_of_lt}
use Rattle.std.proofs.Math.Pow.{split, high, low, field, mod-mod-pow, ones_lt}
use Rattle.std.proofs.lemmas.Nat.{mod-pow-add, and_block, and_mask, or_shr, or_mod}
use Rattle.std.specs.Int.Bits.{bit_and, bit_or, and_zero_r, or_shifted_r}

-- The k low places of each of m fields of k + k places.
unfoldable pub mask : ℕ → ℕ → ℕ
mask k zero = 0
mask k (suc m) = mask k m * 2 ^ (k + k) + (2 ^ k - 1)

-- The m lowest groups of k digits of x, each in the low places of a field of k + k.
unfoldable pub groups : ℕ → ℕ → ℕ → ℕ
groups k zero x = 0
groups k (suc m) x = groups k m (x / 2 ^ k) * 2 ^ (k + k) + x % 2 ^ k

-- The mask's lowest field keeps the k low places, and its other fields meet the rest.
pub low_field : (k y e : ℕ) → bit_and y (e * 2 ^ (k + k) + (2 ^ k - 1)) ≡ bit_and (y / 2 ^ (k + k)) e * 2 ^ (k + k) + y % 2 ^ k
low_field k y e =
    ap (λ (n : ℕ). bit_and n (e * 2 ^ (k + k) + (2 ^ k - 1))) (sym (split y (k + k)))
    ∙ and_block (k + k) (y / 2 ^ (k + k)) e (y % 2 ^ (k + k)) (2 ^ k - 1) (mod-lt y (pow_pos (k + k))) (lt_of_lt_of_le (ones_lt k) (pow_mono (le-add_right k k)))
    ∙ ap (λ (n : ℕ). bit_and (y / 2 ^ (k + k)) e * 2 ^ (k + k) + n) (and_mask (y % 2 ^ (k + k)) k ∙ mod-mod-pow y k k)

-- A word whose lowest two fields hold the groups a and b, and whose other fields hold r.
module _ (k r a b : ℕ) (ha : a < 2 ^ k) (hb : b < 2 ^ k) where
  word : ℕ
  word = (r * 2 ^ (k + k) + b) * 2 ^ (k + k) + a

  fits_field : {n : ℕ} → n < 2 ^ k → n < 2 ^ (k + k)
  fits_field h = lt_of_lt_of_le h (pow_mono (le-add_right k k))

  lowest : word % 2 ^ (k + k) ≡ a
  unfolding word
  lowest = low (r * 2 ^ (k + k) + b) (k + k) (fits_field ha)

  others : word / 2 ^ (k + k) ≡ r * 2 ^ (k + k) + b
  unfolding word
  others = high (r * 2 ^ (k + k) + b) (k + k) (fits_field ha)

  rest : word / 2 ^ ((k + k) + (k + k)) ≡ r
  rest = sym (shr-shr word (k + k) (k + k)) ∙ ap (λ (n : ℕ). n / 2 ^ (k + k)) others ∙ high r (k + k) (fits_field hb)

  -- shifted by k, b comes to stand above the place of a
  shifted_lowest : word / 2 ^ k % 2 ^ (k + k) ≡ b * 2 ^ k
  shifted_lowest =
      let above : word / 2 ^ k / 2 ^ k % 2 ^ k ≡ b =
      ap (λ (n : ℕ). n % 2 ^ k) (shr-shr word k k ∙ others) ∙ sym (mod-mod-pow (r * 2 ^ (k + k) + b) k k)
      ∙ ap (λ (n : ℕ). n % 2 ^ k) (low r (k + k) (fits_field hb)) ∙ mod-eq_of_lt hb in
      let below : word / 2 ^ k % 2 ^ k ≡ 0 = sym (field word k k) ∙ ap (λ (n : ℕ). n / 2 ^ k) lowest ∙ div-eq_of_lt ha in
      mod-pow-add (word / 2 ^ k) k k ∙ ap₂ (λ (p q : ℕ). p * 2 ^ k + q) above below ∙ add-zero (b * 2 ^ k)

  shifted_rest : word / 2 ^ k / 2 ^ ((k + k) + (k + k)) ≡ r / 2 ^ k
  shifted_rest =
      shr-shr word k ((k + k) + (k + k)) ∙ ap (λ (n : ℕ). word / 2 ^ n) (add_comm k ((k + k) + (k + k)))
      ∙ sym (shr-shr word ((k + k) + (k + k)) k) ∙ ap (λ (n : ℕ). n / 2 ^ k) rest

  -- the shift and the mask make one group of a and b, and go on in the rest
  joined : (e : ℕ) → bit_and (bit_or word (word / 2 ^ k)) (e * 2 ^ ((k + k) + (k + k)) + (2 ^ (k + k) - 1)) ≡ bit_and (bit_or r (r / 2 ^ k)) e * 2 ^ ((k + k) + (k + k)) + (b * 2 ^ k + a)
  joined e =
      low_field (k + k) (bit_or word (word / 2 ^ k)) e
      ∙ ap₂ (λ (p q : ℕ). bit_and p e * 2 ^ ((k + k) + (k + k)) + q)
      (or_shr word (word / 2 ^ k) ((k + k) + (k + k)) ∙ ap₂ bit_or rest shifted_rest)
      (or_mod word (word / 2 ^ k) (k + k) ∙ ap₂ bit_or lowest shifted_lowest ∙ or_shifted_r b k a ha)

gather_groups : (k m x : ℕ) → bit_and (bit_or (groups k (2 * m) x) (groups k (2 * m) x / 2 ^ k)) (mask (k + k) m) ≡ groups (k + k) m x
unfolding groups mask word
gather_groups k zero x = and_zero_r (bit_or 0 (0 / 2 ^ k))
gather_groups k (suc m) x =
    let e : 2 * suc m ≡ suc (suc (2 * m)) = omega arith in
    ap (λ (j : ℕ). bit_and (bit_or (groups k j x) (groups k j x / 2 ^ k)) (mask (k + k) (suc m))) e
    ∙ joined k (groups k (2 * m) (x / 2 ^ k / 2 ^ k)) (x % 2 ^ k) (x / 2 ^ k % 2 ^ k) (mod-lt x (pow_pos k)) (mod-lt (x / 2 ^ k) (pow_pos k)) (mask (k + k) m)
    ∙ ap₂ (λ (p q : ℕ). p * 2 ^ ((k + k) + (k + k)) + q)
    (gather_groups k m (x / 2 ^ k / 2 ^ k) ∙ ap (groups (k + k) m) (shr-shr x k k)) (sym (mod-pow-add x k k))

-- Groups of k digits become groups of 2 k digits: the word with itself shifted by k, under a mask.
pub gather : {v : ℕ} (k m x : ℕ) → v ≡ groups k (2 * m) x → bit_and (bit_or v (v / 2 ^ k)) (mask (k + k) m) ≡ groups (k + k) m x
gather k m x h = ap (λ (v : ℕ). bit_and (bit_or v (v / 2 ^ k)) (mask (k + k) m)) h ∙ gather_groups k m x
