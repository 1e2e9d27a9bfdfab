-- Integers as differences of two numbers: their sums, products, signs and size. `omega` reads numbers and no integers.
use Rattle.std.specs.Prelude.{◌≡◌, refl, ℕ, zero, suc, ◌+◌, ◌-◌, ◌*◌, ◌≤◌, ◌<◌, ℤ, pos, negsuc, neg_ℤ, nat_abs, ◌+ℤ◌, ◌-ℤ◌, ◌*ℤ◌, ◌<ℤ◌}
use Rattle.std.proofs.Common.{sym, ap, ◌∙◌, subst, mul-add, arith, lt→ltb, lt-ltb, le-ltb}
use Rattle.std.proofs.Math.Decide.{dec_lt}
use Rattle.std.proofs.Math.IntN.{+ℤ_assoc, +ℤ_comm, neg_ℤ-+ℤ}
use Rattle.std.specs.Int.Signed.{mag}

-- a less b. The kit's `sub_ℕ` is the same and unfolds at once; this one stands still, so that its laws can be cited.
unfoldable pub difference : ℕ → ℕ → ℤ
difference a b = pos a -ℤ pos b

pub difference-add : (a b c d : ℕ) → difference a b +ℤ difference c d ≡ difference (a + c) (b + d)
unfolding difference
difference-add a b c d =
    +ℤ_assoc (pos a) (neg_ℤ (pos b)) (pos c -ℤ pos d)
    ∙ ap (λ z. pos a +ℤ z)
    (sym (+ℤ_assoc (neg_ℤ (pos b)) (pos c) (neg_ℤ (pos d))) ∙ ap (λ z. z +ℤ neg_ℤ (pos d)) (+ℤ_comm (neg_ℤ (pos b)) (pos c)) ∙ +ℤ_assoc (pos c) (neg_ℤ (pos b)) (neg_ℤ (pos d)))
    ∙ sym (+ℤ_assoc (pos a) (pos c) (neg_ℤ (pos b) -ℤ pos d))
    ∙ ap (λ z. pos (a + c) +ℤ z) (sym (neg_ℤ-+ℤ (pos b) (pos d)))

-- The first number is no smaller, or it is smaller.
pub difference_pos : (a b : ℕ) → b ≤ a → difference a b ≡ pos (a - b)
unfolding difference
difference_pos a zero h = ap pos (omega arith)
difference_pos a (suc b) h = rw (le-ltb a (suc b) h) refl

pub difference_negsuc : (a b : ℕ) → a < b → difference a b ≡ negsuc (b - suc a)
unfolding difference
difference_negsuc a zero h = absurd (omega arith)
difference_negsuc a (suc b) h = rw (lt-ltb a (suc b) h) refl

-- Two differences are equal where the sums crosswise are.
pub difference_same : (a b c d : ℕ) → a + d ≡ c + b → difference a b ≡ difference c d
difference_same a b c d h = pick (dec_lt a b)
  where
    pick : Dec (a < b) → difference a b ≡ difference c d
    pick (yes l) = difference_negsuc a b l ∙ ap negsuc (omega arith) ∙ sym (difference_negsuc c d (omega arith))
    pick (no l) = difference_pos a b (omega arith) ∙ ap pos (omega arith) ∙ sym (difference_pos c d (omega arith))

-- A product with a difference.
pub difference_times : (x a b : ℕ) → pos x *ℤ difference a b ≡ difference (x * a) (x * b)
unfolding difference
difference_times x a b = pick (dec_lt a b)
  where
    below : (k : ℕ) → neg_ℤ (pos k) ≡ difference 0 k
    below zero = refl
    below (suc k) = sym (difference_negsuc 0 (suc k) (omega arith) ∙ ap negsuc (omega arith))

    pick : Dec (a < b) → pos x *ℤ difference a b ≡ difference (x * a) (x * b)
    pick (yes l) =
        let e : b ≡ a + suc (b - suc a) = omega arith in
        ap (λ z. pos x *ℤ z) (difference_negsuc a b l) ∙ below (x * suc (b - suc a))
        ∙ difference_same 0 (x * suc (b - suc a)) (x * a) (x * b) (omega (arith, ap (λ (k : ℕ). x * k) e, mul-add x a (suc (b - suc a))))
    pick (no l) =
        let e : a ≡ b + (a - b) = omega arith in
        ap (λ z. pos x *ℤ z) (difference_pos a b (omega arith))
        ∙ sym (difference_pos (x * a) (x * b) (omega (arith, more e)) ∙ ap pos (omega (arith, more e)))
      where
        more : a ≡ b + (a - b) → x * a ≡ x * b + x * (a - b)
        more e = ap (λ (k : ℕ). x * k) e ∙ mul-add x b (a - b)

-- Signs.
pub difference_above : (a b : ℕ) → b < a → pos 0 <ℤ difference a b
difference_above a b h = subst (λ z. pos 0 <ℤ z) (sym (difference_pos a b (omega arith))) (record { lt = lt→ltb 0 (a - b) (omega arith) })

pub difference_below : (a b : ℕ) → a < b → difference a b <ℤ pos 0
difference_below a b h = subst (λ z. z <ℤ pos 0) (sym (difference_negsuc a b h)) (record { lt = tt })

-- ---- size

pub mag_within_size : (z : ℤ) → mag z ≤ nat_abs z
mag_within_size (pos n) = omega arith
mag_within_size (negsuc n) = omega arith

pub size_of_difference : (a b most : ℕ) → a ≤ most → b ≤ most → nat_abs (difference a b) ≤ most
size_of_difference a b most h k = pick (dec_lt a b)
  where
    pick : Dec (a < b) → nat_abs (difference a b) ≤ most
    pick (yes l) = subst (λ z. nat_abs z ≤ most) (sym (difference_negsuc a b l)) (omega arith)
    pick (no l) = subst (λ z. nat_abs z ≤ most) (sym (difference_pos a b (omega arith))) (omega arith)

-- A sum is no larger than its parts together.
pub size_of_sum : (x y : ℤ) → nat_abs (x +ℤ y) ≤ nat_abs x + nat_abs y
unfolding difference
size_of_sum (pos a) (pos b) = omega arith
size_of_sum (pos a) (negsuc b) = size_of_difference a (suc b) (a + suc b) (omega arith) (omega arith)
size_of_sum (negsuc a) (pos b) = omega (arith, size_of_difference b (suc a) (b + suc a) (omega arith) (omega arith))
size_of_sum (negsuc a) (negsuc b) = omega arith
