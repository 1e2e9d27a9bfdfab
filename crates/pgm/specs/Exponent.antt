-- The exponent of "a power of two from 1 to 256" (document 01, cause 11).
use Rattle.std.specs.Prelude.{◌≡◌, Bool, true, false, ℕ, Option, None, Some, zero, suc, ◌+◌, ◌^◌, ◌≤◌, ◌<◌, eqb}
use Rattle.std.proofs.Math.Path.{refl}
use Rattle.std.proofs.Common.{sym, ap, ◌∙◌, pow-suc, arith, eq-eqb, ne_eqb, eqb-true}
use Rattle.std.proofs.Math.Decide.{dec_lt}
use Rattle.std.proofs.lemmas.Bool.{eqb-false}
use Rattle.sequences.specs.Powers.{pow2_pos, pow2_mono}

-- The first of the `left` numbers from n on whose power of two is the width.
unfoldable pub exponent_from : ℕ → ℕ → ℕ → Option ℕ
exponent_from zero n width = None
exponent_from (suc left) n width = elim (eqb (2 ^ n) width) [ true ↦ Some n | false ↦ exponent_from left (n + 1) width ]

-- The n from 0 to 8 with 2^n = width, where there is one.
unfoldable pub exponent : ℕ → Option ℕ
unfolding exponent_from
exponent width = exponent_from 9 0 width

-- Document 01's number for each case: 11 for a side that is no such power.
abbrev pub side_number : Option ℕ → ℕ
side_number None = 11
side_number (Some n) = 0

-- The value n, and 0 for a refusal.
abbrev pub side_n : Option ℕ → ℕ
side_n None = 0
side_n (Some n) = n

module _ (left n width : ℕ) where
  pub from_here : 2 ^ n ≡ width → exponent_from (suc left) n width ≡ Some n
  unfolding exponent_from
  from_here e = rw (eq-eqb (2 ^ n) width e, exponent_from) refl

  pub from_next : (2 ^ n ≡ width → ⊥) → exponent_from (suc left) n width ≡ exponent_from left (n + 1) width
  unfolding exponent_from
  from_next d = rw (ne_eqb (2 ^ n) width d, exponent_from) refl

-- Where there is one, its power is the width, and it is one of the numbers looked at.
from_power : (left n width : ℕ) → let s = exponent_from left n width in side_number s ≡ 0 → (2 ^ side_n s ≡ width) × (side_n s < n + left)
unfolding exponent_from
from_power zero n width z = absurd (omega arith)
from_power (suc left) n width z = pick (eqb (2 ^ n) width) refl (from_power left (n + 1) width)
  where
    pick : (t : Bool) → eqb (2 ^ n) width ≡ t
        → (let s = exponent_from left (n + 1) width in side_number s ≡ 0 → (2 ^ side_n s ≡ width) × (side_n s < n + 1 + left))
        → let s = exponent_from (suc left) n width in (2 ^ side_n s ≡ width) × (side_n s < n + suc left)
    pick true e more =
        let p = eqb-true (2 ^ n) width e in
        let s = from_here left n width p in
        (ap (λ t. 2 ^ side_n t) s ∙ p, omega (arith, ap side_n s))
    pick false e more =
        let s = from_next left n width (eqb-false (2 ^ n) width e) in
        let (power, small) = more (ap side_number (sym s) ∙ z) in
        (ap (λ t. 2 ^ side_n t) s ∙ power, omega (arith, ap side_n s, small))

pub exponent_power : (width : ℕ) → side_number (exponent width) ≡ 0 → (2 ^ side_n (exponent width) ≡ width) × (side_n (exponent width) ≤ 8)
unfolding exponent
exponent_power width z =
    let (power, small) = from_power 9 0 width z in
    (power, omega arith)

grows : (i k : ℕ) → i < k → 2 ^ i < 2 ^ k
grows i k h =
    let m : 2 ^ suc i ≤ 2 ^ k = pow2_mono h in
    omega (arith, m, pow-suc 2 i, pow2_pos i)

from_finds : (left n k : ℕ) → n ≤ k → k < n + left → exponent_from left n (2 ^ k) ≡ Some k
from_finds zero n k l h = absurd (omega arith)
from_finds (suc left) n k l h = pick (eqb (2 ^ n) (2 ^ k)) refl (from_finds left (n + 1) k)
  where
    same : 2 ^ n ≡ 2 ^ k → n ≡ k
    same e = elim (dec_lt n k) [ yes b ↦ absurd (omega (arith, grows n k b)) | no d ↦ omega arith ]

    pick : (t : Bool) → eqb (2 ^ n) (2 ^ k) ≡ t → (n + 1 ≤ k → k < n + 1 + left → exponent_from left (n + 1) (2 ^ k) ≡ Some k)
        → exponent_from (suc left) n (2 ^ k) ≡ Some k
    pick true e more = let p = eqb-true (2 ^ n) (2 ^ k) e in from_here left n (2 ^ k) p ∙ ap Some (same p)
    pick false e more =
        let d = eqb-false (2 ^ n) (2 ^ k) e in
        from_next left n (2 ^ k) d ∙ more (elim (dec_lt n k) [ yes b ↦ omega arith | no b ↦ absurd (d (ap (λ i. 2 ^ i) (omega arith))) ]) (omega arith)

-- Each power from 1 to 256 has its exponent.
pub exponent_of_power : (k : ℕ) → k ≤ 8 → exponent (2 ^ k) ≡ Some k
unfolding exponent
exponent_of_power k h = from_finds 9 0 k (omega arith) (omega arith)

-- A width that passes 11 is at most 256.
pub width_small : (width : ℕ) {n : ℕ} → exponent width ≡ Some n → width ≤ 256
width_small width h =
    let (power, small) = exponent_power width (ap side_number h) in
    let m : 2 ^ side_n (exponent width) ≤ 2 ^ 8 = pow2_mono {i = side_n (exponent width)} {j = 8} small in
    omega (arith, m, power)
