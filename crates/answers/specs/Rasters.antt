-- The number of a function that is handed a raster: 1, 9, 8.
use Rattle.std.specs.Prelude.{◌≡◌, Bool, false, not, ℕ, ◌^◌, ◌≤◌, ◌<◌, eqb, ltb}
use Rattle.std.proofs.Math.Path.{refl}
use Rattle.std.proofs.Common.{arith}
use borrow.Author.Tests.{lt-ltb, le-ltb, eq-eqb, ne_eqb, ltb-false, eqb-true, not-false}
use Rattle.sequences.specs.Cases.{first, when, first-zero, when_zero}

-- "Raster to blocks: 1, 9, 8" (document 01, "When the answer is a number"): n above 8; raster length not 4^n; a lent list shorter than its
-- need. By the length of the raster, and whether a list is too short.
unfoldable pub source_number : ℕ → ℕ → Bool → ℕ
unfolding first when
source_number n size short = first (when (ltb 8 n) 1) (first (when (not (eqb size (4 ^ n))) 9) (when short 8))

-- The number cause by cause.
module _ (n size : ℕ) (short : Bool) where
  pub source_large : 8 < n → source_number n size short ≡ 1
  unfolding source_number
  source_large h = rw (lt-ltb 8 n h) refl

  pub source_unlike : n ≤ 8 → (size ≡ 4 ^ n → ⊥) → source_number n size short ≡ 9
  unfolding source_number
  source_unlike small h = rw (le-ltb 8 n small, ne_eqb size (4 ^ n) h) refl

  pub source_whole : n ≤ 8 → size ≡ 4 ^ n → source_number n size short ≡ when short 8
  unfolding source_number
  source_whole small whole = rw (le-ltb 8 n small, eq-eqb size (4 ^ n) whole) refl

  -- Where it is 0, no cause applies.
  pub source_accepted : source_number n size short ≡ 0 → (n ≤ 8) × (size ≡ 4 ^ n) × (short ≡ false)
  unfolding source_number
  source_accepted e =
      let one = first-zero (when (ltb 8 n) 1) (first (when (not (eqb size (4 ^ n))) 9) (when short 8)) e in
      let nine = first-zero (when (not (eqb size (4 ^ n))) 9) (when short 8) one.1 in (
        ltb-false 8 n (when_zero (ltb 8 n) 1 (omega arith) one.0),
        eqb-true size (4 ^ n) (not-false (eqb size (4 ^ n)) (when_zero (not (eqb size (4 ^ n))) 9 (omega arith) nine.0)),
        when_zero short 8 (omega arith) nine.1,
      )
