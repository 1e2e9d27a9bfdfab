-- The number that raster to blocks answers.
use Rattle.std.specs.Prelude.{◌≡◌, Bool, ℕ, ◌^◌, ◌≤◌, ◌<◌, min, ltb}
use Rattle.std.proofs.Common.{sym, ◌∙◌, arith}
use Rattle.std.proofs.Math.Path.{ap}
use borrow.Author.Tests.{lt-ltb, le-ltb, ltb-false}
use Rattle.sequences.specs.Cases.{when, when_yes, when_no}
use Rattle.quadtree.specs.BlockLists.{one_short, short_by_least}
use Rattle.answers.specs.Rasters.{source_number, source_large, source_unlike, source_whole, source_accepted}

-- "Raster to blocks: 1, 9, 8", with a need of 4^n entries for each list (document 01, "When the answer is a number"). By the lengths of the
-- raster and of the three lists.
unfoldable pub raster_number : ℕ → ℕ → ℕ → ℕ → ℕ → ℕ
unfolding source_number one_short
raster_number n raster codes levels colours = source_number n raster (one_short (4 ^ n) codes levels colours)

-- The number cause by cause.
module _ (n raster cs ls ks : ℕ) where
  pub raster_large : 8 < n → raster_number n raster cs ls ks ≡ 1
  unfolding raster_number
  raster_large h = source_large n raster (one_short (4 ^ n) cs ls ks) h

  module _ (small : n ≤ 8) where
    pub raster_unlike : (raster ≡ 4 ^ n → ⊥) → raster_number n raster cs ls ks ≡ 9
    unfolding raster_number
    raster_unlike h = source_unlike n raster (one_short (4 ^ n) cs ls ks) small h

    module _ (whole : raster ≡ 4 ^ n) where
      whole_raster : raster_number n raster cs ls ks ≡ when (ltb (min cs (min ls ks)) (4 ^ n)) 8
      unfolding raster_number
      whole_raster = source_whole n raster (one_short (4 ^ n) cs ls ks) small whole ∙ ap (λ (t : Bool). when t 8) (short_by_least (4 ^ n) cs ls ks)

      pub least_short : min cs (min ls ks) < 4 ^ n → raster_number n raster cs ls ks ≡ 8
      least_short h = whole_raster ∙ when_yes (ltb (min cs (min ls ks)) (4 ^ n)) 8 (lt-ltb (min cs (min ls ks)) (4 ^ n) h)

      pub codes_short : cs < 4 ^ n → raster_number n raster cs ls ks ≡ 8
      codes_short h = least_short (omega arith)

      pub levels_short : ls < 4 ^ n → raster_number n raster cs ls ks ≡ 8
      levels_short h = least_short (omega arith)

      pub colours_short : ks < 4 ^ n → raster_number n raster cs ls ks ≡ 8
      colours_short h = least_short (omega arith)

      pub lengths_accepted : 4 ^ n ≤ cs → 4 ^ n ≤ ls → 4 ^ n ≤ ks → raster_number n raster cs ls ks ≡ 0
      lengths_accepted a b c = whole_raster ∙ when_no (ltb (min cs (min ls ks)) (4 ^ n)) 8 (le-ltb (min cs (min ls ks)) (4 ^ n) (omega arith))

-- Where it is 0, no cause applies.
module _ (n raster cs ls ks : ℕ) (e : raster_number n raster cs ls ks ≡ 0) where
  pub small_raster : (n ≤ 8) × (raster ≡ 4 ^ n)
  unfolding raster_number
  small_raster = let a = source_accepted n raster (one_short (4 ^ n) cs ls ks) e in (a.0, a.1)

  pub least_fits : 4 ^ n ≤ min cs (min ls ks)
  unfolding raster_number
  least_fits =
      let a = source_accepted n raster (one_short (4 ^ n) cs ls ks) e in
      ltb-false (min cs (min ls ks)) (4 ^ n) (sym (short_by_least (4 ^ n) cs ls ks) ∙ a.2)
