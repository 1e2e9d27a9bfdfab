-- What blocks to raster promises: the answer, and the later content of the raster.
use Rattle.std.specs.Prelude.{◌≡◌, ℕ, ◌^◌, ◌≤◌, ◌<◌}
use Rattle.std.proofs.Math.Path.{sym}
use Rattle.std.proofs.Common.{ap, ◌∙◌, arith}
use Rattle.std.proofs.Math.Bool.{false}
use mathlib.Core.List.{List, []}
use Rattle.std.proofs.Math.ListN.{length}
use Rattle.std.proofs.Math.Dec.{ltb}
use borrow.Author.Tests.{lt-ltb, le-ltb}
use Rattle.sequences.specs.Cases.{when, if_accepted, first_some, first_none, when_yes, when_no, written_accepted, written_refused}
use Rattle.sequences.specs.Over.{over, over_none}
use Rattle.sequences.specs.Powers.{pow4_mono}
use Rattle.location.specs.Levels.{pixels_of, pixels_are_power}
use Rattle.quadtree.specs.Blocks.{blocks, paint}
use Rattle.quadtree.specs.Number.{number, number_with}
use Rattle.quadtree.specs.Raster.{in_rows}
use Rattle.quadtree.specs.Orders.{length_in_rows}
use Rattle.quadtree.specs.Accepted.{Passes, number-zero}
use Rattle.squares.specs.BlockByBlock.{Paintable}
use Rattle.answers.specs.declared.Written.{Written}

-- Blocks to raster: 1 to 7, then 8 for the raster of 4^n entries.
unfoldable pub paint_number : ℕ → List ℕ → List ℕ → List ℕ → List ℕ → ℕ
unfolding number_with
paint_number n cs ls ks raster = number_with (ltb (length raster) (4 ^ n)) n cs ls ks

-- The entries written: the image row by row, none on a refusal.
unfoldable pub raster_written : ℕ → List ℕ → List ℕ → List ℕ → List ℕ → List ℕ
unfolding if_accepted paint_number in_rows paint blocks
raster_written n cs ls ks raster = if_accepted (paint_number n cs ls ks raster) (in_rows n (paint (blocks cs ls ks)))

-- The image laid over the front of a raster.
abbrev pub image_over : ℕ → List ℕ → List ℕ → List ℕ → List ℕ → List ℕ
image_over n cs ls ks raster = over (in_rows n (paint (blocks cs ls ks))) raster

-- Blocks to raster, the raster before and raster₁ after.
pub record ToRaster (n : ℕ) (cs ls ks raster raster₁ : List ℕ) (r : Written) : Type 0 where
  pub answer : r ≡ record { number = paint_number n cs ls ks raster; count = length (raster_written n cs ls ks raster) }
  pub in_raster : raster₁ ≡ over (raster_written n cs ls ks raster) raster

-- The number of a block list and a raster to paint, cause by cause.
module _ (n : ℕ) (cs ls ks raster : List ℕ) where
  pub paint_accepted : number n cs ls ks ≡ 0 → 4 ^ n ≤ length raster → paint_number n cs ls ks raster ≡ 0
  unfolding paint_number number_with
  paint_accepted e enough =
      let long : ltb (length raster) (4 ^ n) ≡ false = le-ltb (length raster) (4 ^ n) enough in
      first_none (number n cs ls ks) (when (ltb (length raster) (4 ^ n)) 8) e ∙ when_no (ltb (length raster) (4 ^ n)) 8 long

  pub image_written : paint_number n cs ls ks raster ≡ 0 → raster_written n cs ls ks raster ≡ in_rows n (paint (blocks cs ls ks))
  unfolding raster_written
  image_written e = written_accepted (paint_number n cs ls ks raster) (in_rows n (paint (blocks cs ls ks))) e

  -- A refusal returns its number and leaves the raster.
  paint_refused : {k : ℕ} → 0 < k → k ≡ paint_number n cs ls ks raster → ToRaster n cs ls ks raster raster (record { number = k; count = 0 })
  unfolding raster_written
  paint_refused {k} p e =
      let none : raster_written n cs ls ks raster ≡ [] = written_refused (paint_number n cs ls ks raster) (in_rows n (paint (blocks cs ls ks))) (omega arith) in
      record { answer = λ i. record { number = e i; count = length (sym none i) }; in_raster = sym (ap (λ (l : List ℕ). over l raster) none ∙ over_none raster) }

  pub list_refused : {fault : ℕ} → fault ≡ number n cs ls ks → (fault ≡ 0 → ⊥) → ToRaster n cs ls ks raster raster (record { number = fault; count = 0 })
  unfolding paint_number number_with
  list_refused {fault} e some =
      paint_refused (omega arith) (e ∙ sym (first_some (number n cs ls ks) (when (ltb (length raster) (4 ^ n)) 8) (omega (arith, e))))

  -- The list is accepted; `whole` is the number of pixels.
  module _ {fault whole : ℕ} (e : fault ≡ number n cs ls ks) (none : fault ≡ 0) (w : whole ≡ pixels_of n) where
    ok : Passes n cs ls ks
    ok = number-zero n cs ls ks (sym e ∙ none)

    size : whole ≡ 4 ^ n
    size = w ∙ pixels_are_power n (omega (arith, ok.small))

    pub raster_short : length raster < whole → ToRaster n cs ls ks raster raster (record { number = 8; count = 0 })
    unfolding paint_number number_with
    raster_short h =
        paint_refused (omega arith)
        (sym (first_none (number n cs ls ks) (when (ltb (length raster) (4 ^ n)) 8) (sym e ∙ none) ∙ when_yes (ltb (length raster) (4 ^ n)) 8 (lt-ltb (length raster) (4 ^ n) (omega (arith, size)))))

    module _ (enough : whole ≤ length raster) where
      pub paintable : Paintable n cs ls ks raster
      paintable = record {
        small = ok.small;
        long = record { levels_too = ok.equal_levels; colours_too = ok.equal_colours };
        covered = ok.covering;
        enough = omega (arith, size);
      }

      pub raster_painted : {raster₁ : List ℕ} → raster₁ ≡ image_over n cs ls ks raster
          → ToRaster n cs ls ks raster raster₁ (record { number = 0; count = whole })
      raster_painted {raster₁} p =
          let zero_number : paint_number n cs ls ks raster ≡ 0 = paint_accepted (sym e ∙ none) (omega (arith, size)) in
          let all : raster_written n cs ls ks raster ≡ in_rows n (paint (blocks cs ls ks)) = image_written zero_number in
          record {
            answer = λ i. record { number = sym zero_number i; count = (size ∙ sym (length_in_rows n (paint (blocks cs ls ks))) ∙ ap length (sym all)) i };
            in_raster = p ∙ ap (λ (l : List ℕ). over l raster) (sym all);
          }

-- The number of pixels of an accepted list's image.
pub whole_fits : (n : ℕ) (cs ls ks : List ℕ) {fault whole : ℕ} → fault ≡ number n cs ls ks → fault ≡ 0 → whole ≡ pixels_of n → whole ≤ 65536
whole_fits n cs ls ks e none w =
    let small = (number-zero n cs ls ks (sym e ∙ none)).small in
    omega (arith, w, pixels_are_power n (omega (arith, small)), pow4_mono small)
