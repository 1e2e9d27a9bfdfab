-- What a caller of blocks to raster knows, from its promise, about the raster at exit.
use Rattle.std.specs.Prelude.{◌≡◌, List, [], ℕ, ◌^◌, ◌≤◌, ◌<◌, length, take}
use Rattle.std.proofs.Common.{ap, ap₂, ◌∙◌, arith}
use Rattle.sequences.specs.Cases.{written_refused}
use Rattle.sequences.specs.Over.{over, take_over, over_none}
use Rattle.quadtree.specs.Blocks.{blocks, paint}
use Rattle.quadtree.specs.Number.{number}
use Rattle.quadtree.specs.Raster.{in_rows}
use Rattle.quadtree.specs.Orders.{length_in_rows}
use Rattle.answers.specs.declared.Written.{Written}
use Rattle.painting.specs.Promise.{paint_number, raster_written, ToRaster, paint_accepted, image_written}

-- Blocks to raster of an accepted list, the raster long enough: its image row by row.
pub painted : {n : ℕ} {cs ls ks old raster₁ : List ℕ} {s : Written} → number n cs ls ks ≡ 0 → 4 ^ n ≤ length old → ToRaster n cs ls ks old raster₁ s
    → (s.number ≡ 0) × (s.count ≡ 4 ^ n) × (take s.count raster₁ ≡ in_rows n (paint (blocks cs ls ks)))
painted {n} {cs} {ls} {ks} {old} {raster₁} {s} e room q =
    let none : paint_number n cs ls ks old ≡ 0 = paint_accepted n cs ls ks old e room in
    let all : raster_written n cs ls ks old ≡ in_rows n (paint (blocks cs ls ks)) = image_written n cs ls ks old none in
    let count : s.count ≡ length (in_rows n (paint (blocks cs ls ks))) = ap (λ (w : Written). w.count) q.answer ∙ ap length all in (
      ap (λ (w : Written). w.number) q.answer ∙ none,
      count ∙ length_in_rows n (paint (blocks cs ls ks)),
      ap₂ take count (q.in_raster ∙ ap (λ (l : List ℕ). over l old) all) ∙ take_over (in_rows n (paint (blocks cs ls ks))) old,
    )

-- After a refusal the count is 0 and the raster is as it was.
pub list-refusal_leaves_raster : {n : ℕ} {cs ls ks old raster₁ : List ℕ} {s : Written} → ToRaster n cs ls ks old raster₁ s → 0 < s.number
    → (s.count ≡ 0) × (raster₁ ≡ old)
unfolding raster_written
list-refusal_leaves_raster {n} {cs} {ls} {ks} {old} {raster₁} {s} q refused =
    let some : 0 < paint_number n cs ls ks old = omega (arith, ap (λ (w : Written). w.number) q.answer) in
    let none : raster_written n cs ls ks old ≡ [] = written_refused (paint_number n cs ls ks old) (in_rows n (paint (blocks cs ls ks))) some in
    (ap (λ (w : Written). w.count) q.answer ∙ ap length none, q.in_raster ∙ ap (λ (l : List ℕ). over l old) none ∙ over_none old)
