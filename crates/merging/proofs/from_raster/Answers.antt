-- The tests stand in the order 1, 9, 8, and the least of the three lengths tells whether a list is too short; a refusal writes nothing.
-- Past them the blocks merged are the quadtree.
use mathlib.Core.Path.{sym, ◌∙◌}
use native.Mathlib.Omega.{arith}
use Rattle.location.specs.Levels.{pixels_are_power}
use Rattle.merging.specs.RasterNumber.{raster_large, raster_unlike, least_short, lengths_accepted}
use Rattle.merging.specs.Promise.{blocks_fit, raster_refused, raster_merged}
use Rattle.merging.specs.MergeLoop.{merged_few}
use Rattle.merging.proofs.from_raster.Goals as goal

pub returns-then-n-gt8 : goal.returns-then-n-gt8
returns-then-n-gt8 c = raster_refused _ _ _ _ _ (λ e. omega arith) (sym (raster_large _ _ _ _ _ c.if-n-gt8.true))

pub returns-then-raster-whole : goal.returns-then-raster-whole
returns-then-raster-whole c =
    let whole = pixels_are_power c.args.n (omega (arith, c.if-n-gt8.false)) in
    raster_refused _ _ _ _ _ (λ e. omega arith)
    (sym (raster_unlike _ _ _ _ _ c.if-n-gt8.false (λ e. c.if-raster-whole.true (e ∙ sym (c.pixels-whole.ensures ∙ whole)))))

pub returns-then-room-whole : goal.returns-then-room-whole
returns-then-room-whole c =
    let whole = pixels_are_power c.args.n (omega (arith, c.if-n-gt8.false)) in
    raster_refused _ _ _ _ _ (λ e. omega arith) (sym (least_short _ _ _ _ _ c.if-n-gt8.false (omega arith) (omega arith)))

pub merge-requires : goal.merge-requires
merge-requires c =
    let whole = pixels_are_power c.args.n (omega (arith, c.if-n-gt8.false)) in
    blocks_fit _ _ _ _ _ (lengths_accepted _ _ _ _ _ c.if-n-gt8.false (omega arith) (omega arith) (omega arith) (omega arith))

pub overflow_cast-result : goal.overflow_cast-result
overflow_cast-result c = omega (arith, merged_few c.if-n-gt8.false c.merge.ensures)

pub returns : goal.returns
returns c =
    let whole = pixels_are_power c.args.n (omega (arith, c.if-n-gt8.false)) in
    raster_merged _ _ _ _ _ (lengths_accepted _ _ _ _ _ c.if-n-gt8.false (omega arith) (omega arith) (omega arith) (omega arith)) c.merge.ensures
