-- The place lies within the corner list, so the part is the very stretch there.
use Rattle.std.proofs.Common.{refl, arith}
use Rattle.stretches.specs.Stretch.{place_fits, part_at}
use Rattle.stretches.proofs.cycle.Goals as goal

pub overflow_add-result : goal.overflow_add-result
overflow_add-result c = omega (arith, place_fits c.cycle_place-start.ensures)

pub offset_bounds-corners-start : goal.offset_bounds-corners-start
offset_bounds-corners-start c = omega (arith, place_fits c.cycle_place-start.ensures)

pub slice_bounds-result-end : goal.slice_bounds-result-end
slice_bounds-result-end c = omega (arith, place_fits c.cycle_place-start.ensures)

pub returns : goal.returns
returns c =
    let place = c.cycle_place-start in
    record { corners_are = part_at place.result place.ensures; same_memory = refl; lies_at = omega (arith, place.ensures.start_is) }
