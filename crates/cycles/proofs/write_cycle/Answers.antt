-- The list's map with a margin is that of the numbers it holds, so the walk is along the cycle of the definition.
use native.Mathlib.Omega.{arith}
use Rattle.cycles.specs.CycleStarts.{PixelBounds, pixel_bounds}
use Rattle.cycles.specs.Written.{cycle_start, ready_to_walk, walk_is_cycle}
use Rattle.cycles.proofs.write_cycle.Goals as goal

pub overflow_cast-side : goal.overflow_cast-side
overflow_cast-side c =
    let bounds : PixelBounds (cycle_start c.requires) c.side-side.ensures = pixel_bounds (cycle_start c.requires) c.side-side.ensures in
    omega (arith, bounds.side_low)

pub overflow_mul-i : goal.overflow_mul-i
overflow_mul-i c =
    let bounds : PixelBounds (cycle_start c.requires) c.side-side.ensures = pixel_bounds (cycle_start c.requires) c.side-side.ensures in
    omega (arith, bounds.row)

pub overflow_add-i : goal.overflow_add-i
overflow_add-i c =
    let bounds : PixelBounds (cycle_start c.requires) c.side-side.ensures = pixel_bounds (cycle_start c.requires) c.side-side.ensures in
    omega (arith, bounds.row, bounds.x_low)

pub overflow_cast-i : goal.overflow_cast-i
overflow_cast-i c =
    let bounds : PixelBounds (cycle_start c.requires) c.side-side.ensures = pixel_bounds (cycle_start c.requires) c.side-side.ensures in
    omega (arith, bounds.row, bounds.x_low)

pub offset_bounds-map-i : goal.offset_bounds-map-i
offset_bounds-map-i c =
    let bounds : PixelBounds (cycle_start c.requires) c.side-side.ensures = pixel_bounds (cycle_start c.requires) c.side-side.ensures in
    omega (arith, bounds.row, bounds.x_low)

pub bounds-map-i : goal.bounds-map-i
bounds-map-i c =
    let bounds : PixelBounds (cycle_start c.requires) c.side-side.ensures = pixel_bounds (cycle_start c.requires) c.side-side.ensures in
    bounds.inside

pub walk-requires : goal.walk-requires
walk-requires c =
    let bounds : PixelBounds (cycle_start c.requires) c.side-side.ensures = pixel_bounds (cycle_start c.requires) c.side-side.ensures in
    (ready_to_walk c.requires c.side-side.ensures, omega (arith, bounds.x_low))

pub returns : goal.returns
returns c = walk_is_cycle c.requires c.side-side.ensures c.walk.ensures
