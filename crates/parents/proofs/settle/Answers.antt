-- `settle` meets its contract: the parent is stored behind the map, so the map is the same, and then the first cycle is marked.
use native.Mathlib.Omega.{arith}
use Rattle.parents.specs.OneRegion.{least_here, parent_place, cycle-starts, region_settled}
use Rattle.parents.proofs.settle.Goals as goal

pub overflow_add-at : goal.overflow_add-at
overflow_add-at c = omega (arith, parent_place c.requires c.column-x.ensures c.row-y.ensures c.pixels.ensures)

pub parent_at-requires : goal.parent_at-requires
parent_at-requires c = least_here c.requires c.column-x.ensures c.row-y.ensures

pub offset_bounds-work-at : goal.offset_bounds-work-at
offset_bounds-work-at c = omega (arith, parent_place c.requires c.column-x.ensures c.row-y.ensures c.pixels.ensures)

pub bounds-work-at : goal.bounds-work-at
bounds-work-at c = (parent_place c.requires c.column-x.ensures c.row-y.ensures c.pixels.ensures).0

pub mark_south_sides-requires : goal.mark_south_sides-requires
mark_south_sides-requires c = cycle-starts c.requires c.column-x.ensures c.row-y.ensures c.pixels.ensures c.parent_at.ensures

pub returns : goal.returns
returns c = region_settled c.requires c.column-x.ensures c.row-y.ensures c.pixels.ensures c.parent_at.ensures c.mark_south_sides.ensures
