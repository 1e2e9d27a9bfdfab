-- `colour_at` meets its contract: the entry of the map is 1 plus the number of the pixel, and there is a colour for it.
use native.Mathlib.Omega.{arith}
use Rattle.pixel_numbers.specs.Neighbours.{entry}
use Rattle.pixel_numbers.proofs.colour_at.Goals as goal

pub overflow_mul-number : goal.overflow_mul-number
overflow_mul-number c = omega (arith, (entry c.requires c.side.ensures).low)

pub overflow_add-number : goal.overflow_add-number
overflow_add-number c = omega (arith, (entry c.requires c.side.ensures).low)

pub offset_bounds-work-y : goal.offset_bounds-work-y
offset_bounds-work-y c = omega (arith, (entry c.requires c.side.ensures).low)

pub bounds-work-y : goal.bounds-work-y
bounds-work-y c = (entry c.requires c.side.ensures).inside

pub overflow_sub-number : goal.overflow_sub-number
overflow_sub-number c = omega (arith, (entry c.requires c.side.ensures).some)

pub bounds-colours-number : goal.bounds-colours-number
bounds-colours-number c = omega (arith, (entry c.requires c.side.ensures).some, (entry c.requires c.side.ensures).known)

pub returns : goal.returns
returns c = (entry c.requires c.side.ensures).colour
