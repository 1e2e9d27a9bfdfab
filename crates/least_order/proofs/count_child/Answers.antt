-- `count_child` meets its contract: a number without a parent is no child; else the entry of its parent grows by one.
use native.Mathlib.Omega.{arith}
use Rattle.least_order.specs.Counts.{parent_place, root_counted, count-place, child_counted}
use Rattle.least_order.specs.Arranged.{one_above}
use Rattle.least_order.proofs.count_child.Goals as goal

pub overflow_add-whole : goal.overflow_add-whole
overflow_add-whole c = omega (arith, parent_place c.requires, c.requires.small)

pub offset_bounds-work-whole : goal.offset_bounds-work-whole
offset_bounds-work-whole c = omega (arith, parent_place c.requires, c.requires.small)

pub bounds-work-whole : goal.bounds-work-whole
bounds-work-whole c = (parent_place c.requires).0

pub returns-in_default : goal.returns-in_default
returns-in_default c = root_counted c.requires (omega (arith, c.in_default.ensures))

pub offset_bounds-work-up : goal.offset_bounds-work-up
offset_bounds-work-up c = omega (arith, count-place c.requires (one_above c.in-Some.ensures), parent_place c.requires, c.requires.small)

pub bounds-work-up : goal.bounds-work-up
bounds-work-up c = (count-place c.requires (one_above c.in-Some.ensures)).1

pub bounds-work-up-2 : goal.bounds-work-up-2
bounds-work-up-2 c = (count-place c.requires (one_above c.in-Some.ensures)).1

pub overflow_add-work : goal.overflow_add-work
overflow_add-work c = omega (arith, (count-place c.requires (one_above c.in-Some.ensures)).2)

pub returns : goal.returns
returns c = child_counted c.requires (one_above c.in-Some.ensures)
