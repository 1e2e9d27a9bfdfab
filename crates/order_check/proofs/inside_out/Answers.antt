-- `inside_out` meets its contract: the parents are found, the order is walked along, and the work list is cleared up to the last parent;
-- nothing else of it was written.
use native.Mathlib.Omega.{arith}
use Rattle.order_check.specs.Regions.{families, clear_room, judged}
use Rattle.order_check.proofs.inside_out.Goals as goal

pub find_parents-requires : goal.find_parents-requires
find_parents-requires c = c.requires.numbered

pub parents_last-right-requires : goal.parents_last-right-requires
parents_last-right-requires c = families c.requires c.pixels-whole.ensures c.find_parents.ensures

pub overflow_add-whole : goal.overflow_add-whole
overflow_add-whole c = omega (arith, clear_room c.requires c.pixels-whole.ensures c.find_parents.ensures c.parents_last-right.ensures)

pub fill-requires : goal.fill-requires
fill-requires c = (clear_room c.requires c.pixels-whole.ensures c.find_parents.ensures c.parents_last-right.ensures).1

pub returns : goal.returns
returns c = judged c.requires c.pixels-whole.ensures c.find_parents.ensures c.parents_last-right.ensures c.fill.ensures
