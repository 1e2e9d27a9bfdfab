-- `arrange` meets its contract: the parents are found, their children counted, the order written, and the work list cleared up to the last
-- parent; nothing else of it was written.
use native.Mathlib.Omega.{arith}
use Rattle.least_order.specs.Regions.{can_count, can_arrange, clear_room, order_written}
use Rattle.least_order.proofs.arrange.Goals as goal

pub find_parents-requires : goal.find_parents-requires
find_parents-requires c = c.requires.numbered

pub count_children-requires : goal.count_children-requires
count_children-requires c = can_count c.requires c.pixels-whole.ensures c.find_parents.ensures

pub place_all-requires : goal.place_all-requires
place_all-requires c = can_arrange c.requires c.pixels-whole.ensures c.find_parents.ensures c.count_children.ensures

pub overflow_add-whole : goal.overflow_add-whole
overflow_add-whole c = omega (arith, clear_room c.requires c.pixels-whole.ensures c.find_parents.ensures c.count_children.ensures c.place_all.ensures)

pub fill-requires : goal.fill-requires
fill-requires c = (clear_room c.requires c.pixels-whole.ensures c.find_parents.ensures c.count_children.ensures c.place_all.ensures).1

pub returns : goal.returns
returns c = order_written c.requires c.pixels-whole.ensures c.find_parents.ensures c.count_children.ensures c.place_all.ensures c.fill.ensures
