-- `each_once` meets its contract: an order of another length is not every number once; else the marks tell, and they are cleared again.
use mathlib.Core.Path.{refl, sym, ◌∙◌}
use Rattle.forests.specs.Checking.{once_of_other_length}
use Rattle.order_check.specs.Along.{blank_order, clear_room, as_before, once_tested}
use Rattle.order_check.proofs.each_once.Goals as goal

pub returns-then-order-count : goal.returns-then-order-count
returns-then-order-count c = (sym (once_of_other_length _ _ c.if-order-count.true), refl)

pub all_new-new-requires : goal.all_new-new-requires
all_new-new-requires c = blank_order c.args.order.now c.requires c.if-order-count.false

pub fill-requires : goal.fill-requires
fill-requires c = clear_room c.requires c.if-order-count.false c.all_new-new.ensures

pub returns : goal.returns
returns c = (
  once_tested c.requires c.if-order-count.false c.all_new-new.ensures,
  c.fill.ensures ∙ as_before c.requires c.if-order-count.false c.all_new-new.ensures,
)
