-- Number after number, each by its own step.
use Rattle.least_order.specs.Counts.{counted_none, can_count_one, counted_more, counted_all}
use Rattle.least_order.proofs.count_children.Goals as goal

pub loop-v-init : goal.loop-v-init
loop-v-init c = counted_none

pub count_child-requires : goal.count_child-requires
count_child-requires c = can_count_one c.requires c.loop-v.invariant c.loop-v-test.true

pub loop-v-preserved : goal.loop-v-preserved
loop-v-preserved c = counted_more c.requires c.loop-v.invariant c.loop-v-test.true c.count_child.ensures

pub returns : goal.returns
returns c = counted_all c.requires c.loop-v.invariant c.loop-v-test.false
