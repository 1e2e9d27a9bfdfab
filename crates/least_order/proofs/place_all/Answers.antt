-- Number after number, each by its own step.
use Rattle.least_order.specs.Arranged.{arranged_none, can_place, arranged_more, arranged_all}
use Rattle.least_order.proofs.place_all.Goals as goal

pub loop-v-init : goal.loop-v-init
loop-v-init c = arranged_none

pub place-at-requires : goal.place-at-requires
place-at-requires c = can_place c.requires c.loop-v.invariant c.loop-v-test.true

pub loop-v-preserved : goal.loop-v-preserved
loop-v-preserved c = arranged_more c.requires c.loop-v.invariant c.loop-v-test.true c.place-at.ensures

pub returns : goal.returns
returns c = arranged_all c.requires c.loop-v.invariant c.loop-v-test.false
