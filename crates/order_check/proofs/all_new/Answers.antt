-- Each number is asked whether it is new.
use Rattle.order_check.specs.Along.{begin, all_pass, too_large, number_fits, met_before, is_new_lem}
use Rattle.order_check.proofs.all_new.Goals as goal

pub loop-number-init : goal.loop-number-init
loop-number-init c = begin _ c.requires

pub returns-then-order-v : goal.returns-then-order-v
returns-then-order-v c = too_large c.loop-number.invariant c.loop-number-test.true c.if-order-v.true

pub bounds-work-v : goal.bounds-work-v
bounds-work-v c = number_fits c.loop-number.invariant c.loop-number-test.true c.if-order-v.false

pub returns-then-work-v-ne0 : goal.returns-then-work-v-ne0
returns-then-work-v-ne0 c = met_before c.loop-number.invariant c.loop-number-test.true c.if-order-v.false c.if-work-v-ne0.true

pub bounds-work-v-in-loop-number : goal.bounds-work-v-in-loop-number
bounds-work-v-in-loop-number c = number_fits c.loop-number.invariant c.loop-number-test.true c.if-order-v.false

pub loop-number-preserved : goal.loop-number-preserved
loop-number-preserved c = is_new_lem c.loop-number.invariant c.loop-number-test.true c.if-order-v.false c.if-work-v-ne0.false

pub returns : goal.returns
returns c = all_pass c.loop-number.invariant c.loop-number-test.false
