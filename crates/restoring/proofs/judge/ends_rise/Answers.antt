-- Each end is asked whether it rises past the one before.
use Rattle.restoring.specs.Ends.{all_ends, next_end, end_too_low, no_end_left}
use Rattle.restoring.proofs.judge.ends_rise.Goals as goal

pub loop-end-init : goal.loop-end-init
loop-end-init c = all_ends _ _

pub returns-then-end-from : goal.returns-then-end-from
returns-then-end-from c = end_too_low c.loop-end.invariant c.loop-end-test.true c.if-end-from.true

pub loop-end-preserved : goal.loop-end-preserved
loop-end-preserved c = next_end c.loop-end.invariant c.loop-end-test.true c.if-end-from.false

pub returns : goal.returns
returns c = no_end_left c.loop-end.invariant c.loop-end-test.false
