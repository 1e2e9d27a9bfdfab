-- `parents_last` meets its contract. The loop's invariant: no entry before this one comes after its parent, and they are marked; the others
-- decide.
use Rattle.forests.specs.Checking.{parent_later}
use Rattle.order_check.specs.Along.{parents_in, MarkedTo}
use Rattle.order_check.proofs.parents_last.Given as goal

abbrev pub invariant-loop-region : goal.invariant-loop-region
invariant-loop-region l = MarkedTo (parent_later (parents_in l.whole l.initial.work)) l.order l.initial.work l.work l.region-index
