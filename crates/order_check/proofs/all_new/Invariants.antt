-- `all_new` meets its contract. The loop's invariant: the entries before this one are new, and they are marked; the others decide.
use Rattle.order_check.specs.Along.{new_test, MarkedTo}
use Rattle.order_check.proofs.all_new.Given as goal

abbrev pub invariant-loop-number : goal.invariant-loop-number
invariant-loop-number l = MarkedTo (new_test l.order) l.order l.initial.work l.work l.number-index
