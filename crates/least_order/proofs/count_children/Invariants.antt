-- `count_children` meets its contract. The loop's invariant: the numbers below v are counted.
use Rattle.least_order.specs.Counts.{CountedTo}
use Rattle.least_order.proofs.count_children.Given as goal

abbrev pub invariant-loop-v : goal.invariant-loop-v
invariant-loop-v l = CountedTo l.whole l.count l.initial.work l.work l.v
