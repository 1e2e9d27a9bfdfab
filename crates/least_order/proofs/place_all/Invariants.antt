-- `place_all` meets its contract. The loop's invariant: what the numbers below v come to is written.
use Rattle.least_order.specs.Arranged.{ArrangedTo}
use Rattle.least_order.proofs.place_all.Given as goal

abbrev pub invariant-loop-v : goal.invariant-loop-v
invariant-loop-v l = ArrangedTo l.whole l.count l.initial.work l.initial.order l.work l.order l.at l.v
