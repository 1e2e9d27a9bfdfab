-- `rise` meets its contract. The loop's invariant: what stands before u on the way up is written, and counted as no longer missing. The
-- measure is u: parents are smaller.
use Rattle.least_order.specs.Arranged.{Rises}
use Rattle.least_order.proofs.rise.Given as goal

abbrev pub invariant-loop-up : goal.invariant-loop-up
invariant-loop-up l = Rises l.whole l.v l.at l.initial.work l.initial.order l.work l.order l.u l.k

abbrev pub decreases-loop-up : goal.decreases-loop-up
decreases-loop-up l = l.u
