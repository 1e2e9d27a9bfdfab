-- The loop's invariant: no root has changed, and the place reached has the root of i. The measure: the place reached, since a
-- parent's parent is smaller unless the place is a root.
use Rattle.unions.specs.Halving.{Seeking}
use Rattle.unionfind.proofs.find.Given as goal

abbrev pub invariant-loop-at : goal.invariant-loop-at
invariant-loop-at l = Seeking l.initial.parents l.i l.parents l.at

abbrev pub decreases-loop-at : goal.decreases-loop-at
decreases-loop-at l = l.at
