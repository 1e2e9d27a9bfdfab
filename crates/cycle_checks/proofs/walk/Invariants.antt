-- The loop's invariant: the corners taken are as given, the marks made and those of the edges that are left are the marks of the cycle, and no
-- edge walked has a pixel with a smaller code on its right than the first. The measure: the edges that are left.
use Rattle.lattice.specs.Directions.{point, edge}
use Rattle.cycles.specs.Rounds.{left_after}
use Rattle.cycle_checks.specs.Comparing.{Comparing}
use Rattle.cycle_checks.proofs.walk.Given as goal

abbrev pub invariant-loop-start : goal.invariant-loop-start
invariant-loop-start l = Comparing l.side l.r (edge (point l.column l.row) 0) l.initial.map l.given l.map l.used l.edge.x l.edge.y l.edge.d

abbrev pub decreases-loop-start : goal.decreases-loop-start
decreases-loop-start l = left_after l.side (edge (point l.column l.row) 0) l.initial.map l.edge.x l.edge.y l.edge.d
