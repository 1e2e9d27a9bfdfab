-- The loop's invariant: the corners written and those of the edges that are left are all corners of the cycle, so for the marks, the area is
-- that of the edges walked, and a run along a row comes next. The measure: the edges that are left.
use Rattle.lattice.specs.Directions.{point, edge}
use Rattle.cycles.specs.Rounds.{left_after}
use Rattle.cycles.specs.Turns.{RowDue}
use Rattle.cycles.proofs.walk.Given as goal

abbrev pub invariant-loop-start : goal.invariant-loop-start
invariant-loop-start l = RowDue l.side l.r l.column l.row l.initial.map l.initial.corners l.map l.corners l.used l.area l.edge.x l.edge.y l.edge.d

abbrev pub decreases-loop-start : goal.decreases-loop-start
decreases-loop-start l = left_after l.side (edge (point l.column l.row) 0) l.initial.map l.edge.x l.edge.y l.edge.d
