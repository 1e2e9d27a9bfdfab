-- The loop's invariant: the marks made and those of the edges that are left are the marks of the cycle, and a run along a row comes next.
-- The measure: the edges that are left.
use mathlib.Core.Path.{◌≡◌}
use Prim.Native.Nat.{◌%◌}
use Rattle.lattice.specs.Directions.{point, edge}
use Rattle.cycles.specs.Rounds.{left_after}
use Rattle.first_cycles.specs.Walking.{NextEdge}
use Rattle.first_cycles.proofs.walk.Given as goal

abbrev pub invariant-loop-start : goal.invariant-loop-start
invariant-loop-start l = NextEdge l.side l.r (edge (point l.column l.row) 0) l.initial.map l.map l.edge.x l.edge.y l.edge.d × (l.edge.d % 2 ≡ 0)

abbrev pub decreases-loop-start : goal.decreases-loop-start
decreases-loop-start l = left_after l.side (edge (point l.column l.row) 0) l.initial.map l.edge.x l.edge.y l.edge.d
