-- The loop's invariant: the rows before y are moved.
use Rattle.rearranging.specs.Rows.{RowsMoved}
use Rattle.rearranging.proofs.moving.all_rows.Given as goal

abbrev pub invariant-loop-y : goal.invariant-loop-y
invariant-loop-y g l = RowsMoved g.D.Direction.way l.n l.source l.initial.target l.target l.y
