-- The loop's invariant: the pixels of the row before x are moved.
use Rattle.rearranging.specs.Rows.{RowMoved}
use Rattle.rearranging.proofs.moving.one_row.Given as goal

abbrev pub invariant-loop-x : goal.invariant-loop-x
invariant-loop-x g l = RowMoved g.D.Direction.way l.n l.source l.y l.initial.target l.target l.x
