-- `list_row` meets its contract. The loop's invariant: the pixels before the column i are done, those from it on come next.
use Rattle.starts.specs.Progress.{state}
use Rattle.starts.specs.Rows.{RowTo}
use Rattle.starts.proofs.list_row.Given as goal

abbrev pub invariant-loop-i : goal.invariant-loop-i
invariant-loop-i l =
    RowTo l.n l.x l.y l.width (state l.initial.work l.initial.owners l.initial.ends l.initial.corners l.initial.areas l.initial.listed) (state l.work l.owners l.ends l.corners l.areas l.listed) l.i
