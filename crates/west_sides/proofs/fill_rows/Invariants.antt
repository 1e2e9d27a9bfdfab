-- The loop's invariant: the rows before y are filled, the others are as they were.
use Rattle.west_sides.specs.Rows.{NextRow}
use Rattle.west_sides.proofs.fill_rows.Given as goal

abbrev pub invariant-loop-y : goal.invariant-loop-y
invariant-loop-y l = NextRow l.side l.initial.map l.map l.y
