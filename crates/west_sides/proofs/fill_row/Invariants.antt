-- The loop's invariant: the places before x are filled, and `west` is the entry of the last of them.
use Rattle.west_sides.specs.Rows.{InRow}
use Rattle.west_sides.proofs.fill_row.Given as goal

abbrev pub invariant-loop-x : goal.invariant-loop-x
invariant-loop-x l = InRow l.initial.row l.row l.west l.x
