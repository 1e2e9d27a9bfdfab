-- The loop's invariant: y rows are filled.
use Rattle.std.specs.Prelude.{◌≡◌}
use Rattle.squares.specs.Filling.{fill_rows}
use Rattle.squares.proofs.fill_square.Given as goal

abbrev pub invariant-loop-y : goal.invariant-loop-y
invariant-loop-y g l = l.list ≡ fill_rows l.initial.list l.w l.at l.s l.y l.v
