-- Each turn fills the next row.
use Rattle.std.proofs.Common.{refl, add-one}
use Rattle.squares.specs.Filling.{fill_rows}
use Rattle.squares.proofs.fill_square.Goals as goal

pub loop-y-init : goal.loop-y-init
unfolding fill_rows
loop-y-init g c = refl

pub loop-y-preserved : goal.loop-y-preserved
unfolding fill_rows
loop-y-preserved g c = rw (c.fill.ensures, c.loop-y.invariant, add-one) refl
