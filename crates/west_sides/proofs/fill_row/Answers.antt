use native.Mathlib.Omega.{arith}
use Rattle.west_sides.specs.Rows.{row_begin, row_again}
use Rattle.west_sides.proofs.fill_row.Goals as goal

pub loop-x-init : goal.loop-x-init
loop-x-init c = row_begin _

pub loop-x-preserved : goal.loop-x-preserved
loop-x-preserved c = row_again c.loop-x.invariant (omega (arith, c.loop-x.invariant.long)) c.own_or_west-west.ensures
