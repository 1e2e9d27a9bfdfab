-- Row after row.
use native.Mathlib.Omega.{arith}
use Rattle.rearranging.specs.Rows.{width, rows-begun, rows_more, rows-done, row_fits}
use Rattle.rearranging.proofs.moving.all_rows.Goals as goal

pub loop-y-init : goal.loop-y-init
loop-y-init g c = rows-begun _ _ _ _

pub one_row-requires : goal.one_row-requires
one_row-requires g c = row_fits _ _ _ c.loop-y.invariant c.requires (omega (arith, width c.requires c.side-y-end.ensures, c.loop-y-test.true))

pub loop-y-preserved : goal.loop-y-preserved
loop-y-preserved g c = rows_more _ _ _ c.loop-y.invariant (omega (arith, width c.requires c.side-y-end.ensures, c.loop-y-test.true)) c.one_row.ensures

pub returns : goal.returns
returns g c = rows-done _ _ _ c.loop-y.invariant (omega (arith, width c.requires c.side-y-end.ensures, c.loop-y-test.false)) c.requires.room
