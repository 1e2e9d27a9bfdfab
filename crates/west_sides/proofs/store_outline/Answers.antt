-- Each leg leaves one leg less to store; the last goes back to the first corner.
use native.Mathlib.Omega.{arith}
use Rattle.std.proofs.lemmas.Bool.Decides.{nat_tests}
use Rattle.std.proofs.Common.{◌-◌, length, drop, length-take, length-drop}
use Rattle.west_sides.specs.Outlines.{no_corners, first_leg, one_leg_more, leg_not_stored, closing_leg, later_corner}
use Rattle.west_sides.proofs.store_outline.Goals as goal

pub returns-then-is_empty : goal.returns-then-is_empty
returns-then-is_empty c = no_corners _ _ _ _ _ (grind (arith, nat_tests))

pub loop-q-init : goal.loop-q-init
loop-q-init c = first_leg _ _ _ _ _ (grind (arith, nat_tests))

pub returns-in_err-left : goal.returns-in_err-left
returns-in_err-left c =
    let next = later_corner c.args.points.now c.loop-q.q-index c.loop-q-test.true in
    rw c.from_residual.ensures (leg_not_stored c.loop-q.invariant next.0 next.1 c.in_err-left.ensures)

pub loop-q-preserved : goal.loop-q-preserved
loop-q-preserved c =
    let next = later_corner c.args.points.now c.loop-q.q-index c.loop-q-test.true in
    one_leg_more c.loop-q.invariant next.0 next.1 c.in_ok-left.ensures

pub returns : goal.returns
returns c = closing_leg c.loop-q.invariant (omega (arith, c.loop-q-test.false, length-take (length c.args.points.now - 1) (drop 1 c.args.points.now), length-drop 1 c.args.points.now)) c.store_leg-2.ensures
