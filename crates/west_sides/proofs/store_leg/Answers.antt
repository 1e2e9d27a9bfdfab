-- A leg that does not go north stores nothing. One that does is stored where it begins inside the image and is no longer than the units.
use native.Mathlib.Omega.{arith}
use Rattle.lattice.specs.Directions.{x_of, y_of}
use Rattle.west_sides.specs.Legs.{leg_not_north, leg_east_of_image, leg_south_of_image, leg_too_long, leg_stored}
use Rattle.west_sides.proofs.store_leg.Goals as goal
use Rattle.west_sides.proofs.store_leg.Goals.{then-side-x-via-then-side-x, then-side-x-via-else-side-x+then-side-from, then-side-x-via-else-side-x+else-side-from+then-units-from}

pub returns-then-from-to : goal.returns-then-from-to
unfolding y_of
returns-then-from-to c = leg_not_north _ _ _ _ _ _ c.if-from-to.true

pub returns-then-side-x : goal.returns-then-side-x
unfolding x_of y_of
returns-then-side-x c =
    let n = c.if-from-to.false in
    elim c.then-side-x.branch [
      | then-side-x-via-then-side-x w ↦ leg_east_of_image _ _ _ _ (omega (arith, n)) _ _ _ w.if-side-x.true
      | then-side-x-via-else-side-x+then-side-from w ↦ leg_south_of_image _ _ _ _ (omega (arith, n)) _ _ _ w.if-side-from.true
      | then-side-x-via-else-side-x+else-side-from+then-units-from w ↦ leg_too_long _ _ _ _ (omega (arith, n)) _ _ _ w.if-units-from.true
    ]

pub returns : goal.returns
unfolding x_of y_of
returns c =
    leg_stored _ _ _ _ (omega (arith, c.if-from-to.false)) _ c.if-side-x.false c.if-side-from.false c.if-units-from.false
    c.store_north.auto.map c.store_north.ensures
