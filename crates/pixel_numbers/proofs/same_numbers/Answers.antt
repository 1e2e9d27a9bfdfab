-- Each pixel's two numbers are compared, so where no two differ the lists are equal.
use native.Mathlib.Omega.{arith}
use Rattle.pixel_numbers.specs.Parents.{part_inside, whole_is}
use Rattle.pixel_numbers.specs.Comparing.{finish, place_inside, some_number, again, differ}
use Rattle.pixel_numbers.proofs.same_numbers.Goals as goal

pub overflow_add-whole : goal.overflow_add-whole
overflow_add-whole c =
    let inside = part_inside c.requires.small c.pixels-whole.ensures c.requires.room in
    omega (arith, c.loop-c-test.true, inside.0)

pub offset_bounds-work-whole : goal.offset_bounds-work-whole
offset_bounds-work-whole c =
    let inside = part_inside c.requires.small c.pixels-whole.ensures c.requires.room in
    omega (arith, c.loop-c-test.true, inside.0)

pub bounds-work-whole : goal.bounds-work-whole
bounds-work-whole c =
    let inside = part_inside c.requires.small c.pixels-whole.ensures c.requires.room in
    omega (arith, c.loop-c-test.true, inside.1)

pub overflow_cast-c : goal.overflow_cast-c
overflow_cast-c c =
    let inside = part_inside c.requires.small c.pixels-whole.ensures c.requires.room in
    omega (arith, c.loop-c-test.true, inside.0)

pub offset_bounds-work-place : goal.offset_bounds-work-place
offset_bounds-work-place c =
    let inside = part_inside c.requires.small c.pixels-whole.ensures c.requires.room in
    let place = place_inside c.requires c.pixels-whole.ensures c.loop-c-test.true c.place.ensures in
    omega (arith, place, whole_is c.requires.small c.pixels-whole.ensures, inside.0)

pub bounds-work-place : goal.bounds-work-place
bounds-work-place c =
    omega (arith, place_inside c.requires c.pixels-whole.ensures c.loop-c-test.true c.place.ensures, c.requires.room)

pub overflow_sub-work : goal.overflow_sub-work
overflow_sub-work c = omega (arith, some_number c.requires c.pixels-whole.ensures c.loop-c-test.true c.place.ensures)

pub returns-then-work-whole : goal.returns-then-work-whole
returns-then-work-whole c = differ c.requires c.pixels-whole.ensures c.loop-c-test.true c.place.ensures c.if-work-whole.true

pub loop-c-preserved : goal.loop-c-preserved
loop-c-preserved c = again c.requires c.pixels-whole.ensures c.loop-c-test.true c.place.ensures c.loop-c.invariant c.if-work-whole.false

pub returns : goal.returns
returns c =
    let g = c.requires in
    finish g c.loop-c.invariant (omega (arith, whole_is g.small c.pixels-whole.ensures, c.loop-c-test.false))
