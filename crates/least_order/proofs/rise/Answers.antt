-- Each turn writes one number and takes one from what its parent misses.
use native.Mathlib.Omega.{arith}
use lib.ListN.{length-set}
use Rattle.least_order.specs.Arranged.{rises_begins, one_above, place-free, number_small, parent_within_lem, parent_falls, count_within, parent_counted, risen_at_root, risen_to_wait, rises_on}
use Rattle.least_order.proofs.rise.Goals as goal

pub loop-up-init : goal.loop-up-init
loop-up-init c = rises_begins c.requires

pub overflow_cast-order : goal.overflow_cast-order
overflow_cast-order c = omega (arith, number_small c.requires c.loop-up.invariant)

pub bounds-order-k : goal.bounds-order-k
bounds-order-k c = place-free c.requires c.loop-up.invariant

pub overflow_add-whole : goal.overflow_add-whole
overflow_add-whole c = omega (arith, number_small c.requires c.loop-up.invariant)

pub offset_bounds-work-whole : goal.offset_bounds-work-whole
offset_bounds-work-whole c = omega (arith, number_small c.requires c.loop-up.invariant)

pub bounds-work-whole : goal.bounds-work-whole
bounds-work-whole c = parent_within_lem c.requires c.loop-up.invariant

pub returns-in_default : goal.returns-in_default
returns-in_default c = risen_at_root c.requires c.loop-up.invariant (omega (arith, c.in_default.ensures))

pub overflow_cast-p : goal.overflow_cast-p
overflow_cast-p c =
    let parent_low = parent_falls c.requires c.loop-up.invariant _ (one_above c.in-Some.ensures) in
    let small = number_small c.requires c.loop-up.invariant in
    omega (arith, parent_low, small)

pub offset_bounds-work-p : goal.offset_bounds-work-p
offset_bounds-work-p c =
    let parent_low = parent_falls c.requires c.loop-up.invariant _ (one_above c.in-Some.ensures) in
    let small = number_small c.requires c.loop-up.invariant in
    omega (arith, parent_low, small)

pub bounds-work-p : goal.bounds-work-p
bounds-work-p c = count_within c.requires c.loop-up.invariant _ (one_above c.in-Some.ensures)

pub overflow_sub-work : goal.overflow_sub-work
overflow_sub-work c = omega (arith, parent_counted c.requires c.loop-up.invariant _ (one_above c.in-Some.ensures))

pub bounds-work-p-in-loop-up : goal.bounds-work-p-in-loop-up
bounds-work-p-in-loop-up c = count_within c.requires c.loop-up.invariant _ (one_above c.in-Some.ensures)

pub offset_bounds-work-p-in-loop-up : goal.offset_bounds-work-p-in-loop-up
offset_bounds-work-p-in-loop-up c =
    let parent_low = parent_falls c.requires c.loop-up.invariant _ (one_above c.in-Some.ensures) in
    let small = number_small c.requires c.loop-up.invariant in
    omega (arith, parent_low, small)

pub bounds-work-p-in-loop-up-2 : goal.bounds-work-p-in-loop-up-2
bounds-work-p-in-loop-up-2 c = simp length-set (count_within c.requires c.loop-up.invariant _ (one_above c.in-Some.ensures))

pub returns-then-work-p-ne0 : goal.returns-then-work-p-ne0
returns-then-work-p-ne0 c = risen_to_wait c.requires c.loop-up.invariant _ (one_above c.in-Some.ensures) c.if-work-p-ne0.true

pub loop-up-smaller : goal.loop-up-smaller
loop-up-smaller c =
    parent_falls c.requires c.loop-up.invariant _ (one_above c.in-Some.ensures)

pub loop-up-preserved : goal.loop-up-preserved
loop-up-preserved c = rises_on c.requires c.loop-up.invariant _ (one_above c.in-Some.ensures) c.if-work-p-ne0.false
