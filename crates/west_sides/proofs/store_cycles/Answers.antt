-- The owner and the end of each turn are those of the next cycle, and its corners stand in the corner list.
use native.Mathlib.Omega.{arith}
use Rattle.std.proofs.lemmas.List.{length_push}
use Rattle.std.proofs.lemmas.Slice.Zip.{zip_turn, zip_end}
use Rattle.west_sides.specs.Cycles.{first-cycle, corners_stand, no_such_owner, cycle_not_stored, one_cycle_more, all_cycles_stored}
use Rattle.west_sides.proofs.store_cycles.Goals as goal

pub loop-owner-init : goal.loop-owner-init
loop-owner-init c = first-cycle _ _ _ _ _ _

pub returns-then-regions-owner : goal.returns-then-regions-owner
returns-then-regions-owner c =
    let turn = zip_turn c.args.owners.now c.args.ends.now c.loop-owner.yielded c.into_iter-owner-iterator.result c.loop-owner.owner-iterator c.next.new.self c.next.result (cc) (cc) c.loop-owner.yielded_by _ c.in-Some.is c.next.ensures.steps in
    no_such_owner c.requires.agree c.loop-owner.invariant turn c.if-regions-owner.true

pub slice_bounds-store_outline-end : goal.slice_bounds-store_outline-end
slice_bounds-store_outline-end c =
    let turn = zip_turn c.args.owners.now c.args.ends.now c.loop-owner.yielded c.into_iter-owner-iterator.result c.loop-owner.owner-iterator c.next.new.self c.next.result (cc) (cc) c.loop-owner.yielded_by _ c.in-Some.is c.next.ensures.steps in
    (corners_stand c.requires.agree c.loop-owner.invariant turn).1

pub returns-in_default : goal.returns-in_default
returns-in_default c =
    let turn = zip_turn c.args.owners.now c.args.ends.now c.loop-owner.yielded c.into_iter-owner-iterator.result c.loop-owner.owner-iterator c.next.new.self c.next.result (cc) (cc) c.loop-owner.yielded_by _ c.in-Some.is c.next.ensures.steps in
    cycle_not_stored c.requires.agree c.loop-owner.invariant turn c.in_default.ensures

pub loop-owner-preserved : goal.loop-owner-preserved
loop-owner-preserved c =
    let turn = zip_turn c.args.owners.now c.args.ends.now c.loop-owner.yielded c.into_iter-owner-iterator.result c.loop-owner.owner-iterator c.next.new.self c.next.result (cc) (cc) c.loop-owner.yielded_by _ c.in-Some.is c.next.ensures.steps in
    rw (length_push c.loop-owner.yielded)
    (one_cycle_more c.requires.agree c.loop-owner.invariant turn c.if-regions-owner.false c.in-Some-store_outline.ensures)

pub returns : goal.returns
returns c =
    let all = zip_end c.args.owners.now c.args.ends.now c.loop-owner.yielded c.into_iter-owner-iterator.result c.loop-owner.owner-iterator c.next.new.self c.next.result (cc) (cc) c.loop-owner.yielded_by c.in-None.is c.next.ensures.steps in
    all_cycles_stored c.requires.agree c.loop-owner.invariant (omega (arith, all, c.requires.agree.an_owner_each))
