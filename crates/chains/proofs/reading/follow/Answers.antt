use mathlib.Core.Bool.{true}
use lib.Dec.{eqb}
use Rattle.chains.specs.ChainForm.{digit_of, allowed}
use Rattle.chains.specs.Bytes.{Allowed, allowed_says, digit-below}
use Rattle.chains.specs.Following.{follow_begin, follow_on, follow_off, follow_open, follow_end, one_at_most}
use Rattle.chains.specs.Followed.{no_chain, all_corners_lem}
use mathlib.Core.Path.{◌≡◌, sym, ◌∙◌}
use Prim.Native.Nat.{◌-◌}
use native.Mathlib.Omega.{arith}
use lib.ListN.{get_or}
use Rattle.chains.proofs.reading.follow.Goals as goal

pub loop-b-init : goal.loop-b-init
loop-b-init c = follow_begin c.args.last c.args.start c.args.bytes.now c.requires.0 c.requires.1

pub may_follow-requires : goal.may_follow-requires
may_follow-requires c = c.loop-b.invariant.reached.known

pub returns-then-not-may_follow : goal.returns-then-not-may_follow
returns-then-not-may_follow c =
    let off = sym c.may_follow.ensures ∙ c.if-not-may_follow.true in
    no_chain (follow_off c.loop-b.invariant (omega arith) off)

pub overflow_sub-e : goal.overflow_sub-e
overflow_sub-e c =
    let fine : allowed c.loop-b.d c.loop-b.p (get_or c.args.bytes.now c.loop-b.b-index 0) ≡ true = sym c.may_follow.ensures ∙ c.if-not-may_follow.false in
    let says : Allowed c.loop-b.d c.loop-b.p (get_or c.args.bytes.now c.loop-b.b-index 0) = allowed_says c.loop-b.d c.loop-b.p (get_or c.args.bytes.now c.loop-b.b-index 0) fine in
    omega (arith, says.low)

pub overflow_add-n : goal.overflow_add-n
overflow_add-n c =
    let one = one_at_most c.corners_met-n.result (eqb c.loop-b.d ((get_or c.args.bytes.now c.loop-b.b-index 0) - 48)) c.corners_met-n.ensures in
    omega (arith, c.loop-b.invariant.few, one)

pub moved-p-requires : goal.moved-p-requires
unfolding digit_of
moved-p-requires c =
    let fine : allowed c.loop-b.d c.loop-b.p (get_or c.args.bytes.now c.loop-b.b-index 0) ≡ true = sym c.may_follow.ensures ∙ c.if-not-may_follow.false in
    let says : Allowed c.loop-b.d c.loop-b.p (get_or c.args.bytes.now c.loop-b.b-index 0) = allowed_says c.loop-b.d c.loop-b.p (get_or c.args.bytes.now c.loop-b.b-index 0) fine in
    (digit-below says, c.loop-b.invariant.reached.here, says.stays)

pub loop-b-preserved : goal.loop-b-preserved
unfolding digit_of
loop-b-preserved c =
    let fine : allowed c.loop-b.d c.loop-b.p (get_or c.args.bytes.now c.loop-b.b-index 0) ≡ true = sym c.may_follow.ensures ∙ c.if-not-may_follow.false in
    let met = c.corners_met-n in
    follow_on c.loop-b.invariant c.moved-p.result met.result (omega arith) fine c.moved-p.ensures met.ensures

pub returns-then-p-start : goal.returns-then-p-start
returns-then-p-start c = let back = follow_end c.loop-b.invariant (omega arith) c.if-p-start.true in all_corners_lem back.0 back.1

pub returns-else-p-start : goal.returns-else-p-start
returns-else-p-start c = no_chain (follow_open c.loop-b.invariant (omega arith) c.if-p-start.false)
