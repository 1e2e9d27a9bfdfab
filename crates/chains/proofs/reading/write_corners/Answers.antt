use Rattle.chains.specs.ChainForm.{digit_of}
use Rattle.chains.specs.Bytes.{Allowed, allowed_says, digit-below}
use Rattle.chains.specs.Following.{draw_begin, draws, draw_room, draw_on, draw_end}
use native.Mathlib.Omega.{arith}
use lib.ListN.{get_or}
use Rattle.chains.proofs.reading.write_corners.Goals as goal

pub loop-b-init : goal.loop-b-init
loop-b-init c = draw_begin c.args.corners.now c.requires.0

pub overflow_sub-e : goal.overflow_sub-e
overflow_sub-e c =
    let says : Allowed c.loop-b.d c.loop-b.p (get_or (c.args.bytes.now) c.loop-b.b-index 0) =
    let l = c.loop-b in
    allowed_says l.d l.p (get_or (c.args.bytes.now) l.b-index 0) (draws l.invariant c.requires.0 (omega arith)) in
    omega (arith, says.low)

pub put_turn-at-requires : goal.put_turn-at-requires
unfolding digit_of
put_turn-at-requires c = λ other. omega (arith, draw_room c.loop-b.invariant c.requires.0 (omega arith) c.requires.1 other)

pub moved-p-requires : goal.moved-p-requires
unfolding digit_of
moved-p-requires c =
    let says : Allowed c.loop-b.d c.loop-b.p (get_or (c.args.bytes.now) c.loop-b.b-index 0) =
    let l = c.loop-b in
    allowed_says l.d l.p (get_or (c.args.bytes.now) l.b-index 0) (draws l.invariant c.requires.0 (omega arith)) in
    (digit-below says, c.loop-b.invariant.reached.here, says.stays)

pub loop-b-preserved : goal.loop-b-preserved
unfolding digit_of
loop-b-preserved c =
    let pre = c.requires in
    draw_on c.loop-b.invariant pre.0 (omega arith) pre.1 c.moved-p.ensures c.put_turn-at.ensures

pub shape_of-corners : goal.shape_of-corners
shape_of-corners c = c.loop-b.invariant.list.long

pub returns : goal.returns
returns c = draw_end c.loop-b.invariant (omega arith)
