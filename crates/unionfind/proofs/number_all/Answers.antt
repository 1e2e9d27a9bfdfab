-- A parent is numbered before its child.
use Rattle.unions.specs.RootNumbers.{begin, up_le, again}
use Prim.Native.Nat.{◌<◌}
use native.Mathlib.Omega.{arith}
use lib.ListN.{length}
use Rattle.unionfind.proofs.number_all.Goals as goal

pub loop-i-init : goal.loop-i-init
loop-i-init c = begin _

pub number_place-next-requires : goal.number_place-next-requires
number_place-next-requires c =
    let l = c.loop-i in
    let less : l.i < length c.args.labels.now = omega arith in
    (omega (arith, l.invariant.long), omega (arith, up_le c.requires.0 l.invariant less), l.invariant.few, omega (arith, l.invariant.long, c.requires.1))

pub loop-i-preserved : goal.loop-i-preserved
loop-i-preserved c =
    let l = c.loop-i in
    let less : l.i < length c.args.labels.now = omega arith in
    again c.requires.0 l.invariant less c.number_place-next.ensures.0 c.number_place-next.ensures.1
