-- Block after block, as long as a region is left.
use Prim.Native.Nat.{◌<◌}
use native.Mathlib.Omega.{arith}
use lib.ListN.{length}
use Rattle.parents.specs.Blocks.{begin, block_left, block-next, again, finish}
use borrow.Author.Rules.{rules}
use Rattle.parents.proofs.settle_all.Goals as goal

pub loop-s-init : goal.loop-s-init
loop-s-init c = begin c.requires

pub settle_next-s-requires : goal.settle_next-s-requires
settle_next-s-requires c = block-next c.requires c.loop-s.invariant c.loop-s-test.true

pub overflow_add-i : goal.overflow_add-i
overflow_add-i c =
    let h : c.loop-s.i < length c.args.codes.now = block_left c.requires c.loop-s.invariant c.loop-s-test.true in
    search rules

pub loop-s-smaller : goal.loop-s-smaller
loop-s-smaller c = omega (arith, block_left c.requires c.loop-s.invariant c.loop-s-test.true)

pub loop-s-preserved : goal.loop-s-preserved
loop-s-preserved c = again c.requires c.loop-s.invariant c.loop-s-test.true c.settle_next-s.ensures

pub returns : goal.returns
returns c = finish c.requires c.loop-s.invariant c.loop-s-test.false
