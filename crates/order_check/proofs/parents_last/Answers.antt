-- Each number is asked whether its parent comes before it.
use native.Mathlib.Omega.{arith}
use Rattle.order_check.specs.Along.{begin, all_pass, number_of, comes_after, comes_before}
use Rattle.order_check.proofs.parents_last.Goals as goal

pub loop-region-init : goal.loop-region-init
loop-region-init c = begin _ c.requires.blank

pub parent_marked-requires : goal.parent_marked-requires
parent_marked-requires c = number_of c.requires c.loop-region.invariant c.loop-region-test.true

pub returns-then-parent_marked : goal.returns-then-parent_marked
returns-then-parent_marked c = comes_after c.requires c.loop-region.invariant c.loop-region-test.true c.parent_marked.ensures c.if-parent_marked.true

pub offset_bounds-work-v : goal.offset_bounds-work-v
offset_bounds-work-v c = omega (arith, c.requires.below c.loop-region.region-index c.loop-region-test.true, c.requires.apart, c.requires.small)

pub bounds-work-v : goal.bounds-work-v
bounds-work-v c = omega (arith, c.requires.below c.loop-region.region-index c.loop-region-test.true, c.loop-region.invariant.passing.seen.long)

pub loop-region-preserved : goal.loop-region-preserved
loop-region-preserved c = comes_before c.requires c.loop-region.invariant c.loop-region-test.true c.parent_marked.ensures c.if-parent_marked.false

pub returns : goal.returns
returns c = all_pass c.loop-region.invariant c.loop-region-test.false
