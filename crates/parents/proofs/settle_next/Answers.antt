-- `settle_next` meets its contract: a block whose label is the next number is the first block of its region; any other is one of a region
-- that is settled.
use native.Mathlib.Omega.{arith}
use Rattle.parents.specs.OneRegion.{region_low}
use Rattle.parents.specs.Blocks.{block_skipped, region-next, region_passed}
use Rattle.parents.proofs.settle_next.Goals as goal

pub bounds-labels-i : goal.bounds-labels-i
bounds-labels-i c = omega (arith, c.requires.place, c.requires.blocks.enough)

pub returns-then-labels-i : goal.returns-then-labels-i
returns-then-labels-i c = block_skipped c.requires c.if-labels-i.true

pub settle-requires : goal.settle-requires
settle-requires c = region-next c.requires c.if-labels-i.false

pub overflow_add-result : goal.overflow_add-result
overflow_add-result c = omega (arith, region_low (region-next c.requires c.if-labels-i.false))

pub returns : goal.returns
returns c = region_passed c.requires c.if-labels-i.false c.settle.ensures
