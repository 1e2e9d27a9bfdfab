-- `list_next` meets its contract: a block whose label is the next number is the first block of its region; any other is one of a region
-- that is listed.
use Rattle.listing.specs.Regions.{block_skipped, region-next, region_small, region_listed}
use native.Mathlib.Omega.{arith}
use Rattle.listing.proofs.list_next.Goals as goal

pub returns-then-labels-i : goal.returns-then-labels-i
returns-then-labels-i c = block_skipped c.requires c.if-labels-i.true

pub list_region-counts-requires : goal.list_region-counts-requires
list_region-counts-requires c = region-next c.requires c.if-labels-i.false

pub overflow_add-result : goal.overflow_add-result
overflow_add-result c = omega (arith, region_small c.requires c.if-labels-i.false)

pub returns : goal.returns
returns c = region_listed c.requires c.if-labels-i.false c.list_region-counts.ensures
