-- After the stores each entry is the owner of the pixel's west side, and 0 where it has none: the rows filled from these are the regions.
use Rattle.west_sides.specs.Telling.{cycles_held_lem, not_told, rows_to_fill, rows_tell}
use Rattle.west_sides.proofs.tell.Goals as goal

pub store_cycles-requires : goal.store_cycles-requires
store_cycles-requires c = cycles_held_lem c.requires c.side-side.ensures c.fill.ensures

pub returns-then-not-store_cycles : goal.returns-then-not-store_cycles
returns-then-not-store_cycles c = not_told c.requires c.side-side.ensures c.fill.ensures c.store_cycles.ensures c.if-not-store_cycles.true

pub fill_rows-requires : goal.fill_rows-requires
fill_rows-requires c = rows_to_fill c.requires c.side-side.ensures c.fill.ensures c.store_cycles.ensures

pub returns : goal.returns
returns c = rows_tell c.requires c.side-side.ensures c.fill.ensures c.store_cycles.ensures c.if-not-store_cycles.false c.fill_rows.ensures
