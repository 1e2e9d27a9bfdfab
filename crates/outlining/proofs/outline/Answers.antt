-- `outline` meets its contract: the links stand behind the map, the listing leaves them as they were, and both are cleared; nothing else
-- of the work list was written.
use Rattle.outlining.specs.Outlining.{linkable, fillable, map_and_links, used_low, clear_room, outlined}
use native.Mathlib.Omega.{arith}
use Rattle.outlining.proofs.outline.Goals as goal

pub overflow_add-used : goal.overflow_add-used
overflow_add-used c = omega (arith, used_low c.requires c.pixels-whole.ensures)

pub link-requires : goal.link-requires
link-requires c = linkable c.requires c.pixels-whole.ensures

pub list_all-counts-requires : goal.list_all-counts-requires
list_all-counts-requires c = map_and_links c.requires c.pixels-whole.ensures c.link.ensures c.fill_map.ensures

pub fill-requires : goal.fill-requires
fill-requires c = omega (arith, clear_room c.requires c.pixels-whole.ensures c.link.ensures c.fill_map.ensures c.list_all-counts.ensures)

pub returns : goal.returns
returns c = outlined c.requires c.pixels-whole.ensures c.link.ensures c.fill_map.ensures c.list_all-counts.ensures c.fill.ensures
