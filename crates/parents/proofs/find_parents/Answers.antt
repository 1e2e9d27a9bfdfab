-- `find_parents` meets its contract: the map is filled, all regions are settled on it, and an entry a region is cleared.
use Rattle.parents.specs.Promise.{fillable, all_next, clear_room, parents_found}
use Rattle.parents.proofs.find_parents.Goals as goal

pub fill_map-requires : goal.fill_map-requires
fill_map-requires c = fillable c.requires

pub settle_all-requires : goal.settle_all-requires
settle_all-requires c = all_next c.requires c.fill_map.ensures

pub fill-requires : goal.fill-requires
fill-requires c = clear_room c.requires c.fill_map.ensures c.settle_all.ensures

pub returns : goal.returns
returns c = parents_found c.requires c.fill_map.ensures c.settle_all.ensures c.fill.ensures
