-- The front of the map, one entry a pixel, is lent; what lies beyond it comes back as it was.
use native.Mathlib.Omega.{arith}
use Rattle.west_sides.specs.Telling.{whole_is, front_tellable, front_told}
use Rattle.west_sides.proofs.tell_regions.Goals as goal

pub slice_bounds-tell-end : goal.slice_bounds-tell-end
slice_bounds-tell-end c = omega (arith, c.requires.room, whole_is c.requires c.pixels-whole.ensures)

pub slice_bounds-tell-end-2 : goal.slice_bounds-tell-end-2
slice_bounds-tell-end-2 c = omega (arith, (front_tellable c.requires c.pixels-whole.ensures).size, whole_is c.requires c.pixels-whole.ensures)

pub tell-requires : goal.tell-requires
tell-requires c = front_tellable c.requires c.pixels-whole.ensures

pub returns : goal.returns
returns c = front_told c.requires c.pixels-whole.ensures c.tell.ensures
