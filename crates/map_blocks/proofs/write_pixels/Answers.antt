use native.Mathlib.Omega.{arith}
use Rattle.map_blocks.specs.Pixels.{pixels_none, pixels_same, pixel_room, pixels-more, pixels_all}
use Rattle.map_blocks.proofs.write_pixels.Goals as goal

pub loop-i-init : goal.loop-i-init
loop-i-init c = pixels_none

pub bounds-codes-at : goal.bounds-codes-at
bounds-codes-at c = omega (arith, (pixel_room c.requires c.loop-i.invariant c.loop-i-test.true).in_codes)

pub bounds-levels-at : goal.bounds-levels-at
bounds-levels-at c = omega (arith, (pixel_room c.requires c.loop-i.invariant c.loop-i-test.true).in_levels)

pub bounds-colours-at : goal.bounds-colours-at
bounds-colours-at c = omega (arith, (pixel_room c.requires c.loop-i.invariant c.loop-i-test.true).in_colours)

pub loop-i-smaller : goal.loop-i-smaller
loop-i-smaller c = omega (arith, c.loop-i-test.true)

pub loop-i-preserved : goal.loop-i-preserved
loop-i-preserved c = pixels-more c.requires c.loop-i.invariant c.loop-i-test.true

pub shape_of-codes : goal.shape_of-codes
shape_of-codes c = (pixels_same c.requires c.loop-i.invariant).for_codes

pub shape_of-levels : goal.shape_of-levels
shape_of-levels c = (pixels_same c.requires c.loop-i.invariant).for_levels

pub shape_of-colours : goal.shape_of-colours
shape_of-colours c = (pixels_same c.requires c.loop-i.invariant).for_colours

pub returns : goal.returns
returns c = pixels_all c.requires c.loop-i.invariant c.loop-i-test.false
