use native.Mathlib.Omega.{arith}
use Rattle.map_blocks.specs.Pass.{first_read, first_colour, passing_none, code_small, four_painted, four_next, passing_more, passed}
use Rattle.map_blocks.proofs.write_blocks.Goals as goal

pub bounds-map-0 : goal.bounds-map-0
bounds-map-0 c = first_read c.requires

pub colour_of-requires : goal.colour_of-requires
colour_of-requires c = first_colour c.requires

pub loop-pending-init : goal.loop-pending-init
loop-pending-init c = passing_none c.requires c.pixels-whole.ensures c.colour_of.ensures

pub overflow_cast-pending : goal.overflow_cast-pending
overflow_cast-pending c = omega (arith, code_small c.requires c.pixels-whole.ensures c.loop-pending.invariant c.loop-pending-test.true)

pub four_colours-four-requires : goal.four_colours-four-requires
four_colours-four-requires c = four_painted c.requires c.pixels-whole.ensures c.loop-pending.invariant c.loop-pending-test.true

pub append_four-pending-requires : goal.append_four-pending-requires
append_four-pending-requires c = four_next c.requires c.pixels-whole.ensures c.loop-pending.invariant c.loop-pending-test.true

pub loop-pending-smaller : goal.loop-pending-smaller
loop-pending-smaller c = omega (arith, c.append_four-pending.ensures.end, c.loop-pending-test.true)

pub loop-pending-preserved : goal.loop-pending-preserved
loop-pending-preserved c =
    passing_more c.requires c.pixels-whole.ensures c.loop-pending.invariant c.loop-pending-test.true c.four_colours-four.ensures
    c.append_four-pending.ensures

pub write_run-requires : goal.write_run-requires
write_run-requires c = c.loop-pending.invariant.progress.writable

pub returns : goal.returns
returns c = passed c.requires c.pixels-whole.ensures c.loop-pending.invariant c.loop-pending-test.false c.write_run.ensures

pub shape_of-codes : goal.shape_of-codes
shape_of-codes c = (returns c).same.for_codes

pub shape_of-levels : goal.shape_of-levels
shape_of-levels c = (returns c).same.for_levels

pub shape_of-colours : goal.shape_of-colours
shape_of-colours c = (returns c).same.for_colours
