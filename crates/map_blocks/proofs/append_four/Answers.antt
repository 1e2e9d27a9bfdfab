-- Four pixels of one colour are a piece. Others end the run, as no square of one colour has pixels of both, and each of them is a block.
use native.Mathlib.Omega.{arith}
use Rattle.map_blocks.specs.Appended.{piece_appendable, piece_appended, pixels_fit, pixels_appended}
use Rattle.map_blocks.proofs.append_four.Goals as goal

pub append-requires : goal.append-requires
append-requires c = piece_appendable c.requires

pub returns-then-one_colour : goal.returns-then-one_colour
returns-then-one_colour c = piece_appended c.requires c.one_colour.ensures c.if-one_colour.true c.append.ensures

pub write_pixels-requires : goal.write_pixels-requires
write_pixels-requires c = pixels_fit c.requires c.write_run-count.ensures

pub overflow_add-result-3 : goal.overflow_add-result-3
overflow_add-result-3 c = omega (arith, (pixels_fit c.requires c.write_run-count.ensures).low)

pub returns : goal.returns
returns c =
    pixels_appended c.requires c.write_run-count.ensures c.one_colour.ensures c.if-one_colour.false
    c.write_pixels.ensures
