-- Its two cases are those of the test.
use mathlib.Core.Path.{sym}
use Rattle.touching_up.specs.Pieces.{colour_of_pixel, colour_of_block}
use Rattle.touching_up.proofs.pass.piece_colour.Goals as goal

pub returns-then-from-pixel : goal.returns-then-from-pixel
returns-then-from-pixel c = let a = c.args in sym (colour_of_pixel a.from a.pixel a.old a.colour c.if-from-pixel.true)

pub returns-else-from-pixel : goal.returns-else-from-pixel
returns-else-from-pixel c = let a = c.args in sym (colour_of_block a.from a.pixel a.old a.colour c.if-from-pixel.false)
