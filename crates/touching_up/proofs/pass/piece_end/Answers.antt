-- Its three cases are those of the definition: before the pixel, after it, at it.
use mathlib.Core.Path.{sym, ◌∙◌}
use native.Mathlib.Omega.{arith}
use Rattle.touching_up.specs.Pieces.{end_before_pixel, end_after_pixel, end_of_pixel}
use Rattle.touching_up.proofs.pass.piece_end.Goals as goal

pub returns-then-from-pixel : goal.returns-then-from-pixel
returns-then-from-pixel c =
    let a = c.args in
    c.min.ensures ∙ sym (end_before_pixel a.from a.pixel a.ending c.if-from-pixel.true)

pub returns-then-pixel-from : goal.returns-then-pixel-from
returns-then-pixel-from c =
    let a = c.args in
    sym (end_after_pixel a.from a.pixel a.ending c.if-pixel-from.true)

pub returns : goal.returns
returns c =
    let a = c.args in
    sym (end_of_pixel a.from a.pixel a.ending (omega (arith, c.if-from-pixel.false, c.if-pixel-from.false)))
