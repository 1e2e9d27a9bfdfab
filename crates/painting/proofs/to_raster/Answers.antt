-- What the check refuses is refused; then 8; past them the blocks of an accepted list paint their image.
use native.Mathlib.Omega.{arith}
use mathlib.Core.Path.{refl}
use Rattle.answers.specs.Causes.{number-ne0}
use Rattle.answers.specs.Results.{written_on}
use Rattle.painting.specs.Promise.{list_refused, raster_short, raster_painted, paintable, whole_fits}
use Rattle.painting.proofs.to_raster.Goals as goal

pub returns-in_err-check : goal.returns-in_err-check
returns-in_err-check c =
    rw (written_on _ _ c.from_residual.ensures.1)
    (list_refused _ _ _ _ _ c.in_err-check.ensures (number-ne0 c.in_err-check.field-0.0))

pub returns-then-raster-whole : goal.returns-then-raster-whole
returns-then-raster-whole c = raster_short _ _ _ _ _ c.in_ok-check.ensures refl c.pixels-whole.ensures c.if-raster-whole.true

pub paint-requires : goal.paint-requires
paint-requires c = paintable _ _ _ _ _ c.in_ok-check.ensures refl c.pixels-whole.ensures c.if-raster-whole.false

pub overflow_cast-result : goal.overflow_cast-result
overflow_cast-result c = omega (arith, whole_fits _ _ _ _ c.in_ok-check.ensures refl c.pixels-whole.ensures)

pub returns : goal.returns
returns c =
    raster_painted _ _ _ _ _ c.in_ok-check.ensures refl c.pixels-whole.ensures c.if-raster-whole.false
    c.paint.ensures
