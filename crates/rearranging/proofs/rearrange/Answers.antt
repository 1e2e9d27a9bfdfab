-- A refusal is answered before anything is written; past it all rows are moved.
use mathlib.Core.Path.{refl, sym}
use native.Mathlib.Omega.{arith}
use Rattle.answers.specs.Causes.{number-ne0}
use Rattle.answers.specs.Results.{written_on}
use Rattle.rearranging.specs.Promise.{fits, at_most_65536, rearrange_refused, rearrange_done}
use Rattle.rearranging.proofs.rearrange.Goals as goal

pub returns-in_err-check : goal.returns-in_err-check
returns-in_err-check g c =
    rearrange_refused g.D.Direction.way c.in_err-check.ensures (number-ne0 c.in_err-check.field-0.0) (written_on _ _ c.from_residual.ensures.1)

pub all_rows-requires : goal.all_rows-requires
all_rows-requires g c = fits (sym c.in_ok-check.ensures)

pub overflow_cast-result : goal.overflow_cast-result
overflow_cast-result g c = omega (arith, at_most_65536 (fits (sym c.in_ok-check.ensures)) c.pixels.ensures)

pub returns : goal.returns
returns g c = rearrange_done g.D.Direction.way c.in_ok-check.ensures refl c.pixels.ensures c.all_rows.ensures
