-- `trace` meets its contract: a refusal leaves all lists; else the numbering leaves the labels and a blank work list, and the listing adds
-- the cycles. The check runs once: in the numbering, or where a list is too short.
use Rattle.std.proofs.Common.{refl, arith}
use Rattle.answers.specs.Causes.{number-ne0}
use Rattle.tracing.specs.Results.{traced_on}
use Rattle.tracing.specs.Accepting.{numbering_refused, outlinable, counts_small, traced}
use Rattle.tracing.specs.Tracing.{unfit_refused, none_too_short}
use Rattle.tracing.proofs.trace.Goals as goal

pub returns-in_err-unfit : goal.returns-in_err-unfit
returns-in_err-unfit c =
    rw (traced_on _ _ c.from_residual.ensures.1)
    (unfit_refused _ _ _ _ _ c.in_err-unfit.ensures (number-ne0 c.in_err-unfit.field-0.0))

pub returns-in_err-regions : goal.returns-in_err-regions
returns-in_err-regions c =
    rw (traced_on _ _ c.from_residual-in_err-regions.ensures.1)
    (numbering_refused _ (none_too_short _ _ _ _ _ c.in_ok-unfit.ensures refl) c.in_err-regions.ensures
    (number-ne0 c.in_err-regions.field-0.0))

pub outline-counts-requires : goal.outline-counts-requires
outline-counts-requires c = outlinable _ (none_too_short _ _ _ _ _ c.in_ok-unfit.ensures refl) c.in_ok-regions.ensures refl

pub overflow_cast-result : goal.overflow_cast-result
overflow_cast-result c =
    omega (arith, counts_small _ (none_too_short _ _ _ _ _ c.in_ok-unfit.ensures refl) c.in_ok-regions.ensures refl c.outline-counts.ensures)

pub overflow_cast-result-2 : goal.overflow_cast-result-2
overflow_cast-result-2 c =
    omega (arith, counts_small _ (none_too_short _ _ _ _ _ c.in_ok-unfit.ensures refl) c.in_ok-regions.ensures refl c.outline-counts.ensures)

pub returns : goal.returns
returns c = traced _ (none_too_short _ _ _ _ _ c.in_ok-unfit.ensures refl) c.in_ok-regions.ensures refl c.outline-counts.ensures
