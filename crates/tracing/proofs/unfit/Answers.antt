-- `unfit` meets its contract: n is looked at first, then the lengths; the check tells whether a cause before 8 applies.
use Rattle.std.proofs.Common.{sym, ◌∙◌, rules}
use Rattle.answers.specs.Causes.{number-ne0}
use Rattle.answers.specs.Results.{said_on}
use Rattle.tracing.specs.Tracing.{large, fit, fault_first, then_eight}
use Rattle.tracing.proofs.unfit.Goals as goal

pub returns-then-n-gt8 : goal.returns-then-n-gt8
returns-then-n-gt8 c = large _ _ _ _ _ c.if-n-gt8.true

pub returns-in_err-check : goal.returns-in_err-check
returns-in_err-check c =
    rw (said_on _ _ c.from_residual.ensures.1)
    (fault_first _ _ _ _ _ (sym c.short.ensures ∙ c.if-short.true) c.in_err-check.ensures (number-ne0 c.in_err-check.field-0.0))

pub returns-then-short : goal.returns-then-short
returns-then-short c = search (rules, then_eight)

pub returns : goal.returns
returns c = fit _ _ _ _ _ c.if-n-gt8.false (sym c.short.ensures ∙ c.if-short.false)
