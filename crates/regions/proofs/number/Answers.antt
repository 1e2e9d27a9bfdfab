-- The check tells its cause; then a list too short is told; what is left is an accepted list with room for its labels and for the border.
use Rattle.std.proofs.Common.{sym, arith}
use Rattle.answers.specs.Causes.{number-pos}
use Rattle.regions.specs.Results.{numbered_on}
use Rattle.regions.specs.Promise.{list_refused, labels_short, work_short}
use Rattle.regions.specs.Labelling.{need_is, numberable, written}
use Rattle.regions.proofs.number.Goals as goal
use Rattle.regions.proofs.number.Goals.{then-labels-codes-via-then-labels-codes, then-labels-codes-via-else-labels-codes+then-work-need}

pub returns-in_err-check : goal.returns-in_err-check
returns-in_err-check c =
    rw (numbered_on _ _ c.from_residual.ensures.1) (list_refused _ _ _ _ _ _ (number-pos c.in_err-check.field-0.0) c.in_err-check.ensures)

pub overflow_mul-need : goal.overflow_mul-need
overflow_mul-need c = omega (arith, need_is _ _ _ _ (sym c.in_ok-check.ensures) c.pixels-need.ensures)

pub returns-then-labels-codes : goal.returns-then-labels-codes
returns-then-labels-codes c =
    let accepted = sym c.in_ok-check.ensures in
    elim c.then-labels-codes.branch [
      | then-labels-codes-via-then-labels-codes w ↦ labels_short _ _ _ _ _ _ accepted w.if-labels-codes.true
      | then-labels-codes-via-else-labels-codes+then-work-need w ↦
          work_short _ _ _ _ _ _ accepted (omega (arith, w.if-work-need.true, need_is _ _ _ _ accepted c.pixels-need.ensures))
    ]

pub label-count-requires : goal.label-count-requires
label-count-requires c =
    let accepted = sym c.in_ok-check.ensures in
    numberable _ _ _ _ c.args.labels.now _ accepted c.if-labels-codes.false (need_is _ _ _ _ accepted c.pixels-need.ensures).1 c.if-work-need.false

pub returns : goal.returns
returns c =
    let accepted = sym c.in_ok-check.ensures in
    written _ _ _ _ _ _ accepted c.if-labels-codes.false (omega (arith, c.if-work-need.false, need_is _ _ _ _ accepted c.pixels-need.ensures)) c.label-count.ensures
