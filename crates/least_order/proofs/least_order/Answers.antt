-- `least_order` meets its contract: where the order list is too short the check decides; else the numbering refuses, or leaves the labels and
-- a blank work list, and the order is written.
use mathlib.Core.Path.{refl}
use Rattle.answers.specs.Causes.{number-ne0}
use Rattle.answers.specs.Results.{written_on}
use Rattle.least_order.specs.Promise.{list_refused, order_short, numbering_refused}
use Rattle.least_order.specs.Accepting.{arrangeable, order_given}
use Rattle.least_order.proofs.least_order.Goals as goal

pub returns-in_err-check : goal.returns-in_err-check
returns-in_err-check c =
    let a = c.args in
    rw (written_on _ _ c.from_residual.ensures.1)
    (list_refused a.n a.codes.now a.levels.now a.colours.now a.labels.now a.work.now a.order.now c.in_err-check.ensures (number-ne0 c.in_err-check.field-0.0))

pub returns-then-order-codes : goal.returns-then-order-codes
returns-then-order-codes c =
    let a = c.args in
    order_short a.n a.codes.now a.levels.now a.colours.now a.labels.now a.work.now a.order.now c.in_ok-check.ensures refl c.if-order-codes.true

pub returns-in_err-count : goal.returns-in_err-count
returns-in_err-count c =
    let a = c.args in
    rw (written_on _ _ c.from_residual-in_err-count.ensures.1)
    (numbering_refused a.n a.codes.now a.levels.now a.colours.now a.labels.now a.work.now a.order.now
    c.if-order-codes.false c.in_err-count.ensures (number-ne0 c.in_err-count.field-0.0))

pub arrange-requires : goal.arrange-requires
arrange-requires c = arrangeable c.in_ok-count.ensures refl c.if-order-codes.false

pub returns : goal.returns
returns c = order_given c.in_ok-count.ensures refl c.if-order-codes.false c.arrange.ensures
