-- `check_order` meets its contract: the numbering refuses, or leaves the labels and a blank work list; the two tests leave both as they are.
use mathlib.Core.Path.{refl}
use Rattle.answers.specs.Causes.{number-ne0}
use Rattle.answers.specs.Results.{said_on}
use Rattle.order_check.specs.Promise.{list_refused}
use Rattle.order_check.specs.Accepting.{blank, nineteen, orderable, twenty, yes_right}
use Rattle.order_check.proofs.check_order.Goals as goal

pub returns-in_err-count : goal.returns-in_err-count
returns-in_err-count c = rw (said_on _ _ c.from_residual.ensures.1) (list_refused c.in_err-count.ensures (number-ne0 c.in_err-count.field-0.0))

pub each_once-requires : goal.each_once-requires
each_once-requires c = blank c.in_ok-count.ensures refl

pub returns-then-not-each_once : goal.returns-then-not-each_once
returns-then-not-each_once c = nineteen c.in_ok-count.ensures refl c.args.order.now c.each_once.ensures c.if-not-each_once.true

pub inside_out-requires : goal.inside_out-requires
inside_out-requires c = orderable c.in_ok-count.ensures refl c.args.order.now c.each_once.ensures c.if-not-each_once.false

pub returns-then-not-inside_out : goal.returns-then-not-inside_out
returns-then-not-inside_out c =
    twenty c.in_ok-count.ensures refl c.args.order.now c.each_once.ensures c.if-not-each_once.false c.inside_out.ensures c.if-not-inside_out.true

pub returns : goal.returns
returns c =
    yes_right c.in_ok-count.ensures refl c.args.order.now c.each_once.ensures c.if-not-each_once.false c.inside_out.ensures c.if-not-inside_out.false
