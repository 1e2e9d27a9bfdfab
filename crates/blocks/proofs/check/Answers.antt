-- The tests stand in the order of causes 1 and 2; the passes over the blocks give 3 to 6, then 7.
use mathlib.Core.Path.{sym, refl}
use Rattle.answers.specs.Causes.{number-ne0}
use Rattle.answers.specs.Results.{said_on}
use Rattle.blocks.specs.Checking.{number_large, number-levels_unlike, number-colours_unlike, number-cover, number-siblings, number_accepted}
use Rattle.blocks.proofs.check.Goals as goal
use Rattle.blocks.proofs.check.Goals.{then-codes-levels-via-then-codes-levels, then-codes-levels-via-else-codes-levels+then-levels-colours}

pub returns-then-n-gt8 : goal.returns-then-n-gt8
returns-then-n-gt8 c = number_large _ _ _ _ c.if-n-gt8.true

pub returns-then-codes-levels : goal.returns-then-codes-levels
returns-then-codes-levels c =
    elim c.then-codes-levels.branch [
      | then-codes-levels-via-then-codes-levels w ↦ number-levels_unlike _ _ _ _ c.if-n-gt8.false w.if-codes-levels.true
      | then-codes-levels-via-else-codes-levels+then-levels-colours w ↦
          number-colours_unlike _ _ _ _ c.if-n-gt8.false w.if-codes-levels.false w.if-levels-colours.true
    ]

pub returns-in_err-cover : goal.returns-in_err-cover
returns-in_err-cover c =
    rw (said_on _ _ c.from_residual.ensures.1)
    (number-cover _ _ _ _ c.if-n-gt8.false c.if-codes-levels.false c.if-levels-colours.false c.in_err-cover.ensures
    (number-ne0 c.in_err-cover.field-0.0))

pub siblings-requires : goal.siblings-requires
siblings-requires c =
    record {
      small = c.if-n-gt8.false;
      long = record { levels_too = c.if-codes-levels.false; colours_too = c.if-levels-colours.false };
      covered = sym (c.in_ok-cover.ensures _ (sym c.if-levels-colours.false));
    }

pub returns-then-siblings : goal.returns-then-siblings
returns-then-siblings c =
    number-siblings _ _ _ _ c.if-n-gt8.false c.if-codes-levels.false c.if-levels-colours.false c.in_ok-cover.ensures refl
    c.siblings.ensures c.if-siblings.true

pub returns : goal.returns
returns c =
    number_accepted _ _ _ _ c.if-n-gt8.false c.if-codes-levels.false c.if-levels-colours.false c.in_ok-cover.ensures refl
    c.siblings.ensures c.if-siblings.false
