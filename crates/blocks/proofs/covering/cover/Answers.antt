use Rattle.location.specs.Levels.{pixels_are_power}
use mathlib.Core.Path.{◌∙◌, refl}
use native.Mathlib.Omega.{arith}
use Rattle.answers.specs.Causes.{number-ne0}
use Rattle.answers.specs.Results.{said_on}
use Rattle.blocks.specs.Covering.{passed_fault, passed_room, passed_more, passed_short, passed_all}
use Rattle.blocks.proofs.covering.cover.Goals as goal

pub block_fault-requires : goal.block_fault-requires
block_fault-requires c =
    let small = c.requires.0 in
    (small, c.pixels-whole.ensures ∙ pixels_are_power c.args.n (omega (arith, small)))

pub returns-in_err-block_fault : goal.returns-in_err-block_fault
returns-in_err-block_fault c =
    let fault = rw c.from-level.ensures at c.in_err-block_fault.ensures in
    rw (said_on _ _ c.from_residual.ensures.1)
    (passed_fault c.requires.1 c.loop-i.invariant c.loop-i-test.true fault (number-ne0 c.in_err-block_fault.field-0.0))

pub overflow_add-sum : goal.overflow_add-sum
overflow_add-sum c =
    let level = c.from-level.ensures in
    omega (
      arith,
      passed_room c.requires.1 c.loop-i.invariant c.requires.0 c.loop-i-test.true (rw level at c.in_ok-block_fault.ensures) refl
          (rw level at c.pixels-sum.ensures),
    )

pub loop-i-preserved : goal.loop-i-preserved
loop-i-preserved c =
    let level = c.from-level.ensures in
    passed_more c.requires.1 c.loop-i.invariant c.requires.0 c.loop-i-test.true (rw level at c.in_ok-block_fault.ensures) refl
    (rw level at c.pixels-sum.ensures)

pub returns-then-sum-whole : goal.returns-then-sum-whole
returns-then-sum-whole c = passed_short c.requires.1 c.loop-i.invariant c.requires.0 c.loop-i-test.false c.pixels-whole.ensures c.if-sum-whole.true

pub returns : goal.returns
returns c = passed_all c.requires.1 c.loop-i.invariant c.requires.0 c.loop-i-test.false c.pixels-whole.ensures c.if-sum-whole.false
