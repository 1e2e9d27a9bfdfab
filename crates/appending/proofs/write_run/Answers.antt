-- Each turn writes the largest square that may begin there; it ends in the run, and there is room for its entry.
use mathlib.Core.Path.{refl}
use native.Mathlib.Omega.{arith}
use Rattle.appending.specs.WriteLoop.{writing_none, turn, writing_more, run_written}
use Rattle.appending.proofs.write_run.Goals as goal

pub loop-code-init : goal.loop-code-init
loop-code-init c = writing_none c.requires

pub overflow_cast-codes : goal.overflow_cast-codes
overflow_cast-codes c =
    let square = turn c.requires c.loop-code.invariant c.loop-code-test.true c.level_in-level.ensures refl in
    omega (arith, c.loop-code.invariant.few, c.loop-code-test.true, square)

pub overflow_cast-levels : goal.overflow_cast-levels
overflow_cast-levels c =
    let square = turn c.requires c.loop-code.invariant c.loop-code-test.true c.level_in-level.ensures refl in
    omega (arith, square)

pub overflow_add-code : goal.overflow_add-code
overflow_add-code c =
    omega (arith, turn c.requires c.loop-code.invariant c.loop-code-test.true c.level_in-level.ensures c.pixels-code.ensures)

pub loop-code-smaller : goal.loop-code-smaller
loop-code-smaller c =
    omega (arith, turn c.requires c.loop-code.invariant c.loop-code-test.true c.level_in-level.ensures c.pixels-code.ensures)

pub loop-code-preserved : goal.loop-code-preserved
loop-code-preserved c = writing_more c.requires c.loop-code.invariant c.loop-code-test.true c.level_in-level.ensures c.pixels-code.ensures

pub returns : goal.returns
returns c = run_written c.requires c.loop-code.invariant c.loop-code-test.false
