-- A pixel of another colour ends the run's test; one of the colour leaves it to the others.
use Rattle.uniform.specs.Squares.{run-ended, run_goes_on, run_breaks}
use mathlib.Core.Path.{sym, ◌∙◌}
use Prim.Native.Nat.{◌-◌, ◌+◌}
use native.Mathlib.Omega.{arith}
use Rattle.uniform.proofs.run_alike.Goals as goal

pub returns-then-raster-i : goal.returns-then-raster-i
returns-then-raster-i c =
    let a = c.args in
    run_breaks a.raster.now a.v c.loop-i.i (a.from + a.s) c.loop-i-test.true c.if-raster-i.true ∙ c.loop-i.invariant

pub loop-i-preserved : goal.loop-i-preserved
loop-i-preserved c =
    let a = c.args in
    sym (run_goes_on a.raster.now a.v c.loop-i.i (a.from + a.s) c.loop-i-test.true c.if-raster-i.false) ∙ c.loop-i.invariant

pub returns : goal.returns
returns c =
    let a = c.args in
    run-ended a.raster.now a.v c.loop-i.i (a.from + a.s - c.loop-i.i) (omega arith) ∙ c.loop-i.invariant
