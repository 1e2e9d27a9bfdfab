-- A row of another colour ends the square's test; one of the colour leaves it to the others.
use Rattle.std.proofs.Common.{add-mul}
use mathlib.Core.Path.{◌≡◌, sym, ◌∙◌, subst}
use Prim.Native.Nat.{◌+◌, ◌*◌}
use native.Mathlib.Omega.{arith}
use Rattle.uniform.specs.Squares.{Rows, rows_more, rows_stop, rows_all}
use Rattle.uniform.proofs.square_alike.Goals as goal

pub returns-then-not-run_alike : goal.returns-then-not-run_alike
returns-then-not-run_alike c = rows_stop c.loop-y.invariant c.loop-y-test.true (sym c.run_alike.ensures ∙ c.if-not-run_alike.true)

pub loop-y-preserved : goal.loop-y-preserved
loop-y-preserved c =
    let a = c.args in
    let y = c.loop-y.y in
    let e : a.at + y * a.w + a.w ≡ a.at + (y + 1) * a.w = omega (arith, add-mul y 1 a.w) in
    subst (λ from. Rows a.raster.now a.v a.w a.at a.s from (y + 1)) e (rows_more c.loop-y.invariant c.loop-y-test.true (sym c.run_alike.ensures ∙ c.if-not-run_alike.false))

pub returns : goal.returns
returns c = rows_all c.loop-y.invariant c.loop-y-test.false
