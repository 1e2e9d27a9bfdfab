-- Its two cases are those of the test.
use mathlib.Core.Path.{sym, ap}
use mathlib.Core.Bool.{Bool, cond}
use Prim.Native.Nat.{◌+◌}
use native.Mathlib.Omega.{arith}
use borrow.Author.Tests.{lt-ltb, le-ltb}
use Rattle.cursors.proofs.next_place.Goals as goal

pub overflow_add-result : goal.overflow_add-result
overflow_add-result c = omega (arith, c.requires)

pub returns-then-done-ending : goal.returns-then-done-ending
returns-then-done-ending c =
    let a = c.args in
    sym (ap (λ (t : Bool). cond t a.i (a.i + 1)) (lt-ltb a.done a.ending c.if-done-ending.true))

pub returns-else-done-ending : goal.returns-else-done-ending
returns-else-done-ending c =
    let a = c.args in
    sym (ap (λ (t : Bool). cond t a.i (a.i + 1)) (le-ltb a.done a.ending c.if-done-ending.false))
