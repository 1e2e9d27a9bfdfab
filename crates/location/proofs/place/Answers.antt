-- Row times side plus column; the row and the side are at most 2^16, so both results fit.
use mathlib.Core.Path.{sym}
use Prim.Native.Nat.{◌*◌, ◌^◌, ◌≤◌}
use native.Mathlib.Omega.{arith}
use Rattle.location.specs.Places.{place_above, rows_before, place_is}
use Rattle.location.proofs.place.Goals as goal

pub returns-then-n-gt16 : goal.returns-then-n-gt16
returns-then-n-gt16 c = sym (place_above c.args.n c.args.c c.if-n-gt16.true)

pub overflow_mul-result : goal.overflow_mul-result
overflow_mul-result c =
    let rows_fit : c.row-y.result * c.side.result ≤ 2 ^ 32 =
    rows_before c.args.n c.args.c c.if-n-gt16.false c.row-y.ensures c.side.ensures in
    omega (arith, rows_fit)

pub overflow_add-result : goal.overflow_add-result
overflow_add-result c =
    let rows_fit : c.row-y.result * c.side.result ≤ 2 ^ 32 =
    rows_before c.args.n c.args.c c.if-n-gt16.false c.row-y.ensures c.side.ensures in
    omega (arith, rows_fit)

pub returns : goal.returns
returns c = place_is c.args.n c.args.c c.if-n-gt16.false c.row-y.ensures c.side.ensures c.column-x.ensures
