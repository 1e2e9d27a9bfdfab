-- A code below 4^8 has no digits beyond the first 8 pairs. Else there are those of its low and of its high half; each half is
-- below 2 to its number of digits, so the sum fits.
use Prim.Native.Nat.{◌/◌}
use native.Mathlib.Omega.{arith}
use Rattle.interleaving.specs.Interleaving.{row_below}
use Rattle.interleaving.specs.Splitting.{row_split, row_wider}
use Rattle.location.proofs.row.Goals as goal

pub overflow_cast-result : goal.overflow_cast-result
overflow_cast-result c = omega (arith, row_below 8 c.args.c)

pub returns-then-c-lt65536 : goal.returns-then-c-lt65536
returns-then-c-lt65536 c = omega (arith, row_wider 8 16 c.args.c (omega arith) c.if-c-lt65536.true)

pub overflow_mul-result : goal.overflow_mul-result
overflow_mul-result c = omega (arith, row_below 8 (c.args.c / 65536))

pub overflow_add-result : goal.overflow_add-result
overflow_add-result c = omega (arith, row_below 8 c.args.c, row_below 8 (c.args.c / 65536))

pub overflow_cast-result-2 : goal.overflow_cast-result-2
overflow_cast-result-2 c = omega (arith, row_below 8 c.args.c, row_below 8 (c.args.c / 65536))

pub returns : goal.returns
returns c = omega (arith, row_split 8 8 c.args.c)
