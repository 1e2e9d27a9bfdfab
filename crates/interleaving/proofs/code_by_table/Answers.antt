-- A code of 8 digits each is below 4 ^ 8, so low and high bytes fit into one word.
use mathlib.Core.Path.{◌≡◌}
use Prim.Native.Nat.{ℕ, ◌<◌}
use native.Mathlib.Omega.{arith}
use Rattle.interleaving.specs.Codes.{code}
use Rattle.interleaving.specs.Interleaving.{code_below}
use Rattle.interleaving.specs.Spreading.{code_of_bytes}
use Rattle.interleaving.proofs.code_by_table.Goals as goal

fits : (x y : ℕ) {r : ℕ} → r ≡ code 8 x y → r < 65536
fits x y e = omega (arith, code_below 8 x y)

pub overflow_mul-result : goal.overflow_mul-result
overflow_mul-result c = omega (arith, fits _ _ c.code8-2.ensures)

pub overflow_add-result : goal.overflow_add-result
overflow_add-result c = omega (arith, fits _ _ c.code8.ensures, fits _ _ c.code8-2.ensures)

pub returns : goal.returns
returns c = let a = c.args in omega (arith, code_of_bytes a.x a.y)
