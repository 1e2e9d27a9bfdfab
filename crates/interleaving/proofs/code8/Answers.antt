-- x goes to the even places and y to the odd ones. The sum fits, since a spread number is below a third of 4 ^ 8.
use native.Mathlib.Omega.{arith}
use Rattle.interleaving.specs.Spreading.{code_from_spreads, spread-below}
use Rattle.interleaving.proofs.code8.Goals as goal

pub overflow_mul-result : goal.overflow_mul-result
overflow_mul-result c = let a = c.args in omega (arith, spread-below 8 a.x, spread-below 8 a.y)

pub overflow_add-result : goal.overflow_add-result
overflow_add-result c = let a = c.args in omega (arith, spread-below 8 a.x, spread-below 8 a.y)

pub returns : goal.returns
returns c = let a = c.args in omega (arith, code_from_spreads 8 a.x a.y)
