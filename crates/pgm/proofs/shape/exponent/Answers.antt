use Rattle.pgm.proofs.Search.{begin, found, again, none, fits}
use native.Mathlib.Omega.{arith}
use Rattle.pgm.proofs.shape.exponent.Goals as goal

pub loop-n-init : goal.loop-n-init
loop-n-init c = begin _

pub returns-then-power-width : goal.returns-then-power-width
returns-then-power-width c = found c.loop-n.invariant (omega arith) c.if-power-width.true

pub overflow_mul-power : goal.overflow_mul-power
overflow_mul-power c = omega (arith, fits c.loop-n.invariant (omega arith))

pub loop-n-preserved : goal.loop-n-preserved
loop-n-preserved c = again c.loop-n.invariant (omega arith) c.if-power-width.false

pub returns : goal.returns
returns c = none c.loop-n.invariant (omega arith)
