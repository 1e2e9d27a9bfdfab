-- One byte a sample, or two.
use mathlib.Core.Path.{sym, ap}
use Prim.Native.Nat.{ℕ, ◌*◌}
use native.Mathlib.Omega.{arith}
use Rattle.pgm.specs.Samples.{one_byte, two_bytes}
use Rattle.pgm.proofs.shape.bytes_of.Goals as goal

pub returns-then-wide : goal.returns-then-wide
returns-then-wide c = ap (λ (k : ℕ). k * c.args.count) (sym (two_bytes c.if-wide.true))

pub returns-else-wide : goal.returns-else-wide
returns-else-wide c = omega (arith, ap (λ (k : ℕ). k * c.args.count) (one_byte c.if-wide.false))
