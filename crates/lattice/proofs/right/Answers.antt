-- Taking one from a byte that wraps at 256 takes one modulo 4, since 4 divides 256.
use Rattle.std.proofs.Common.{arith}
use Rattle.lattice.specs.Directions.{right_of}
use Rattle.lattice.proofs.right.Goals as goal

pub returns : goal.returns
unfolding right_of
returns c = omega arith
