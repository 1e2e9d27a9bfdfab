-- The code takes 16 binary digits, the owner stands above them.
use mathlib.Core.Path.{ap}
use Prim.Native.Nat.{ℕ, ◌+◌, ◌*◌}
use Rattle.lattice.specs.Directions.{x_of, y_of}
use Rattle.retracing.specs.Ranks.{rank}
use Rattle.retracing.proofs.rank.Goals as goal

pub code8-requires : goal.code8-requires
unfolding x_of y_of
code8-requires c = c.requires

pub returns : goal.returns
unfolding x_of y_of rank
returns c = ap (λ (v : ℕ). 65536 * c.args.owner + v) c.code8.ensures
