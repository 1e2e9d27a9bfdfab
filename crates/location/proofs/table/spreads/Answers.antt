-- The rule of the table: one computation over all its 256 entries.
use mathlib.Core.Path.{refl}
use Rattle.sequences.specs.Ranges.{range, tabulate}
use Rattle.interleaving.specs.Spreads.{spread, spreads}
use Rattle.location.proofs.table.spreads.Goals as goal

pub invariant_of-result : goal.invariant_of-result
unfolding spreads spread tabulate range
invariant_of-result c = record { rule = refl }
