-- The loop's invariant: the level sought is the largest up to the present one. The measure is the level.
use Rattle.appending.specs.Levels.{Descending}
use Rattle.appending.proofs.level_in.Given as goal

abbrev pub invariant-loop-level : goal.invariant-loop-level
invariant-loop-level l = Descending l.n l.from l.to l.level

abbrev pub decreases-loop-level : goal.decreases-loop-level
decreases-loop-level l = l.level
