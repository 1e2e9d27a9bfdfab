-- The loop's invariant: what holds of the walk after k blocks (roots, columns, rows).
use Rattle.components.specs.Walk.{Walking}
use Rattle.border.proofs.walk.Given as goal

abbrev pub invariant-loop-k : goal.invariant-loop-k
invariant-loop-k l = Walking l.n l.codes l.levels l.colours l.initial.work l.k l.work l.parents
