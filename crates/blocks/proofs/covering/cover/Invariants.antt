-- The loop's invariant: the blocks from i on, with `sum` pixels covered, meet what the whole list meets.
use Rattle.blocks.specs.Covering.{Passed}
use Rattle.blocks.proofs.covering.cover.Given as goal

abbrev pub invariant-loop-i : goal.invariant-loop-i
invariant-loop-i l = Passed l.n l.codes l.levels l.sum l.i
