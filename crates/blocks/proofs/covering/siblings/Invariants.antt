-- The loop's invariant: cause 7 stands in the blocks from i on if anywhere. The measure is the blocks left.
use Rattle.blocks.specs.Siblings.{Searched}
use Prim.Native.Nat.{◌-◌}
use lib.ListN.{length}
use Rattle.blocks.proofs.covering.siblings.Given as goal

abbrev pub invariant-loop-i : goal.invariant-loop-i
invariant-loop-i l = Searched l.n l.codes l.levels l.colours l.i

abbrev pub decreases-loop-i : goal.decreases-loop-i
decreases-loop-i l = length l.codes - l.i
