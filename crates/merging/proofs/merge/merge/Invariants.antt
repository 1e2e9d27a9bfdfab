-- The loop's invariant: the blocks written and those that merging gives from c on are all of them. The measure is the pixels left.
use Rattle.merging.specs.MergeLoop.{Merging}
use Prim.Native.Nat.{◌-◌}
use lib.ListN.{length}
use Rattle.merging.proofs.merge.merge.Given as goal

abbrev pub invariant-loop-c : goal.invariant-loop-c
invariant-loop-c l = Merging l.n l.raster l.initial.codes l.initial.levels l.initial.colours l.codes l.levels l.colours l.count l.c

abbrev pub decreases-loop-c : goal.decreases-loop-c
decreases-loop-c l = length l.raster - l.c
