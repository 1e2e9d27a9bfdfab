-- The loop's invariant: the squares written and those from `code` on are all of the run's. The measure is the pixels left.
use Prim.Native.Nat.{◌-◌}
use Rattle.quadtree.specs.BlockLists.{list_of}
use Rattle.appending.specs.WriteLoop.{Writing}
use Rattle.appending.proofs.write_run.Given as goal

abbrev pub invariant-loop-code : goal.invariant-loop-code
invariant-loop-code l =
    Writing l.n l.pending (list_of l.initial.codes l.initial.levels l.initial.colours) (list_of l.codes l.levels l.colours) l.at l.code

abbrev pub decreases-loop-code : goal.decreases-loop-code
decreases-loop-code l = l.pending.to - l.code
