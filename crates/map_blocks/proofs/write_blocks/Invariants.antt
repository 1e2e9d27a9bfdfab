-- The loop's invariant: the pixels before the end of the pending run are done, and the others come by fours. The measure is the pixels left.
use Prim.Native.Nat.{◌-◌}
use Rattle.quadtree.specs.BlockLists.{list_of}
use Rattle.map_blocks.specs.Pass.{Passing}
use Rattle.map_blocks.proofs.write_blocks.Given as goal

abbrev pub invariant-loop-pending : goal.invariant-loop-pending
invariant-loop-pending l =
    Passing l.n l.map l.region_colours (list_of l.initial.codes l.initial.levels l.initial.colours) (list_of l.codes l.levels l.colours) l.pending

abbrev pub decreases-loop-pending : goal.decreases-loop-pending
decreases-loop-pending l = l.whole - l.pending.to
