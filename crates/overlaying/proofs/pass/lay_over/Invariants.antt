-- The loop's invariant: both cursors stand at the end of the pending run, and what is written, and what merging still gives from there on,
-- is the whole. The measure is the pixels left.
use Prim.Native.Nat.{◌-◌, ◌^◌}
use Rattle.quadtree.specs.BlockLists.{list_of}
use Rattle.overlaying.specs.Pass.{Passing}
use Rattle.overlaying.proofs.pass.lay_over.Given as goal

abbrev pub invariant-loop-i : goal.invariant-loop-i
invariant-loop-i l =
    Passing l.n (list_of l.first_codes l.first_levels l.first_colours) (list_of l.second_codes l.second_levels l.second_colours) (list_of l.initial.codes l.initial.levels l.initial.colours) (list_of l.codes l.levels l.colours) l.pending l.i l.j

abbrev pub decreases-loop-i : goal.decreases-loop-i
decreases-loop-i l =
    4 ^ l.n - l.pending.to
