-- The loop's invariant: the cursor stands at the end of the pending run, and what is written, and what merging still gives from there on, is
-- the whole. The measure is the pixels left.
use Prim.Native.Nat.{◌-◌, ◌^◌}
use Rattle.quadtree.specs.BlockLists.{list_of}
use Rattle.touching_up.specs.Pass.{Passing}
use Rattle.touching_up.proofs.pass.repaint.Given as goal

abbrev pub invariant-loop-i : goal.invariant-loop-i
invariant-loop-i l =
    Passing l.n (list_of l.codes l.levels l.colours) l.pixel l.colour (list_of l.initial.new_codes l.initial.new_levels l.initial.new_colours) (list_of l.new_codes l.new_levels l.new_colours) l.pending l.i

abbrev pub decreases-loop-i : goal.decreases-loop-i
decreases-loop-i l = 4 ^ l.n - l.pending.to
