-- The loop's invariant: the first i pixels are written. The measure is the pixels left.
use Prim.Native.Nat.{◌-◌}
use Rattle.quadtree.specs.BlockLists.{list_of}
use Rattle.map_blocks.specs.Pixels.{PixelsWritten}
use Rattle.map_blocks.proofs.write_pixels.Given as goal

abbrev pub invariant-loop-i : goal.invariant-loop-i
invariant-loop-i l =
    PixelsWritten l.four l.code l.at (list_of l.initial.codes l.initial.levels l.initial.colours) (list_of l.codes l.levels l.colours) l.i

abbrev pub decreases-loop-i : goal.decreases-loop-i
decreases-loop-i l = 4 - l.i
