-- The loop's invariant: the pixels of the blocks before i have their colours. The measure is the blocks left.
use Rattle.squares.specs.BlockByBlock.{PaintedTo}
use Prim.Native.Nat.{◌-◌}
use lib.ListN.{length}
use Rattle.painting.proofs.paint.paint.Given as goal

abbrev pub invariant-loop-i : goal.invariant-loop-i
invariant-loop-i l = PaintedTo l.n l.codes l.levels l.colours l.initial.raster l.w l.raster l.i

abbrev pub decreases-loop-i : goal.decreases-loop-i
decreases-loop-i l = length l.codes - l.i
