-- The loop's invariant: the pixels of the blocks before i are filled, and what lies beyond the image is as it was.
use Rattle.squares.specs.BlockByBlock.{PaintedTo}
use Rattle.mapping.specs.Filling.{values}
use Rattle.mapping.proofs.fill_map.Given as goal

abbrev pub invariant-loop-i : goal.invariant-loop-i
invariant-loop-i l = PaintedTo l.n l.codes l.levels (values l.codes l.labels) l.initial.map l.w l.map l.i
