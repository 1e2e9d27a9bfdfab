-- The loop's invariant: the block of level l at c has one colour. It stops at the first level that has not, or at the top.
use Rattle.merging.specs.Growth.{Growth}
use Rattle.merging.proofs.merge.level_at.Given as goal

abbrev pub invariant-loop-l : goal.invariant-loop-l
invariant-loop-l l = Growth l.n l.raster l.c l.top l.w l.at l.v l.l
