-- `settle_all` meets its contract. The loop's invariant: every block before i is one of a region that is settled. The measure is what is left
-- of the blocks: as long as a region is left, a block is.
use Prim.Native.Nat.{◌-◌}
use lib.ListN.{length}
use Rattle.parents.specs.Blocks.{SettledTo}
use Rattle.parents.proofs.settle_all.Given as goal

abbrev pub invariant-loop-s : goal.invariant-loop-s
invariant-loop-s l = SettledTo l.n l.count l.codes l.labels l.initial.work l.work l.i l.s

abbrev pub decreases-loop-s : goal.decreases-loop-s
decreases-loop-s l = length l.codes - l.i
