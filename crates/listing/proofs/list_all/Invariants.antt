-- `list_all` meets its contract. The loop's invariant: every block before i is one of a region that is listed.
use Rattle.quadtree.specs.Blocks.{blocks}
use Rattle.starts.specs.Progress.{state}
use Rattle.listing.specs.Regions.{ListedTo}
use Rattle.listing.proofs.list_all.Given as goal

abbrev pub invariant-loop-i : goal.invariant-loop-i
invariant-loop-i l =
    ListedTo l.n (blocks l.codes l.levels l.labels) (state l.initial.work l.initial.owners l.initial.ends l.initial.corners l.initial.areas l.initial.reached.counts) (state l.work l.owners l.ends l.corners l.areas l.reached.counts) l.i l.reached.regions
