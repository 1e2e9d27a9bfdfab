-- `list_region` meets its contract. The loop's invariant: the top rows of the blocks of the chain before next - 1 are done, those from it on
-- come next; the link of a block leads to the next one. The measure is what is left of the list.
use Rattle.starts.specs.Progress.{state}
use Rattle.listing.specs.Chains.{ChainTo, chain_left}
use Rattle.listing.proofs.list_region.Given as goal

abbrev pub invariant-loop-j : goal.invariant-loop-j
invariant-loop-j l =
    ChainTo l.n l.codes l.levels l.first (state l.initial.work l.initial.owners l.initial.ends l.initial.corners l.initial.areas l.initial.listed) (state l.work l.owners l.ends l.corners l.areas l.listed) l.next

abbrev pub decreases-loop-j : goal.decreases-loop-j
decreases-loop-j l =
    chain_left l.codes l.next
