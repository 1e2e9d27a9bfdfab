-- The loop's invariant: the places before i have their numbers, the others their parents. A parent is smaller than its child, so it is
-- numbered before.
use Rattle.unions.specs.RootNumbers.{NumberedTo}
use Rattle.unionfind.proofs.number_all.Given as goal

abbrev pub invariant-loop-i : goal.invariant-loop-i
invariant-loop-i l = NumberedTo l.initial.labels l.labels l.next l.i
