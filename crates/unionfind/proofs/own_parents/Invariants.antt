-- The loop's invariant: the first i places are their own parents, the others as they were.
use Rattle.unions.specs.OwnParents.{OwnParents}
use Rattle.unionfind.proofs.own_parents.Given as goal

abbrev pub invariant-loop-i : goal.invariant-loop-i
invariant-loop-i l = OwnParents l.initial.parents l.parents l.i
