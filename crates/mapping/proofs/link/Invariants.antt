-- `link` meets its contract. The loop's invariant: the places from j on are linked, and the head of each label is its first place from j on.
-- The measure is j.
use Rattle.links.specs.Linking.{Linking}
use Rattle.mapping.proofs.link.Given as goal

abbrev pub invariant-loop-j : goal.invariant-loop-j
invariant-loop-j l =
    Linking l.whole l.count l.labels l.initial.work l.work l.j
