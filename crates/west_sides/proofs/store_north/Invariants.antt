-- The loop's invariant: what is left to store from the row y on is all that was to be stored.
use Rattle.west_sides.specs.Legs.{StoringNorth}
use Rattle.west_sides.proofs.store_north.Given as goal

abbrev pub invariant-loop-y : goal.invariant-loop-y
invariant-loop-y l = StoringNorth l.side l.x l.from l.to l.r l.initial.map l.map l.y
