-- The loop's invariant: to store the legs from the corner p on is as good as the whole outline.
use Rattle.std.specs.Prelude.{◌+◌}
use Rattle.west_sides.specs.Outlines.{NextLeg}
use Rattle.west_sides.proofs.store_outline.Given as goal

abbrev pub invariant-loop-q : goal.invariant-loop-q
invariant-loop-q l = NextLeg l.side l.r l.units l.points l.initial.map l.map l.p l.left (l.q-index + 1)
