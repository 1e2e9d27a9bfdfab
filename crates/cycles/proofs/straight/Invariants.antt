-- The loop's invariant: what is straight from the edge reached is straight from the first one.
-- The measure: the units that are left in the image in this direction.
use mathlib.Core.Path.{◌≡◌}
use Rattle.steps.specs.Rule.{units_ahead}
use Rattle.cycles.specs.Straight.{Onward}
use Rattle.cycles.proofs.straight.Given as goal

abbrev pub invariant-loop-next : goal.invariant-loop-next
invariant-loop-next g l = record {
  straight_here : Onward g.row.MARKED l.side l.r l.initial.map l.column l.row l.map l.edge.x l.edge.y g.row.D;
  same_digit : l.edge.d ≡ g.row.D;
}

abbrev pub decreases-loop-next : goal.decreases-loop-next
decreases-loop-next g l = units_ahead l.edge.x l.edge.y g.row.D
