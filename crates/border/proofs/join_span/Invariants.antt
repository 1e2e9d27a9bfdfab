-- At the image's edge there is nothing to join. Elsewhere the loop's invariant: joining what the entries from x on name leads to the
-- joins of the whole span, and what the last entry names is joined.
use mathlib.Core.Path.{◌≡◌}
use Rattle.unions.specs.Roots.{root}
use Rattle.components.specs.Spans.{join_if_alike, Spanning}
use Rattle.border.proofs.join_span.Given as goal

abbrev pub invariant-loop-x : goal.invariant-loop-x
invariant-loop-x l = Spanning l.entries l.from l.s l.colours l.k l.initial.parents l.parents l.x × (join_if_alike l.colours (root l.parents) l.last l.k ≡ root l.parents)
