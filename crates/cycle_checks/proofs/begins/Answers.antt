-- The rule goes straight on east exactly along a north side that is an edge; it turns right, coming from north or from east, exactly where the
-- pixel southwest, or northwest, is not in the region.
use Rattle.std.proofs.Common.{eq-eqb, ne_eqb}
use Rattle.lattice.specs.Directions.{point}
use Rattle.cycle_checks.specs.Begins.{no_edge, southwest_out, by_northwest}
use Rattle.cycle_checks.proofs.begins.Goals as goal

pub returns-then-next_digit-eq2 : goal.returns-then-next_digit-eq2
returns-then-next_digit-eq2 c =
    let south = c.next_digit-then-next_digit-eq0 in
    rw (eq-eqb south.result 2 c.if-next_digit-eq2.true)
    (southwest_out c.requires.0 c.args.r (point c.args.x c.args.y) c.next_digit.ensures c.requires.1 c.if-next_digit-eq0.true south.ensures c.if-next_digit-eq2.true)

pub returns-else-next_digit-eq2 : goal.returns-else-next_digit-eq2
returns-else-next_digit-eq2 c =
    by_northwest c.requires.0 c.args.r (point c.args.x c.args.y) c.next_digit.ensures c.requires.1 c.if-next_digit-eq0.true
    c.next_digit-then-next_digit-eq0.ensures c.next_digit-else-next_digit-eq2.ensures c.if-next_digit-eq2.false

pub returns-else-next_digit-eq0 : goal.returns-else-next_digit-eq0
returns-else-next_digit-eq0 c =
    rw (ne_eqb c.next_digit.result 0 c.if-next_digit-eq0.false)
    (no_edge c.requires.0 c.args.r (point c.args.x c.args.y) c.next_digit.ensures c.if-next_digit-eq0.false)
