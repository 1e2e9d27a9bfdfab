-- A number with no digit is refused.
use Rattle.std.proofs.Common.{eq-eqb, ne_eqb}
use Rattle.headers.proofs.number.stop.Goals as goal

pub returns-then-count-eq0 : goal.returns-then-count-eq0
returns-then-count-eq0 c = simp (eq-eqb _ _ c.if-count-eq0.true)

pub returns-else-count-eq0 : goal.returns-else-count-eq0
returns-else-count-eq0 c = simp (ne_eqb _ _ c.if-count-eq0.false)
