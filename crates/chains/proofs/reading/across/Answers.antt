-- The byte is compared with 49 and with 51.
use Rattle.std.proofs.Common.{eq-eqb, ne_eqb}
use Rattle.chains.specs.ChainForm.{is_across}
use Rattle.chains.proofs.reading.across.Goals as goal

pub returns-then-b-eq49 : goal.returns-then-b-eq49
unfolding is_across
returns-then-b-eq49 c = simp (eq-eqb _ _ c.if-b-eq49.true)

pub returns-else-b-eq49 : goal.returns-else-b-eq49
unfolding is_across
returns-else-b-eq49 c = simp (ne_eqb _ _ c.if-b-eq49.false)
