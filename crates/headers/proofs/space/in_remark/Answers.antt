-- Inside a remark all but LF and CR go on with it; outside, a number sign begins one.
use Rattle.std.proofs.Common.{eq-eqb, ne_eqb}
use Rattle.headers.specs.Space.{is_sign, is_end}
use Rattle.headers.proofs.space.in_remark.Goals as goal

pub returns-then-b-eq10 : goal.returns-then-b-eq10
unfolding is_end
returns-then-b-eq10 c = simp (c.if-inside.true, eq-eqb _ _ c.if-b-eq10.true)

pub returns-then-inside : goal.returns-then-inside
unfolding is_end
returns-then-inside c = simp (c.if-inside.true, ne_eqb _ _ c.if-b-eq10.false)

pub returns : goal.returns
unfolding is_sign
returns c = simp c.if-inside.false
