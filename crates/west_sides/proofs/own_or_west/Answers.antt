-- The two cases of the definition.
use mathlib.Core.Path.{sym}
use native.Mathlib.Omega.{arith}
use Rattle.sequences.specs.Cases.{first_none, first_some}
use Rattle.west_sides.proofs.own_or_west.Goals as goal

pub returns-then-own-eq0 : goal.returns-then-own-eq0
returns-then-own-eq0 c = sym (first_none _ _ c.if-own-eq0.true)

pub returns-else-own-eq0 : goal.returns-else-own-eq0
returns-else-own-eq0 c = sym (first_some _ _ (omega (arith, c.if-own-eq0.false)))
