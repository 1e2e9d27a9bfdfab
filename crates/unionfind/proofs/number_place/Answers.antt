-- A root is its own parent and takes the next number; any other place copies what stands at its parent's place.
use Rattle.unions.specs.RootNumbers.{number_at, next_after}
use borrow.Author.Tests.{eq-eqb, ne_eqb}
use mathlib.Core.Path.{refl}
use Rattle.unionfind.proofs.number_place.Goals as goal

pub returns-then-parent-i : goal.returns-then-parent-i
unfolding number_at next_after
returns-then-parent-i c = simp (eq-eqb _ _ c.if-parent-i.true) (refl, refl)

pub returns : goal.returns
unfolding number_at next_after
returns c = simp (ne_eqb _ _ c.if-parent-i.false) (refl, refl)
