-- The two tests are the definition's, in its order, on either axis.
use borrow.Author.Tests.{eq-eqb, ne_eqb}
use Rattle.lattice.specs.CycleForm.{along}
use Rattle.forms.proofs.goes_along.Goals as goal

pub returns-then-p-q : goal.returns-then-p-q
unfolding along
returns-then-p-q c = simp (c.if-x.true, eq-eqb _ _ c.if-p-q.true)

pub returns-else-p-q : goal.returns-else-p-q
unfolding along
returns-else-p-q c = simp (c.if-x.true, ne_eqb _ _ c.if-p-q.false)

pub returns-then-p-q-2 : goal.returns-then-p-q-2
unfolding along
returns-then-p-q-2 c = simp (c.if-x.false, eq-eqb _ _ c.if-p-q-2.true)

pub returns-else-p-q-2 : goal.returns-else-p-q-2
unfolding along
returns-else-p-q-2 c = simp (c.if-x.false, ne_eqb _ _ c.if-p-q-2.false)
