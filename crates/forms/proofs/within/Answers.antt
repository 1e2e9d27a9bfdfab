-- Both coordinates are compared with 256 as the definition compares them; where the first is above, the second is not asked.
use borrow.Author.Tests.{le-leb, lt-leb}
use Rattle.lattice.specs.CycleForm.{inside}
use Rattle.forms.proofs.within.Goals as goal

pub returns-then-p-le256 : goal.returns-then-p-le256
unfolding inside
returns-then-p-le256 c = simp (le-leb _ _ c.if-p-le256.true)

pub returns-else-p-le256 : goal.returns-else-p-le256
unfolding inside
returns-else-p-le256 c = simp (lt-leb _ _ c.if-p-le256.false)
