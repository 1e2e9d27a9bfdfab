-- Both coordinates are compared with the side as the definition compares them; where the first is outside, the second is not asked.
use borrow.Author.Tests.{le-leb, lt-leb}
use Rattle.touching_up.specs.Promise.{outside}
use Rattle.touching_up.proofs.outside.Goals as goal

pub returns-then-side-x : goal.returns-then-side-x
unfolding outside
returns-then-side-x c = simp (le-leb _ _ c.if-side-x.true)

pub returns-else-side-x : goal.returns-else-side-x
unfolding outside
returns-else-side-x c = simp (lt-leb _ _ c.if-side-x.false)
