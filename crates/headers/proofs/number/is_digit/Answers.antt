-- The two bounds of the definition, the lower first.
use Rattle.std.proofs.Common.{le-leb}
use Rattle.std.proofs.lemmas.Bool.{lt-leb}
use Rattle.headers.specs.Number.{is_digit}
use Rattle.headers.proofs.number.is_digit.Goals as goal

pub returns-then-b-ge48 : goal.returns-then-b-ge48
unfolding is_digit
returns-then-b-ge48 c = simp (le-leb _ _ c.if-b-ge48.true)

pub returns-else-b-ge48 : goal.returns-else-b-ge48
unfolding is_digit
returns-else-b-ge48 c = simp (lt-leb _ _ c.if-b-ge48.false)
