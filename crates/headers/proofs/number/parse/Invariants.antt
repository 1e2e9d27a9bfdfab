-- The invariant: the digits read and those left make the number (`Digits`). A number of at most 5 digits is below 100,000, so nothing
-- overflows.
use Rattle.headers.proofs.Digits.{Reading}
use Rattle.headers.proofs.number.parse.Given as goal

abbrev pub invariant-loop-at : goal.invariant-loop-at
invariant-loop-at l = Reading l.bytes l.fn.c.at l.count l.value l.at
