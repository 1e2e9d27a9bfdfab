-- The invariant: no exponent below n is the one, and power is 2^n (`Search`).
use Rattle.pgm.proofs.Search.{Searching}
use Rattle.pgm.proofs.shape.exponent.Given as goal

abbrev pub invariant-loop-n : goal.invariant-loop-n
invariant-loop-n l = Searching l.width l.n l.power
