-- The invariant: one was found or is left exactly where there is one.
use Rattle.pgm.proofs.Sampling.{Looked}
use Rattle.pgm.proofs.samples.any_above.Given as goal

abbrev pub invariant-loop-i : goal.invariant-loop-i
invariant-loop-i l = Looked l.wide l.count l.bytes l.maxval l.found l.i
