-- The loop's invariant: the bytes from i on lead back exactly if all do, and the corners met and those left are all corners.
use Rattle.chains.specs.Following.{Following}
use Rattle.chains.proofs.reading.follow.Given as goal

abbrev pub invariant-loop-b : goal.invariant-loop-b
invariant-loop-b l = Following l.last l.start l.bytes l.b-index l.p l.d l.n
