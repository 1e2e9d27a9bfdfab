-- The loop's invariant: the corners written and those that the bytes from i on will give are all corners.
use Rattle.chains.specs.Following.{Drawing}
use Rattle.chains.proofs.reading.write_corners.Given as goal

abbrev pub invariant-loop-b : goal.invariant-loop-b
invariant-loop-b l = Drawing l.last l.start l.bytes l.initial.corners l.corners l.b-index l.p l.d l.at
