-- The loop's invariant: what was written and the text of the cycles left are the whole, and the cycles left have room.
use Rattle.lines.specs.Writing.{Underway}
use Rattle.lines.proofs.write.Given as goal

abbrev pub invariant-loop-k : goal.invariant-loop-k
invariant-loop-k l = Underway l.owners l.ends l.corners l.cycles l.initial.text l.text l.at l.k
