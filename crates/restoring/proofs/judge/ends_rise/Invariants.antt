-- What is left to ask gives the same answer.
use Rattle.restoring.specs.Ends.{EndsLeft}
use Rattle.restoring.proofs.judge.ends_rise.Given as goal

abbrev pub invariant-loop-end : goal.invariant-loop-end
invariant-loop-end l = EndsLeft l.ends l.total l.from l.end-index
