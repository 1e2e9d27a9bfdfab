-- The loop's invariant: the places before i pass.
use Rattle.retracing.specs.LastPass.{Passing}
use Rattle.retracing.proofs.each_marked.Given as goal

abbrev pub invariant-loop-i : goal.invariant-loop-i
invariant-loop-i l = Passing l.n l.map l.i
