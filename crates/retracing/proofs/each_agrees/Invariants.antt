-- The loop's invariant: the first k cycles agree and stand in order, and the map bears their marks.
use Rattle.retracing.specs.Checking.{Checking}
use Rattle.retracing.proofs.each_agrees.Given as goal

abbrev pub invariant-loop-k : goal.invariant-loop-k
invariant-loop-k l = Checking l.n l.owners l.ends l.corners l.initial.map l.map l.k l.begin l.least
