-- The loop's invariant: the numbers of the pixels with codes below c are the same.
use Rattle.pixel_numbers.specs.Comparing.{SameBelow}
use Rattle.pixel_numbers.proofs.same_numbers.Given as goal

abbrev pub invariant-loop-c : goal.invariant-loop-c
invariant-loop-c l = SameBelow l.n l.work l.c
