-- The loop's invariant: the pixels with codes below c are joined with their neighbours.
use Rattle.pixel_numbers.specs.Pixels.{Passed}
use Rattle.pixel_numbers.proofs.join_pixels.Given as goal

abbrev pub invariant-loop-c : goal.invariant-loop-c
invariant-loop-c l = Passed l.n l.colours l.initial.work l.work l.c
