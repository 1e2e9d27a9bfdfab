-- The loop's invariant: what was put and the path data from the corner at i on are the whole; after i corners at most 4 i + 4
-- bytes were used, so 8 are left for the next word.
use Rattle.svg.specs.PathSoFar.{PathSoFar}
use Rattle.svg.proofs.text.write_path.Given as goal

abbrev pub invariant-loop-i : goal.invariant-loop-i
invariant-loop-i l = PathSoFar l.corners l.initial.text l.text l.i l.at
