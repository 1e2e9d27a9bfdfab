-- What was read lies within the buffer, and each turn leaves less of it to fill.
use Rattle.std.specs.Prelude.{◌≤◌, ◌-◌, length}
use Rattle.program.proofs.read_full.Given as goal

abbrev pub invariant-loop-done : goal.invariant-loop-done
invariant-loop-done l = l.done ≤ length l.buffer

abbrev pub decreases-loop-done : goal.decreases-loop-done
decreases-loop-done l = length l.buffer - l.done
