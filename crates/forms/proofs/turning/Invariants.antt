-- The loop's invariant: the test of the steps from the corner at i on is the test of all steps. The last step closes, along y only
-- if the last place is odd.
use Rattle.lattice.specs.CycleForm.{steps}
use Rattle.forms.specs.Scan.{steps_from}
use mathlib.Core.Path.{◌≡◌}
use Prim.Native.Nat.{◌≤◌}
use Rattle.forms.proofs.turning.Given as goal

abbrev pub invariant-loop-i : goal.invariant-loop-i
invariant-loop-i l = (l.i ≤ l.last) × (steps_from l.corners l.i ≡ steps l.corners)
