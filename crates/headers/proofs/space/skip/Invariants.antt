-- The invariant: what is skipped from the present place, inside a remark or not, is what is skipped from the first.
use mathlib.Core.Path.{◌≡◌}
use mathlib.Core.Bool.{false}
use Prim.Native.Nat.{◌≤◌}
use lib.ListN.{length, drop}
use Rattle.headers.specs.Space.{skip}
use Rattle.headers.proofs.space.skip.Given as goal

abbrev pub invariant-loop-at : goal.invariant-loop-at
invariant-loop-at l = (l.at ≤ length l.bytes) × (skip l.remark (drop l.at l.bytes) ≡ skip false (drop l.from l.bytes))
