-- The loop's invariant: the pixels from i on are alike exactly when all of the run are.
use Rattle.quadtree.specs.Quadtree.{alike}
use mathlib.Core.Path.{◌≡◌}
use Prim.Native.Nat.{◌-◌, ◌+◌}
use Rattle.uniform.proofs.run_alike.Given as goal

abbrev pub invariant-loop-i : goal.invariant-loop-i
invariant-loop-i l = alike l.raster l.v l.i (l.from + l.s - l.i) ≡ alike l.raster l.v l.from l.s
