-- The loop's invariant: the rows from y on are alike exactly when all rows are.
use Prim.Native.Nat.{◌+◌, ◌*◌}
use Rattle.uniform.specs.Squares.{Rows}
use Rattle.uniform.proofs.square_alike.Given as goal

abbrev pub invariant-loop-y : goal.invariant-loop-y
invariant-loop-y l = Rows l.raster l.v l.w l.at l.s (l.at + l.y * l.w) l.y
