-- The loop's invariant: the entries of the stretch before x hold v.
use Rattle.std.proofs.Common.{◌≡◌, take, replicate}
use Rattle.filling.proofs.fill.Given as goal

abbrev pub invariant-loop-x : goal.invariant-loop-x
invariant-loop-x g l = take l.x-index l.x-items ≡ replicate l.x-index l.v
