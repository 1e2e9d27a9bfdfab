-- A shift of 1 by l below 64 loses nothing: it is 2 ^ l.
use mathlib.Core.Path.{◌∙◌, sym}
use native.Mathlib.Omega.{arith}
use native.Mathlib.Nat.{one-mul}
use Prim.Native.Nat.{◌^◌}
use lib.Pow.{shl_exact}
use Rattle.location.specs.Levels.{side_is_power, side_above_lem}
use Rattle.location.proofs.side.Goals as goal

pub returns-then-l-lt64 : goal.returns-then-l-lt64
returns-then-l-lt64 c = let l = c.args.l in shl_exact {a = 1} 1 l 64 (omega arith) (omega arith) ∙ one-mul (2 ^ l) ∙ sym (side_is_power l (omega arith))

pub returns-else-l-lt64 : goal.returns-else-l-lt64
returns-else-l-lt64 c = sym (side_above_lem c.args.l (omega arith))
