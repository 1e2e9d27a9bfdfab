-- A shift of 1 by 2 * l below 64 loses nothing, and 2 ^ (2 * l) is 4 ^ l.
use mathlib.Core.Path.{◌∙◌, sym}
use native.Mathlib.Omega.{arith}
use native.Mathlib.Nat.{one-mul}
use Prim.Native.Nat.{◌*◌, ◌^◌}
use lib.Pow.{shl_exact}
use Rattle.sequences.specs.Powers.{pow2_double}
use Rattle.location.specs.Levels.{pixels_are_power, pixels_above}
use Rattle.location.proofs.pixels.Goals as goal

pub returns-then-l-lt32 : goal.returns-then-l-lt32
returns-then-l-lt32 c =
    let l = c.args.l in
    shl_exact {a = 1} 1 (2 * l) 64 (omega arith) (omega arith) ∙ one-mul (2 ^ (2 * l)) ∙ pow2_double l ∙ sym (pixels_are_power l (omega arith))

pub returns-else-l-lt32 : goal.returns-else-l-lt32
returns-else-l-lt32 c = sym (pixels_above c.args.l (omega arith))
