-- The entries are digits to the base 65,536, so their number tells whether they are equal.
use Prim.Native.Nat.{◌+◌}
use native.Mathlib.Omega.{arith}
use Rattle.blocks.specs.Siblings.{Digits, four_digits_alike}
use Rattle.blocks.proofs.covering.colours_alike.Goals as goal

pub returns : goal.returns
returns c =
    let i = c.args.i in
    let entry = c.type_inv.colours in
    let digits : Digits 65536 c.args.colours.now i =
    record { first = omega (arith, entry i); second = omega (arith, entry (i + 1)); third = omega (arith, entry (i + 2)); fourth = omega (arith, entry (i + 3)) } in
    four_digits_alike digits (omega arith) (omega arith)
