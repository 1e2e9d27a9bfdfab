-- One unit on the point lies in the image, so the numbers hold it.
use native.Mathlib.Omega.{arith}
use Rattle.steps.specs.Rule.{moved}
use Rattle.steps.proofs.Edge.next.Goals as goal

pub next_digit-d-requires : goal.next_digit-d-requires
next_digit-d-requires c =
    let there = moved c.requires.1 c.requires.2 c.next_x-x.ensures c.next_y-y.ensures in
    (c.requires.0, omega (arith, there.x_low), omega (arith, there.y_low), c.requires.2)
