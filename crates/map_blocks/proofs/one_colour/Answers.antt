-- Each test tells one of the other three pixels from the first.
use native.Mathlib.Omega.{arith}
use Rattle.map_blocks.specs.Fours.{other_colour, told_by_last}
use Rattle.map_blocks.proofs.one_colour.Goals as goal

pub returns-then-four : goal.returns-then-four
returns-then-four c = other_colour c.args.four.now 1 (omega arith) c.if-four.true

pub returns-then-four-2 : goal.returns-then-four-2
returns-then-four-2 c = other_colour c.args.four.now 2 (omega arith) c.if-four-2.true

pub returns : goal.returns
returns c = told_by_last c.args.four.now c.if-four.false c.if-four-2.false
