-- The tests are the parts of cause 7; a code's alignment tells whether it begins a block one level up.
use Rattle.blocks.specs.Siblings.{not_below_n, not_first_child, not_one_level, one_colour_lem, more-colours}
use native.Mathlib.Omega.{arith}
use mathlib.Core.Path.{sym, ◌∙◌}
use Rattle.blocks.proofs.covering.stride.Goals as goal

pub returns-then-n-level : goal.returns-then-n-level
returns-then-n-level c =
    let a = c.args in
    not_below_n a.n a.codes.now a.levels.now a.colours.now a.i (omega arith)

pub returns-then-alignment-level : goal.returns-then-alignment-level
returns-then-alignment-level c =
    let a = c.args in
    not_first_child a.n a.codes.now a.levels.now a.colours.now a.i
    (omega arith) (omega arith)

pub returns-then-not-levels_alike : goal.returns-then-not-levels_alike
returns-then-not-levels_alike c =
    let a = c.args in
    not_one_level a.n a.codes.now a.levels.now a.colours.now a.i (sym c.levels_alike.ensures ∙ c.if-not-levels_alike.true)

pub returns-then-colours_alike : goal.returns-then-colours_alike
returns-then-colours_alike c =
    let a = c.args in
    one_colour_lem a.n a.codes.now a.levels.now a.colours.now a.i
    (omega arith) (omega arith)
    (sym c.levels_alike.ensures ∙ c.if-not-levels_alike.false) (sym c.colours_alike.ensures ∙ c.if-colours_alike.true)

pub returns : goal.returns
returns c =
    let a = c.args in
    more-colours a.n a.codes.now a.levels.now a.colours.now a.i
    (omega arith) (omega arith)
    (sym c.levels_alike.ensures ∙ c.if-not-levels_alike.false) (sym c.colours_alike.ensures ∙ c.if-colours_alike.false)
