-- The tests stand in the order in which the definition asks them.
use mathlib.Core.Path.{ap, ◌∙◌}
use Prim.Native.Nat.{◌*◌}
use native.Mathlib.Omega.{arith}
use lib.Dec.{ltb}
use Rattle.sequences.specs.Powers.{pow4_mono}
use Rattle.location.specs.Levels.{pixels_are_power}
use Rattle.restoring.specs.Lengths.{codes_short, levels_short, colours_short, by_work}
use Rattle.restoring.proofs.one_short.Goals as goal

pub returns-then-codes-whole : goal.returns-then-codes-whole
returns-then-codes-whole c =
    let whole = c.pixels-whole.ensures ∙ pixels_are_power c.args.n (omega (arith, c.requires)) in
    codes_short _ _ _ _ _ (omega (arith, whole, c.if-codes-whole.true))

pub returns-then-levels-whole : goal.returns-then-levels-whole
returns-then-levels-whole c =
    let whole = c.pixels-whole.ensures ∙ pixels_are_power c.args.n (omega (arith, c.requires)) in
    levels_short _ _ _ _ _ (omega (arith, whole, c.if-levels-whole.true))

pub returns-then-colours-whole : goal.returns-then-colours-whole
returns-then-colours-whole c =
    let whole = c.pixels-whole.ensures ∙ pixels_are_power c.args.n (omega (arith, c.requires)) in
    colours_short _ _ _ _ _ (omega (arith, whole, c.if-colours-whole.true))

pub overflow_mul-result : goal.overflow_mul-result
overflow_mul-result c =
    let whole = c.pixels-whole.ensures ∙ pixels_are_power c.args.n (omega (arith, c.requires)) in
    omega (arith, whole, pow4_mono c.requires)

pub returns : goal.returns
returns c =
    let whole = c.pixels-whole.ensures ∙ pixels_are_power c.args.n (omega (arith, c.requires)) in
    by_work _ _ _ _ _ (omega (arith, whole, c.if-codes-whole.false)) (omega (arith, whole, c.if-levels-whole.false)) (omega (arith, whole, c.if-colours-whole.false))
    (ap (λ k. ltb c.args.work (8 * k)) whole)
