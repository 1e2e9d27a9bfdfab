-- No image has more regions, cycles or corners than is asked first; past that the lists agree exactly where the ends rise.
use mathlib.Core.Path.{◌∙◌}
use native.Mathlib.Omega.{arith}
use Rattle.sequences.specs.Powers.{pow4_mono}
use Rattle.location.specs.Levels.{pixels_are_power}
use Rattle.restoring.specs.Judging.{too_many_regions, too_many_cycles, too_many_corners, by_ends}
use Rattle.restoring.proofs.judge.lists_agree.Goals as goal

pub returns-then-whole-region_colours : goal.returns-then-whole-region_colours
returns-then-whole-region_colours c =
    let whole = c.pixels-whole.ensures ∙ pixels_are_power c.args.n (omega (arith, c.requires.0)) in
    too_many_regions c.requires.0 (omega (arith, whole, c.if-whole-region_colours.true))

pub returns-then-whole-ends : goal.returns-then-whole-ends
returns-then-whole-ends c =
    let whole = c.pixels-whole.ensures ∙ pixels_are_power c.args.n (omega (arith, c.requires.0)) in
    too_many_cycles c.requires.0 (omega (arith, whole, c.if-whole-ends.true))

pub overflow_mul-whole : goal.overflow_mul-whole
overflow_mul-whole c =
    let whole = c.pixels-whole.ensures ∙ pixels_are_power c.args.n (omega (arith, c.requires.0)) in
    omega (arith, whole, pow4_mono c.requires.0)

pub returns-then-whole-corners : goal.returns-then-whole-corners
returns-then-whole-corners c =
    let whole = c.pixels-whole.ensures ∙ pixels_are_power c.args.n (omega (arith, c.requires.0)) in
    too_many_corners c.requires.0 (omega (arith, whole, c.if-whole-corners.true))

pub returns : goal.returns
returns c =
    let whole = c.pixels-whole.ensures ∙ pixels_are_power c.args.n (omega (arith, c.requires.0)) in
    by_ends c.requires.0 c.requires.1 (omega (arith, whole, c.if-whole-region_colours.false)) c.ends_rise.ensures
