-- 16 where the corners are no cycle form, 8 where the text is too short, else the path data, whose need always suffices.
use mathlib.Core.Path.{◌≡◌, refl, sym, ◌∙◌}
use mathlib.Core.Bool.{true}
use native.Mathlib.Omega.{arith}
use Rattle.lattice.specs.CycleForm.{cycle_form, parts}
use Rattle.answers.specs.Answers.{answers_cause, answers_short, answers_all}
use Rattle.svg.specs.Svg.{svg_number, svg_need, need_suffices}
use Rattle.svg.proofs.svg.Goals as goal

pub returns-then-not-cycle_form : goal.returns-then-not-cycle_form
unfolding svg_number
returns-then-not-cycle_form c =
    let cs = c.args.corners.now in
    let none = sym c.cycle_form.ensures ∙ c.if-not-cycle_form.true in
    answers_cause 16 (cycle_form cs) (svg_need cs) _ 15 refl none refl refl

pub returns-then-text-corners : goal.returns-then-text-corners
unfolding svg_number svg_need
returns-then-text-corners c =
    let form : cycle_form c.args.corners.now ≡ true = sym c.cycle_form.ensures ∙ c.if-not-cycle_form.false in
    let cs = c.args.corners.now in answers_short 16 (cycle_form cs) (svg_need cs) _ form c.if-text-corners.true refl refl

pub write_path-n-requires : goal.write_path-n-requires
write_path-n-requires c =
    let form : cycle_form c.args.corners.now ≡ true = sym c.cycle_form.ensures ∙ c.if-not-cycle_form.false in
    ((parts c.args.corners.now form).within, c.if-text-corners.false)

pub overflow_cast-result : goal.overflow_cast-result
overflow_cast-result c =
    let form : cycle_form c.args.corners.now ≡ true = sym c.cycle_form.ensures ∙ c.if-not-cycle_form.false in
    omega (arith, c.write_path-n.ensures.count_is, need_suffices c.args.corners.now form, (parts c.args.corners.now form).most)

pub returns : goal.returns
unfolding svg_number svg_need
returns c =
    let form : cycle_form c.args.corners.now ≡ true = sym c.cycle_form.ensures ∙ c.if-not-cycle_form.false in
    answers_all 16 (cycle_form c.args.corners.now) (svg_need c.args.corners.now) _ form c.if-text-corners.false refl c.write_path-n.ensures
