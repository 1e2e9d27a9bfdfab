-- The tests stand in the order of the numbers: the list's, 21, 8. A refusal writes nothing; past them the pass writes all.
use Rattle.std.proofs.Common.{◌≡◌, ℕ, ◌^◌, ◌≤◌, ◌<◌, false, sym, ap, ◌∙◌, arith}
use Rattle.answers.specs.Causes.{number-ne0}
use Rattle.answers.specs.Results.{written_on}
use Rattle.sequences.specs.Powers.{pow2_mono, pow4_mono}
use Rattle.interleaving.specs.Interleaving.{code_below}
use Rattle.interleaving.specs.Splitting.{code_wider}
use Rattle.location.specs.Levels.{side_of, side_is_power, pixels_are_power}
use Rattle.quadtree.specs.Accepted.{number-zero}
use Rattle.touching_up.specs.Promise.{outside, not_outside, list_refused, pixel_outside, too_short, all_repainted}
use Rattle.touching_up.proofs.touch_up.Goals as goal

-- A pixel that is not outside, by the side of an image of n up to 8.
in_image : (n x y side : ℕ) → n ≤ 8 → side ≡ side_of n → outside side x y ≡ false → (outside (2 ^ n) x y ≡ false) × (x < 2 ^ n) × (y < 2 ^ n) × (2 ^ n ≤ 256)
in_image n x y side small e inside =
    let asked = sym (ap (λ (w : ℕ). outside w x y) (e ∙ side_is_power n (omega (arith, small)))) ∙ inside in
    let pixel = not_outside (2 ^ n) x y asked in
    (asked, pixel.0, pixel.1, pow2_mono small)

pub returns-in_err-check : goal.returns-in_err-check
returns-in_err-check c =
    rw (written_on _ _ c.from_residual.ensures.1)
    (list_refused _ _ _ _ _ _ c.in_err-check.ensures (number-ne0 c.in_err-check.field-0.0))

pub returns-then-outside : goal.returns-then-outside
returns-then-outside c =
    let a = c.args in
    let small = (number-zero _ _ _ _ (sym c.in_ok-check.ensures)).small in
    let side = c.side.ensures ∙ side_is_power a.n (omega (arith, small)) in
    pixel_outside _ _ _ _ _ _ (sym c.in_ok-check.ensures) (sym (c.outside.ensures ∙ ap (λ (w : ℕ). outside w a.x a.y) side) ∙ c.if-outside.true)

pub returns-then-room-whole : goal.returns-then-room-whole
returns-then-room-whole c =
    let small = (number-zero _ _ _ _ (sym c.in_ok-check.ensures)).small in
    let whole = pixels_are_power c.args.n (omega (arith, small)) in
    let inside = in_image c.args.n c.args.x c.args.y _ small c.side.ensures (sym c.outside.ensures ∙ c.if-outside.false) in
    too_short _ _ _ _ _ _ (sym c.in_ok-check.ensures) inside.0 (omega arith)

pub overflow_cast-x : goal.overflow_cast-x
overflow_cast-x c =
    let small = (number-zero _ _ _ _ (sym c.in_ok-check.ensures)).small in
    omega (arith, in_image c.args.n c.args.x c.args.y _ small c.side.ensures (sym c.outside.ensures ∙ c.if-outside.false))

pub overflow_cast-y : goal.overflow_cast-y
overflow_cast-y c =
    let small = (number-zero _ _ _ _ (sym c.in_ok-check.ensures)).small in
    omega (arith, in_image c.args.n c.args.x c.args.y _ small c.side.ensures (sym c.outside.ensures ∙ c.if-outside.false))

pub repaint-count-requires : goal.repaint-count-requires
repaint-count-requires c =
    let a = c.args in
    let small = (number-zero _ _ _ _ (sym c.in_ok-check.ensures)).small in
    let whole = pixels_are_power a.n (omega (arith, small)) in
    let inside = in_image a.n a.x a.y _ small c.side.ensures (sym c.outside.ensures ∙ c.if-outside.false) in
    let here = c.code-pixel.ensures ∙ code_wider a.n 16 a.x a.y (omega (arith, small)) inside.1 inside.2 in
    record {
      accepted = sym c.in_ok-check.ensures;
      in_image = omega (arith, here, code_below a.n a.x a.y);
      room = record { in_codes = omega arith; in_levels = omega arith; in_colours = omega arith };
    }

pub overflow_cast-result : goal.overflow_cast-result
overflow_cast-result c =
    let small = (number-zero _ _ _ _ (sym c.in_ok-check.ensures)).small in
    omega (arith, c.repaint-count.ensures.few, pow4_mono small)

pub shape_of-new_codes : goal.shape_of-new_codes
shape_of-new_codes c = c.repaint-count.ensures.same.for_codes

pub shape_of-new_levels : goal.shape_of-new_levels
shape_of-new_levels c = c.repaint-count.ensures.same.for_levels

pub shape_of-new_colours : goal.shape_of-new_colours
shape_of-new_colours c = c.repaint-count.ensures.same.for_colours

pub returns : goal.returns
returns c =
    let a = c.args in
    let small = (number-zero _ _ _ _ (sym c.in_ok-check.ensures)).small in
    let whole = pixels_are_power a.n (omega (arith, small)) in
    let inside = in_image a.n a.x a.y _ small c.side.ensures (sym c.outside.ensures ∙ c.if-outside.false) in
    let here = c.code-pixel.ensures ∙ code_wider a.n 16 a.x a.y (omega (arith, small)) inside.1 inside.2 in
    all_repainted _ _ _ _ _ _ (sym c.in_ok-check.ensures) inside.0 _
    (record { in_codes = omega arith; in_levels = omega arith; in_colours = omega arith }) here c.repaint-count.ensures
