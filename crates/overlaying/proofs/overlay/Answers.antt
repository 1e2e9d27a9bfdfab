-- The tests stand in the order of the numbers: the first list's, the second's, 8. A refusal writes nothing; past them the pass writes all.
use mathlib.Core.Path.{sym}
use native.Mathlib.Omega.{arith}
use Rattle.answers.specs.Causes.{number-ne0}
use Rattle.answers.specs.Results.{written_on}
use Rattle.sequences.specs.Powers.{pow4_mono}
use Rattle.location.specs.Levels.{pixels_are_power}
use Rattle.quadtree.specs.Accepted.{number-zero}
use Rattle.overlaying.specs.Promise.{first_refused, second_refused, too_short, laid_over}
use Rattle.overlaying.proofs.overlay.Goals as goal

pub returns-in_err-check : goal.returns-in_err-check
returns-in_err-check c =
    rw (written_on _ _ c.from_residual.ensures.1)
    (first_refused _ _ _ _ c.in_err-check.ensures (number-ne0 c.in_err-check.field-0.0))

pub returns-in_err-check-2 : goal.returns-in_err-check-2
returns-in_err-check-2 c =
    rw (written_on _ _ c.from_residual-in_err-check-2.ensures.1)
    (second_refused _ _ _ _ (sym c.in_ok-check.ensures) c.in_err-check-2.ensures (number-ne0 c.in_err-check-2.field-0.0))

pub returns-then-room-whole : goal.returns-then-room-whole
returns-then-room-whole c =
    let small = (number-zero _ _ _ _ (sym c.in_ok-check.ensures)).small in
    let whole = pixels_are_power c.args.n (omega (arith, small)) in
    too_short _ _ _ _ (sym c.in_ok-check.ensures) (sym c.in_ok-check-2.ensures) (omega arith)

pub lay_over-count-requires : goal.lay_over-count-requires
lay_over-count-requires c =
    let small = (number-zero _ _ _ _ (sym c.in_ok-check.ensures)).small in
    let whole = pixels_are_power c.args.n (omega (arith, small)) in
    record {
      first = sym c.in_ok-check.ensures;
      second = sym c.in_ok-check-2.ensures;
      room = record { in_codes = omega arith; in_levels = omega arith; in_colours = omega arith };
    }

pub overflow_cast-result : goal.overflow_cast-result
overflow_cast-result c =
    let small = (number-zero _ _ _ _ (sym c.in_ok-check.ensures)).small in
    omega (arith, c.lay_over-count.ensures.few, pow4_mono small)

pub shape_of-codes : goal.shape_of-codes
shape_of-codes c = c.lay_over-count.ensures.same.for_codes

pub shape_of-levels : goal.shape_of-levels
shape_of-levels c = c.lay_over-count.ensures.same.for_levels

pub shape_of-colours : goal.shape_of-colours
shape_of-colours c = c.lay_over-count.ensures.same.for_colours

pub returns : goal.returns
returns c =
    let small = (number-zero _ _ _ _ (sym c.in_ok-check.ensures)).small in
    let whole = pixels_are_power c.args.n (omega (arith, small)) in
    laid_over _ _ _ _ (sym c.in_ok-check.ensures) (sym c.in_ok-check-2.ensures)
    (record { in_codes = omega arith; in_levels = omega arith; in_colours = omega arith }) c.lay_over-count.ensures
