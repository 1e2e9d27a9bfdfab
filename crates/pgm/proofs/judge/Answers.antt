-- The shape, then 14, then 8: at each return the law of that answer applies.
use Rattle.std.proofs.Common.{sym, ◌∙◌, arith}
use Rattle.std.proofs.lemmas.Result.{err_from_is_err_and}
use Rattle.pgm.specs.Reading.{refusal}
use Rattle.pgm.specs.ShapeLaws.{shape_facts}
use Rattle.pgm.specs.Judging.{shape_answered, above_answered, short_judged, stored-judged}
use Rattle.pgm.proofs.judge.Goals as goal

pub returns-in_err-n : goal.returns-in_err-n
unfolding refusal
returns-in_err-n c =
    let p = err_from_is_err_and c.from_residual.result c.from_residual.ensures.1 in
    rw (p.1, p.2) (shape_answered _ _ _ (sym c.shape_of.ensures ∙ c.in_err-n.was))

pub overflow_cast-maxval : goal.overflow_cast-maxval
overflow_cast-maxval c = omega (arith, (shape_facts _ _ (sym c.shape_of.ensures ∙ c.in_ok-n.was)).high)

pub any_above-requires : goal.any_above-requires
any_above-requires c = omega (arith, (shape_facts _ _ (sym c.shape_of.ensures ∙ c.in_ok-n.was)).full)

pub returns-then-any_above : goal.returns-then-any_above
unfolding refusal
returns-then-any_above c = above_answered _ _ _ (sym c.shape_of.ensures ∙ c.in_ok-n.was) (sym c.any_above.ensures ∙ c.if-any_above.true)

pub returns-then-raster-count : goal.returns-then-raster-count
unfolding refusal
returns-then-raster-count c =
    short_judged _ _ _ (sym c.shape_of.ensures ∙ c.in_ok-n.was) (sym c.any_above.ensures ∙ c.if-any_above.false) c.if-raster-count.true

pub store-requires : goal.store-requires
store-requires c = (omega (arith, (shape_facts _ _ (sym c.shape_of.ensures ∙ c.in_ok-n.was)).full), c.if-raster-count.false)

pub overflow_cast-result : goal.overflow_cast-result
overflow_cast-result c = omega (arith, (shape_facts _ _ (sym c.shape_of.ensures ∙ c.in_ok-n.was)).few)

pub returns : goal.returns
returns c =
    stored-judged _ _ _ (sym c.shape_of.ensures ∙ c.in_ok-n.was) (sym c.any_above.ensures ∙ c.if-any_above.false) c.if-raster-count.false c.store.ensures
