-- The tests stand in the order 1, 9, 8.
use mathlib.Core.Path.{sym, ◌∙◌}
use native.Mathlib.Omega.{arith}
use Rattle.location.specs.Levels.{pixels_are_power}
use Rattle.rearranging.specs.Promise.{rearrange_large, rearrange_unlike, rearrange_short, rearrange_accepted}
use Rattle.rearranging.proofs.check.Goals as goal

pub returns-then-n-gt8 : goal.returns-then-n-gt8
returns-then-n-gt8 c = sym (rearrange_large _ _ _ c.if-n-gt8.true)

pub returns-then-source-whole : goal.returns-then-source-whole
returns-then-source-whole c =
    let whole = pixels_are_power c.args.n (omega (arith, c.if-n-gt8.false)) in
    sym (rearrange_unlike _ _ _ c.if-n-gt8.false (λ e. c.if-source-whole.true (e ∙ sym (c.pixels-whole.ensures ∙ whole))))

pub returns-then-target-whole : goal.returns-then-target-whole
returns-then-target-whole c =
    let whole = pixels_are_power c.args.n (omega (arith, c.if-n-gt8.false)) in
    sym (rearrange_short _ _ _ c.if-n-gt8.false (omega arith) (omega arith))

pub returns : goal.returns
returns c =
    let whole = pixels_are_power c.args.n (omega (arith, c.if-n-gt8.false)) in
    sym (rearrange_accepted _ _ _ c.if-n-gt8.false (omega arith) (omega arith))
