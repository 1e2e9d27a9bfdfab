-- The end of the cycle before, and 0 for the first.
use Rattle.std.proofs.Common.{◌∙◌, sym, ap, get_or, arith}
use Rattle.stretches.specs.Stretch.{begin_first, begin_later}
use Rattle.stretches.proofs.begin.Goals as goal

pub returns-in-Some : goal.returns-in-Some
returns-in-Some c =
    let a = c.args in
    ap (λ i. get_or a.ends.now i 0) c.in-Some.ensures.1 ∙ sym (begin_later a.ends.now a.k (omega (arith, c.in-Some.ensures)))

pub returns-in-None : goal.returns-in-None
returns-in-None c = sym (begin_first c.args.ends.now c.args.k (omega (arith, c.in-None.ensures)))
