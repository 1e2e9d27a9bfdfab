-- After the loop the whole stretch holds v.
use Rattle.std.proofs.Common.{◌≡◌, ◌∙◌, ◌+◌, ◌++◌, arith, sym, ap, take, replicate}
use Rattle.std.proofs.Math.Seq.{take_all}
use borrow.Rule.Slice.PartMut.{Post-is, mid_len}
use Rattle.sequences.specs.Fill.{fill_parts}
use Rattle.filling.proofs.fill.Goals as goal

pub returns : goal.returns
returns g c =
    let long = mid_len c.args.from (c.args.from + c.args.s) c.args.list.now c.requires in
    let end : c.loop-x.x-index ≡ c.args.s = omega (arith, long, c.loop-x.auto.x-index-end, c.loop-x-test.false) in
    let whole = sym (take_all c.loop-x.x-index c.loop-x.x-items (omega (arith, long, c.loop-x.auto.x-items))) ∙ c.loop-x.invariant ∙ ap (λ k. replicate k c.args.v) end in
    let after = Post-is c.args.from (c.args.from + c.args.s) c.args.list.now (omega arith) in
    (λ i. take c.args.from c.args.list.now ++ (whole i ++ after i)) ∙ sym (fill_parts c.args.list.now c.args.from c.args.s c.args.v c.requires)
