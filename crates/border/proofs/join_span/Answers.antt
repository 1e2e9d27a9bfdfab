-- Each entry of the span names a block, which is joined as the definition says.
use native.Mathlib.Omega.{arith}
use lib.ListN.{get_or}
use Rattle.unions.specs.Roots.{root}
use Rattle.components.specs.BlockPairs.{span_pairs}
use Rattle.components.specs.Spans.{alike_self, done-after, begin, again, finish, none_at_edge, all_inside_lem}
use Rattle.border.proofs.join_span.Goals as goal

pub returns-then-z-eq0 : goal.returns-then-z-eq0
returns-then-z-eq0 c = none_at_edge c.args.z (span_pairs (λ x. get_or c.args.entries.now x 0) c.args.colours.now c.args.k c.args.from c.args.s) c.if-z-eq0.true c.requires.low

pub loop-x-init : goal.loop-x-init
loop-x-init c =
    let ready = c.requires.named (omega (arith, c.if-z-eq0.false)) in
    let a = c.args in
    (begin ready, alike_self a.colours.now (root a.parents.now) a.k)

pub loop-x-preserved : goal.loop-x-preserved
loop-x-preserved c =
    let ready = c.requires.named (omega (arith, c.if-z-eq0.false)) in
    let a = c.args in
    let joined = c.join_alike.ensures in (
      again ready c.loop-x.invariant.0 c.loop-x-test.true joined,
      done-after a.colours.now (get_or a.entries.now c.loop-x.x 0) a.k joined,
    )

pub returns : goal.returns
returns c =
    let ready = c.requires.named (omega (arith, c.if-z-eq0.false)) in
    all_inside_lem c.args.z (span_pairs (λ x. get_or c.args.entries.now x 0) c.args.colours.now c.args.k c.args.from c.args.s) (omega (arith, c.if-z-eq0.false)) (finish ready c.loop-x.invariant.0 c.loop-x-test.false)
