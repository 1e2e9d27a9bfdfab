-- At the image's edge there is nothing to join; elsewhere the span is one entry long.
use native.Mathlib.Omega.{arith}
use lib.ListN.{get_or}
use Rattle.components.specs.BlockPairs.{span_pairs}
use Rattle.components.specs.Spans.{none_at_edge, all_inside_lem}
use Rattle.border.specs.BorderSpans.{one_joinable, one_joined}
use Rattle.border.proofs.join_one.Goals as goal

pub join_alike-requires : goal.join_alike-requires
join_alike-requires c = one_joinable (c.requires.named (omega (arith, c.if-z-ne0.true)))

pub returns-then-z-ne0 : goal.returns-then-z-ne0
returns-then-z-ne0 c =
    all_inside_lem c.args.z (span_pairs (λ x. get_or c.args.entries.now x 0) c.args.colours.now c.args.k c.args.at 1) (omega (arith, c.if-z-ne0.true))
    (one_joined (c.requires.named (omega (arith, c.if-z-ne0.true))) c.join_alike.ensures)

pub returns-else-z-ne0 : goal.returns-else-z-ne0
returns-else-z-ne0 c = none_at_edge c.args.z (span_pairs (λ x. get_or c.args.entries.now x 0) c.args.colours.now c.args.k c.args.at 1) (omega (arith, c.if-z-ne0.false)) c.requires.low
