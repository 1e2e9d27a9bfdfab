-- Each goal is a fact of one run.
use mathlib.Core.Path.{sym, ap, ◌∙◌}
use Rattle.std.specs.Prelude.{not}
use Rattle.cycles.specs.Points.{is_start, is_no_start}
use Rattle.cycle_checks.specs.Comparing.{edge_at, corner_due, at_first, start-inside, breaks_off, one_run_more}
use Rattle.cycle_checks.proofs.walk.Goals as goal

pub code8-least-requires : goal.code8-least-requires
code8-least-requires c = start-inside c.args.column c.args.row c.requires.0 c.requires.1

pub loop-start-init : goal.loop-start-init
loop-start-init c = at_first c.args.column c.args.row c.requires.0 c.requires.1

pub corner_agrees-requires : goal.corner_agrees-requires
corner_agrees-requires c = corner_due c.requires.0 c.loop-start.invariant

pub returns-then-not-corner_agrees : goal.returns-then-not-corner_agrees
returns-then-not-corner_agrees c =
    breaks_off c.args.column c.args.row c.requires.0 c.requires.1 c.code8-least.ensures c.loop-start.invariant c.corner_agrees.ensures
    (ap not c.if-not-corner_agrees.true)

pub along-edge-requires : goal.along-edge-requires
along-edge-requires c = edge_at c.requires.0 c.loop-start.invariant

pub returns-then-eq : goal.returns-then-eq
returns-then-eq c =
    (one_run_more c.args.column c.args.row c.requires.0 c.requires.1 c.code8-least.ensures c.loop-start.invariant
    (c.corner_agrees.ensures.0 c.if-not-corner_agrees.false) c.along-edge.ensures).ends
    (is_start _ _ _ _ _ (sym c.eq.ensures ∙ c.if-eq.true))

pub loop-start-smaller : goal.loop-start-smaller
loop-start-smaller c =
    (one_run_more c.args.column c.args.row c.requires.0 c.requires.1 c.code8-least.ensures c.loop-start.invariant
    (c.corner_agrees.ensures.0 c.if-not-corner_agrees.false) c.along-edge.ensures).shorter
    (is_no_start _ _ _ _ _ c.requires.1 c.along-edge.ensures.x_low c.along-edge.ensures.low (sym c.eq.ensures ∙ c.if-eq.false))

pub loop-start-preserved : goal.loop-start-preserved
loop-start-preserved c =
    (one_run_more c.args.column c.args.row c.requires.0 c.requires.1 c.code8-least.ensures c.loop-start.invariant
    (c.corner_agrees.ensures.0 c.if-not-corner_agrees.false) c.along-edge.ensures).again
    (is_no_start _ _ _ _ _ c.requires.1 c.along-edge.ensures.x_low c.along-edge.ensures.low (sym c.eq.ensures ∙ c.if-eq.false))
