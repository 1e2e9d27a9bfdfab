-- Each goal is a fact of the two runs of a turn.
use mathlib.Core.Path.{refl, sym, ◌∙◌}
use native.Mathlib.Omega.{arith}
use Rattle.cycles.specs.Points.{is_start, is_no_start}
use Rattle.first_cycles.specs.Walking.{at_first, edge_at, one_run_more, row_done}
use Rattle.first_cycles.proofs.walk.Goals as goal

pub loop-start-init : goal.loop-start-init
loop-start-init c = (at_first c.args.column c.args.row c.requires.0 c.requires.1, refl)

pub along_row-turn-requires : goal.along_row-turn-requires
along_row-turn-requires c = (edge_at c.args.column c.args.row c.requires.0 c.loop-start.invariant.0, c.loop-start.invariant.1)

pub along_column-edge-requires : goal.along_column-edge-requires
along_column-edge-requires c =
    let column-next = row_done c.args.column c.args.row c.requires.0 c.loop-start.invariant.0 c.loop-start.invariant.1 c.along_row-turn.ensures in
    (edge_at c.args.column c.args.row c.requires.0 column-next.next, column-next.odd)

pub returns-then-eq : goal.returns-then-eq
returns-then-eq c =
    let column-next = row_done c.args.column c.args.row c.requires.0 c.loop-start.invariant.0 c.loop-start.invariant.1 c.along_row-turn.ensures in
    (one_run_more c.args.column c.args.row c.requires.0 column-next.next c.along_column-edge.ensures).ends
    (is_start _ _ _ _ _ (sym c.eq.ensures ∙ c.if-eq.true))

pub loop-start-smaller : goal.loop-start-smaller
loop-start-smaller c =
    let column-next = row_done c.args.column c.args.row c.requires.0 c.loop-start.invariant.0 c.loop-start.invariant.1 c.along_row-turn.ensures in
    let g = c.along_column-edge.ensures in
    let other = is_no_start c.args.column c.args.row c.along_column-edge.result.x c.along_column-edge.result.y c.along_column-edge.result.d c.requires.1 g.x_low g.low (sym c.eq.ensures ∙ c.if-eq.false) in
    omega (arith, (one_run_more c.args.column c.args.row c.requires.0 column-next.next g).shorter other, column-next.nearer)

pub loop-start-preserved : goal.loop-start-preserved
loop-start-preserved c =
    let column-next = row_done c.args.column c.args.row c.requires.0 c.loop-start.invariant.0 c.loop-start.invariant.1 c.along_row-turn.ensures in
    let g = c.along_column-edge.ensures in
    let other = is_no_start c.args.column c.args.row c.along_column-edge.result.x c.along_column-edge.result.y c.along_column-edge.result.d c.requires.1 g.x_low g.low (sym c.eq.ensures ∙ c.if-eq.false) in
    ((one_run_more c.args.column c.args.row c.requires.0 column-next.next g).again other, omega (arith, g.turned, column-next.odd))
