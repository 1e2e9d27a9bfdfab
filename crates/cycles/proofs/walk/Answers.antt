-- Each goal is a fact of one turn.
use mathlib.Core.Path.{refl, sym, ◌∙◌}
use native.Mathlib.Omega.{arith}
use Rattle.cycles.specs.Points.{way_at}
use Rattle.cycles.specs.Walking.{due_at_start, due_room, due_at}
use Rattle.cycles.specs.Turns.{at_turn, odd_there, room_there, sum_fits, walked, shorter, row_due}
use Rattle.cycles.proofs.walk.Goals as goal

pub loop-start-init : goal.loop-start-init
loop-start-init c = record { corner = due_at_start c.args.column c.args.row c.requires.0 c.requires.1; even = refl }

pub tail-requires : goal.tail-requires
tail-requires c = let w = way_at (due_at c.requires.0 c.loop-start.invariant.corner) in (omega (arith, w.x_low), omega (arith, w.y_low))

pub bounds-corners-used : goal.bounds-corners-used
bounds-corners-used c = due_room c.requires.0 c.loop-start.invariant.corner

pub bounds-corners-used-in-loop-start : goal.bounds-corners-used-in-loop-start
bounds-corners-used-in-loop-start c = rw c.tail.ensures (room_there c.requires.0 c.loop-start.invariant c.along_row-turn.ensures)

pub along_column-next-requires : goal.along_column-next-requires
along_column-next-requires c =
    (at_turn c.requires.0 c.loop-start.invariant c.along_row-turn.ensures, odd_there c.requires.0 c.loop-start.invariant c.along_row-turn.ensures)

pub overflow_add-sum : goal.overflow_add-sum
overflow_add-sum c = sum_fits c.requires.0 c.loop-start.invariant c.along_row-turn.ensures c.along_column-next.ensures c.leg_area.ensures

pub returns-then-eq : goal.returns-then-eq
returns-then-eq c =
    rw (c.tail.ensures, c.tail-in-loop-start.ensures)
    (walked c.requires.0 c.loop-start.invariant c.along_row-turn.ensures c.along_column-next.ensures c.leg_area.ensures (sym c.eq.ensures ∙ c.if-eq.true))

pub loop-start-smaller : goal.loop-start-smaller
loop-start-smaller c =
    shorter c.requires.0 c.loop-start.invariant c.along_row-turn.ensures c.along_column-next.ensures c.leg_area.ensures c.requires.1
    (sym c.eq.ensures ∙ c.if-eq.false)

pub loop-start-preserved : goal.loop-start-preserved
loop-start-preserved c =
    rw (c.tail.ensures, c.tail-in-loop-start.ensures)
    (row_due c.requires.0 c.loop-start.invariant c.along_row-turn.ensures c.along_column-next.ensures c.leg_area.ensures c.requires.1
    (sym c.eq.ensures ∙ c.if-eq.false))
