use Rattle.lines.specs.Writing.{begin, room_after, one_cycle, turn, put_short, finish}
use native.Mathlib.Omega.{arith}
use Rattle.lines.proofs.write.Goals as goal

pub returns : goal.returns
returns c = finish c.loop-k.invariant (omega arith)

pub loop-k-init : goal.loop-k-init
loop-k-init c = begin c.requires

pub ends_line-last-requires : goal.ends_line-last-requires
ends_line-last-requires c = ((omega arith), c.requires.owned)

pub slice_bounds-put_cycle-count : goal.slice_bounds-put_cycle-count
slice_bounds-put_cycle-count c = omega (arith, room_after c.loop-k.invariant (omega arith))

pub slice_bounds-put_cycle-start : goal.slice_bounds-put_cycle-start
slice_bounds-put_cycle-start c = omega (arith, room_after c.loop-k.invariant (omega arith))

pub put_cycle-at-requires : goal.put_cycle-at-requires
put_cycle-at-requires c = one_cycle c.loop-k.invariant (omega arith) c.cycle-part.ensures.corners_are

pub overflow_add-at : goal.overflow_add-at
overflow_add-at c =
    let inside = put_short c.loop-k.invariant (omega arith) c.cycle-part.ensures.corners_are c.ends_line-last.ensures c.put_cycle-at.ensures in
    omega (arith, inside, c.loop-k.invariant.long, c.well_formed)

pub loop-k-preserved : goal.loop-k-preserved
loop-k-preserved c = turn c.loop-k.invariant (omega arith) c.cycle-part.ensures.corners_are c.ends_line-last.ensures c.put_cycle-at.ensures

pub shape_of-text : goal.shape_of-text
shape_of-text c = c.loop-k.invariant.long
