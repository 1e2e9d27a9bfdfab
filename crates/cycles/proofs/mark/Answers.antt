-- The pixel on the right of an edge of the region lies in the image, so its entry is in the list.
use mathlib.Core.Path.{sym}
use native.Mathlib.Omega.{arith}
use Rattle.cycles.specs.Points.{way_at, right_place, no_mark}
use Rattle.cycles.proofs.mark.Goals as goal

pub row_at-row-requires : goal.row_at-row-requires
row_at-row-requires g c = omega (arith, (way_at c.requires).y_low)

pub overflow_sub-i : goal.overflow_sub-i
overflow_sub-i g c = omega (arith, c.row_at-row.ensures, (right_place c.requires c.if-at.true).row_above)

pub overflow_mul-i : goal.overflow_mul-i
overflow_mul-i g c = rw c.row_at-row.ensures (omega (arith, (right_place c.requires c.if-at.true).place.row))

pub overflow_sub-i-then-at : goal.overflow_sub-i-then-at
overflow_sub-i-then-at g c = omega (arith, c.column_at-column.ensures, (right_place c.requires c.if-at.true).column_above)

pub overflow_add-i : goal.overflow_add-i
overflow_add-i g c =
    rw (c.row_at-row.ensures, c.column_at-column.ensures) (omega (arith, (right_place c.requires c.if-at.true).small))

pub overflow_add-map : goal.overflow_add-map
overflow_add-map g c = omega (arith, (right_place c.requires c.if-at.true).place.known)

pub bounds-map-i : goal.bounds-map-i
bounds-map-i g c =
    rw (c.row_at-row.ensures, c.column_at-column.ensures)
    (omega (arith, (right_place c.requires c.if-at.true).place.inside, c.requires.square.room))

pub returns-then-at : goal.returns-then-at
returns-then-at g c = rw (c.row_at-row.ensures, c.column_at-column.ensures) (sym (right_place c.requires c.if-at.true).place.after)

pub returns-else-at : goal.returns-else-at
returns-else-at g c = sym (no_mark c.requires g.row.MARKED c.if-at.false)
