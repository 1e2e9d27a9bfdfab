-- `unmarked` meets its contract: the entry of the pixel tells a mark, and the entry one row before it the pixel to the north.
use Rattle.std.proofs.Common.{arith}
use Rattle.starts.specs.Unmarked.{row_fits, entry-below, entry-inside, entry_marked, entry-first-row, north_same, north_other, number_low, region_told}
use Rattle.starts.proofs.unmarked.Goals as goal
use Rattle.starts.proofs.unmarked.Goals.{else-y-gt0-via-then-y-gt0+else-map-i, else-y-gt0-via-else-y-gt0}

pub overflow_mul-i : goal.overflow_mul-i
overflow_mul-i c = omega (arith, row_fits c.requires c.side-side.ensures)

pub overflow_add-i : goal.overflow_add-i
overflow_add-i c = omega (arith, entry-below c.requires c.side-side.ensures)

pub offset_bounds-map-i : goal.offset_bounds-map-i
offset_bounds-map-i c = omega (arith, entry-below c.requires c.side-side.ensures)

pub bounds-map-i : goal.bounds-map-i
bounds-map-i c = entry-inside c.requires c.side-side.ensures

pub returns-then-here-ge-MARK_BIT : goal.returns-then-here-ge-MARK_BIT
returns-then-here-ge-MARK_BIT c = entry_marked c.requires c.side-side.ensures c.if-here-ge-MARK_BIT.true

pub offset_bounds-map-i-then-y-gt0 : goal.offset_bounds-map-i-then-y-gt0
offset_bounds-map-i-then-y-gt0 c = omega (arith, entry-below c.requires c.side-side.ensures)

pub bounds-map-i-then-y-gt0 : goal.bounds-map-i-then-y-gt0
bounds-map-i-then-y-gt0 c = omega (arith, entry-inside c.requires c.side-side.ensures)

pub returns-then-map-i : goal.returns-then-map-i
returns-then-map-i c = north_same c.requires c.side-side.ensures c.if-here-ge-MARK_BIT.false (omega arith) c.if-map-i.true

pub overflow_sub-result : goal.overflow_sub-result
overflow_sub-result c = omega (arith, number_low c.requires c.side-side.ensures)

pub returns : goal.returns
returns c =
    let r = c.requires in
    let side_is = c.side-side.ensures in
    let plain = c.if-here-ge-MARK_BIT.false in
    region_told r side_is (elim c.else-y-gt0.branch [
      | else-y-gt0-via-then-y-gt0+else-map-i w ↦ north_other r side_is plain (omega arith) w.if-map-i.false
      | else-y-gt0-via-else-y-gt0 w ↦ entry-first-row r side_is plain (omega arith)
    ])
