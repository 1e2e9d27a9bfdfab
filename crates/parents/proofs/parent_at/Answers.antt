-- `parent_at` meets its contract: the entry one row before tells the region to the north, and its mark whether that one is the parent.
use native.Mathlib.Omega.{arith}
use Rattle.parents.specs.NorthOf.{parent_of_top, north_bounds, read_unmarked, read_marked}
use Rattle.parents.proofs.parent_at.Goals as goal

pub returns-then-y-eq0 : goal.returns-then-y-eq0
returns-then-y-eq0 c = parent_of_top c.requires c.if-y-eq0.true

pub overflow_mul-north : goal.overflow_mul-north
overflow_mul-north c =
    omega (arith, (north_bounds c.requires c.side-side.ensures c.pixels-whole.ensures c.if-y-eq0.false).row_low)

pub overflow_add-north : goal.overflow_add-north
overflow_add-north c =
    let bounds = north_bounds c.requires c.side-side.ensures c.pixels-whole.ensures c.if-y-eq0.false in
    omega (arith, bounds.row_low, bounds.x_low)

pub offset_bounds-work-y : goal.offset_bounds-work-y
offset_bounds-work-y c =
    let bounds = north_bounds c.requires c.side-side.ensures c.pixels-whole.ensures c.if-y-eq0.false in
    omega (arith, bounds.row_low, bounds.x_low)

pub bounds-work-y : goal.bounds-work-y
bounds-work-y c =
    (north_bounds c.requires c.side-side.ensures c.pixels-whole.ensures c.if-y-eq0.false).place_low

pub returns-then-north-lt-MARK_BIT : goal.returns-then-north-lt-MARK_BIT
returns-then-north-lt-MARK_BIT c = read_unmarked c.requires c.side-side.ensures c.pixels-whole.ensures c.if-y-eq0.false c.if-north-lt-MARK_BIT.true

pub overflow_add-result : goal.overflow_add-result
overflow_add-result c =
    omega (arith, (north_bounds c.requires c.side-side.ensures c.pixels-whole.ensures c.if-y-eq0.false).whole_low)

pub overflow_sub-result : goal.overflow_sub-result
overflow_sub-result c =
    omega (arith, (read_marked c.requires c.side-side.ensures c.pixels-whole.ensures c.if-y-eq0.false c.if-north-lt-MARK_BIT.false).above)

pub offset_bounds-work-whole : goal.offset_bounds-work-whole
offset_bounds-work-whole c =
    omega (arith, (north_bounds c.requires c.side-side.ensures c.pixels-whole.ensures c.if-y-eq0.false).whole_low)

pub bounds-work-whole : goal.bounds-work-whole
bounds-work-whole c =
    (read_marked c.requires c.side-side.ensures c.pixels-whole.ensures c.if-y-eq0.false c.if-north-lt-MARK_BIT.false).place_low

pub returns : goal.returns
returns c =
    (read_marked c.requires c.side-side.ensures c.pixels-whole.ensures c.if-y-eq0.false c.if-north-lt-MARK_BIT.false).shared
