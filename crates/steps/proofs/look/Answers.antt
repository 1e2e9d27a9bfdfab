-- Outside the image the map with a margin is 0; inside, the entry is in the list, since (y - 1) * side + (x - 1) is below side * side.
use mathlib.Core.Path.{sym}
use Prim.Native.Nat.{◌-◌, ◌*◌, ◌≤◌}
use native.Mathlib.Omega.{arith}
use Rattle.steps.specs.Look.{at_west, at_north, at_east, at_south, at_entry, entry-below, row_small}
use Rattle.steps.proofs.look.Goals as goal

pub returns-then-x-eq0 : goal.returns-then-x-eq0
returns-then-x-eq0 c = let a = c.args in sym (at_west a.side a.map.now a.x a.y c.if-x-eq0.true)

pub returns-then-side-x : goal.returns-then-side-x
returns-then-side-x c = let a = c.args in sym (at_east a.side a.map.now a.x a.y c.if-side-x.true)

pub returns-then-y-eq0 : goal.returns-then-y-eq0
returns-then-y-eq0 c = let a = c.args in sym (at_north a.side a.map.now a.x a.y c.if-y-eq0.true)

pub returns-then-side-y : goal.returns-then-side-y
returns-then-side-y c = let a = c.args in sym (at_south a.side a.map.now a.x a.y c.if-side-y.true)

pub overflow_mul-i : goal.overflow_mul-i
overflow_mul-i c =
    let row-place : (c.args.y - 1) * c.args.side ≤ 65536 = row_small c.args.side (c.args.y - 1) c.requires.small (omega arith) in
    omega (arith, row-place)

pub overflow_add-i : goal.overflow_add-i
overflow_add-i c =
    let row-place : (c.args.y - 1) * c.args.side ≤ 65536 = row_small c.args.side (c.args.y - 1) c.requires.small (omega arith) in
    omega (arith, row-place)

pub overflow_cast-i : goal.overflow_cast-i
overflow_cast-i c =
    let row-place : (c.args.y - 1) * c.args.side ≤ 65536 = row_small c.args.side (c.args.y - 1) c.requires.small (omega arith) in
    omega (arith, row-place)

pub offset_bounds-map-i : goal.offset_bounds-map-i
offset_bounds-map-i c =
    let row-place : (c.args.y - 1) * c.args.side ≤ 65536 = row_small c.args.side (c.args.y - 1) c.requires.small (omega arith) in
    omega (arith, row-place)

pub bounds-map-i : goal.bounds-map-i
bounds-map-i c =
    let a = c.args in
    omega (arith, entry-below a.side a.x a.y (omega arith) (omega arith) (omega arith) (omega arith))

pub returns : goal.returns
returns c =
    let a = c.args in
    sym (at_entry a.side a.map.now a.x a.y (omega arith) (omega arith) (omega arith) (omega arith))
