-- Each goal is a fact of the cycle k.
use Rattle.std.specs.Prelude.{not}
use Rattle.std.proofs.Math.Path.{ap}
use native.Mathlib.Omega.{arith}
use lib.ListN.{get_or}
use Rattle.lattice.specs.Directions.{x_of, y_of}
use Rattle.retracing.specs.Ranks.{rank_low}
use Rattle.retracing.specs.Checking.{begin, finish, checkable, end_not_before, end_inside, owner-inside, long_then, not_a_cycle}
use Rattle.retracing.specs.Checking.{corner-inside, x_low, y_low, out_of_order, again}
use Rattle.retracing.proofs.each_agrees.Goals as goal

pub loop-k-init : goal.loop-k-init
loop-k-init c = begin c.requires

pub bounds-owners-k : goal.bounds-owners-k
bounds-owners-k c = owner-inside c.requires c.loop-k.invariant c.loop-k-test.true

pub offset_bounds-corners-begin : goal.offset_bounds-corners-begin
offset_bounds-corners-begin c =
    let w = c.loop-k.invariant in
    let h = c.loop-k-test.true in
    omega (arith, end_not_before c.requires w h, end_inside c.requires w h)

pub slice_bounds-cycle_agrees-count : goal.slice_bounds-cycle_agrees-count
slice_bounds-cycle_agrees-count c = end_not_before c.requires c.loop-k.invariant c.loop-k-test.true

pub slice_bounds-cycle_agrees-start : goal.slice_bounds-cycle_agrees-start
slice_bounds-cycle_agrees-start c = end_not_before c.requires c.loop-k.invariant c.loop-k-test.true

pub slice_bounds-cycle_agrees-end : goal.slice_bounds-cycle_agrees-end
slice_bounds-cycle_agrees-end c = end_inside c.requires c.loop-k.invariant c.loop-k-test.true

pub cycle_agrees-requires : goal.cycle_agrees-requires
cycle_agrees-requires c = checkable c.requires c.loop-k.invariant

pub shape_of-map-then-not-cycle_agrees : goal.shape_of-map-then-not-cycle_agrees
shape_of-map-then-not-cycle_agrees c = long_then c.requires c.loop-k.invariant c.loop-k-test.true c.cycle_agrees.ensures

pub returns-then-not-cycle_agrees : goal.returns-then-not-cycle_agrees
returns-then-not-cycle_agrees c = not_a_cycle c.requires c.loop-k.invariant c.loop-k-test.true c.cycle_agrees.ensures (ap not c.if-not-cycle_agrees.true)

pub offset_bounds-corners-begin-in-loop-k : goal.offset_bounds-corners-begin-in-loop-k
offset_bounds-corners-begin-in-loop-k c =
    omega (arith, corner-inside c.requires c.loop-k.invariant c.loop-k-test.true c.cycle_agrees.ensures (ap not c.if-not-cycle_agrees.false))

pub bounds-corners-begin : goal.bounds-corners-begin
bounds-corners-begin c = corner-inside c.requires c.loop-k.invariant c.loop-k-test.true c.cycle_agrees.ensures (ap not c.if-not-cycle_agrees.false)

pub rank-r-requires : goal.rank-r-requires
rank-r-requires c = (
  x_low c.requires c.loop-k.invariant c.loop-k-test.true c.cycle_agrees.ensures (ap not c.if-not-cycle_agrees.false),
  y_low c.requires c.loop-k.invariant c.loop-k-test.true c.cycle_agrees.ensures (ap not c.if-not-cycle_agrees.false),
)

pub shape_of-map-then-r-least : goal.shape_of-map-then-r-least
shape_of-map-then-r-least c = long_then c.requires c.loop-k.invariant c.loop-k-test.true c.cycle_agrees.ensures

pub returns-then-r-least : goal.returns-then-r-least
returns-then-r-least c = out_of_order c.requires c.loop-k.invariant c.loop-k-test.true c.cycle_agrees.ensures (ap not c.if-not-cycle_agrees.false) c.rank-r.ensures c.if-r-least.true

pub overflow_add-least : goal.overflow_add-least
overflow_add-least c =
    let a = c.args in
    let l = c.loop-k in
    let p = get_or a.corners.now l.begin 0 in
    let o = get_or a.owners.now l.k 0 in
    omega (arith, c.rank-r.ensures, rank_low o (x_of p) (y_of p) (omega (arith, c.type_inv.owners l.k)))

pub loop-k-preserved : goal.loop-k-preserved
loop-k-preserved c = again c.requires c.loop-k.invariant c.loop-k-test.true c.cycle_agrees.ensures (ap not c.if-not-cycle_agrees.false) c.rank-r.ensures c.if-r-least.false

pub shape_of-map : goal.shape_of-map
shape_of-map c = c.loop-k.invariant.long

pub returns : goal.returns
returns c = finish c.requires c.loop-k.invariant c.loop-k-test.false
