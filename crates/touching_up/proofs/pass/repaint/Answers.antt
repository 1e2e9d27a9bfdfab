use Prim.Native.Nat.{◌^◌, ◌≤◌, ◌<◌}
use native.Mathlib.Omega.{arith}
use Rattle.quadtree.specs.BlockLists.{list_of}
use Rattle.cursors.specs.Cursors.{BlockThere}
use Rattle.touching_up.specs.Pass.{passing_none, there, on, done_on, piece_appendable, end_on, passing_more, passed}
use Rattle.touching_up.proofs.pass.repaint.Goals as goal

pub loop-i-init : goal.loop-i-init
loop-i-init c = passing_none c.requires

pub bounds-levels-i : goal.bounds-levels-i
bounds-levels-i c =
    let block : let a = c.args in BlockThere a.n (list_of a.codes.now a.levels.now a.colours.now) c.loop-i.i = there c.requires c.loop-i.invariant c.loop-i-test.true in
    block.in_levels

pub end_of-ending-requires : goal.end_of-ending-requires
end_of-ending-requires c =
    let block : let a = c.args in BlockThere a.n (list_of a.codes.now a.levels.now a.colours.now) c.loop-i.i = there c.requires c.loop-i.invariant c.loop-i-test.true in
    let b = block in (b.small, b.low)

pub piece_end-done-requires : goal.piece_end-done-requires
piece_end-done-requires c = on c.requires c.loop-i.invariant c.loop-i-test.true c.end_of-ending.ensures

pub offset_bounds-colours-i : goal.offset_bounds-colours-i
offset_bounds-colours-i c =
    let block : let a = c.args in BlockThere a.n (list_of a.codes.now a.levels.now a.colours.now) c.loop-i.i = there c.requires c.loop-i.invariant c.loop-i-test.true in
    omega (arith, block.in_colours, c.well_formed)

pub bounds-colours-i : goal.bounds-colours-i
bounds-colours-i c =
    let block : let a = c.args in BlockThere a.n (list_of a.codes.now a.levels.now a.colours.now) c.loop-i.i = there c.requires c.loop-i.invariant c.loop-i-test.true in
    block.in_colours

pub overflow_sub-size : goal.overflow_sub-size
overflow_sub-size c =
    let farther : (c.loop-i.pending.to < c.piece_end-done.result) × (c.piece_end-done.result ≤ 4 ^ c.args.n) = done_on c.requires c.loop-i.invariant c.loop-i-test.true c.end_of-ending.ensures c.piece_end-done.ensures in
    omega (arith, farther)

pub append-pending-requires : goal.append-pending-requires
append-pending-requires c = piece_appendable c.requires c.loop-i.invariant c.loop-i-test.true c.end_of-ending.ensures c.piece_end-done.ensures

pub next_place-i-requires : goal.next_place-i-requires
next_place-i-requires c = omega (arith, c.loop-i-test.true, c.well_formed)

pub loop-i-smaller : goal.loop-i-smaller
loop-i-smaller c =
    let farther : (c.loop-i.pending.to < c.piece_end-done.result) × (c.piece_end-done.result ≤ 4 ^ c.args.n) = done_on c.requires c.loop-i.invariant c.loop-i-test.true c.end_of-ending.ensures c.piece_end-done.ensures in
    omega (
      arith,
      farther,
      end_on c.requires c.loop-i.invariant c.loop-i-test.true c.end_of-ending.ensures c.piece_end-done.ensures c.append-pending.ensures,
    )

pub loop-i-preserved : goal.loop-i-preserved
loop-i-preserved c =
    passing_more c.requires c.loop-i.invariant c.loop-i-test.true c.end_of-ending.ensures c.piece_end-done.ensures c.append-pending.ensures
    c.piece_colour-painted.ensures c.next_place-i.ensures

pub write_run-requires : goal.write_run-requires
write_run-requires c = c.loop-i.invariant.progress.writable

pub returns : goal.returns
returns c = passed c.requires c.loop-i.invariant c.loop-i-test.false c.write_run.ensures

pub shape_of-new_codes : goal.shape_of-new_codes
shape_of-new_codes c = (returns c).same.for_codes

pub shape_of-new_levels : goal.shape_of-new_levels
shape_of-new_levels c = (returns c).same.for_levels

pub shape_of-new_colours : goal.shape_of-new_colours
shape_of-new_colours c = (returns c).same.for_colours
