use Prim.Native.Nat.{◌^◌, ◌≤◌, ◌<◌}
use native.Mathlib.Omega.{arith}
use lib.ListN.{length}
use Rattle.quadtree.specs.BlockLists.{list_of}
use Rattle.cursors.specs.Cursors.{BlockThere}
use Rattle.overlaying.specs.Pass.{passing_none, in_second, first_there, second_there, done_on, piece_appendable, end_on, passing_more, passed}
use Rattle.overlaying.proofs.pass.lay_over.Goals as goal

pub loop-i-init : goal.loop-i-init
loop-i-init c = passing_none c.requires

pub bounds-first_levels-i : goal.bounds-first_levels-i
bounds-first_levels-i c =
    let first : let a = c.args in let l = c.loop-i in BlockThere a.n (list_of a.first_codes.now a.first_levels.now a.first_colours.now) l.i = first_there c.requires c.loop-i.invariant c.loop-i-test.true in
    first.in_levels

pub end_of-ending-requires : goal.end_of-ending-requires
end_of-ending-requires c =
    let first : let a = c.args in let l = c.loop-i in BlockThere a.n (list_of a.first_codes.now a.first_levels.now a.first_colours.now) l.i = first_there c.requires c.loop-i.invariant c.loop-i-test.true in
    let a = first in (a.small, a.low)

pub offset_bounds-second_codes-j : goal.offset_bounds-second_codes-j
offset_bounds-second_codes-j c =
    let second-codes : c.loop-i.j < length c.args.second_codes.now = in_second c.requires c.loop-i.invariant c.loop-i-test.true in
    omega (arith, second-codes, c.well_formed)

pub bounds-second_codes-j : goal.bounds-second_codes-j
bounds-second_codes-j c =
    let second-codes : c.loop-i.j < length c.args.second_codes.now = in_second c.requires c.loop-i.invariant c.loop-i-test.true in
    second-codes

pub bounds-second_levels-j : goal.bounds-second_levels-j
bounds-second_levels-j c =
    let second : let a = c.args in let l = c.loop-i in BlockThere a.n (list_of a.second_codes.now a.second_levels.now a.second_colours.now) l.j = second_there c.requires c.loop-i.invariant c.loop-i-test.true in
    second.in_levels

pub end_of-other-requires : goal.end_of-other-requires
end_of-other-requires c =
    let second : let a = c.args in let l = c.loop-i in BlockThere a.n (list_of a.second_codes.now a.second_levels.now a.second_colours.now) l.j = second_there c.requires c.loop-i.invariant c.loop-i-test.true in
    let b = second in (b.small, b.low)

pub offset_bounds-first_colours-i : goal.offset_bounds-first_colours-i
offset_bounds-first_colours-i c =
    let first : let a = c.args in let l = c.loop-i in BlockThere a.n (list_of a.first_codes.now a.first_levels.now a.first_colours.now) l.i = first_there c.requires c.loop-i.invariant c.loop-i-test.true in
    let second : let a = c.args in let l = c.loop-i in BlockThere a.n (list_of a.second_codes.now a.second_levels.now a.second_colours.now) l.j = second_there c.requires c.loop-i.invariant c.loop-i-test.true in
    omega (arith, first, second, c.well_formed)

pub bounds-first_colours-i : goal.bounds-first_colours-i
bounds-first_colours-i c =
    let first : let a = c.args in let l = c.loop-i in BlockThere a.n (list_of a.first_codes.now a.first_levels.now a.first_colours.now) l.i = first_there c.requires c.loop-i.invariant c.loop-i-test.true in
    let second : let a = c.args in let l = c.loop-i in BlockThere a.n (list_of a.second_codes.now a.second_levels.now a.second_colours.now) l.j = second_there c.requires c.loop-i.invariant c.loop-i-test.true in
    omega (arith, first, second)

pub offset_bounds-second_colours-j : goal.offset_bounds-second_colours-j
offset_bounds-second_colours-j c =
    let first : let a = c.args in let l = c.loop-i in BlockThere a.n (list_of a.first_codes.now a.first_levels.now a.first_colours.now) l.i = first_there c.requires c.loop-i.invariant c.loop-i-test.true in
    let second : let a = c.args in let l = c.loop-i in BlockThere a.n (list_of a.second_codes.now a.second_levels.now a.second_colours.now) l.j = second_there c.requires c.loop-i.invariant c.loop-i-test.true in
    omega (arith, first, second, c.well_formed)

pub bounds-second_colours-j : goal.bounds-second_colours-j
bounds-second_colours-j c =
    let first : let a = c.args in let l = c.loop-i in BlockThere a.n (list_of a.first_codes.now a.first_levels.now a.first_colours.now) l.i = first_there c.requires c.loop-i.invariant c.loop-i-test.true in
    let second : let a = c.args in let l = c.loop-i in BlockThere a.n (list_of a.second_codes.now a.second_levels.now a.second_colours.now) l.j = second_there c.requires c.loop-i.invariant c.loop-i-test.true in
    omega (arith, first, second)

pub overflow_sub-size : goal.overflow_sub-size
overflow_sub-size c =
    let farther : (c.loop-i.pending.to < c.min-done.result) × (c.min-done.result ≤ 4 ^ c.args.n) =
    let on = done_on c.requires c.loop-i.invariant c.loop-i-test.true c.end_of-ending.ensures
    c.end_of-other.ensures c.min-done.ensures in
    (on.0, on.3) in
    omega (arith, farther, c.loop-i.invariant.progress.writable.ordered)

pub append-pending-requires : goal.append-pending-requires
append-pending-requires c =
    piece_appendable c.requires c.loop-i.invariant c.loop-i-test.true c.end_of-ending.ensures
    c.end_of-other.ensures c.min-done.ensures

pub next_place-i-requires : goal.next_place-i-requires
next_place-i-requires c = omega (arith, c.loop-i-test.true, c.well_formed)

pub next_place-j-requires : goal.next_place-j-requires
next_place-j-requires c =
    let second-codes : c.loop-i.j < length c.args.second_codes.now = in_second c.requires c.loop-i.invariant c.loop-i-test.true in
    omega (arith, second-codes, c.well_formed)

pub loop-i-smaller : goal.loop-i-smaller
loop-i-smaller c =
    let farther : (c.loop-i.pending.to < c.min-done.result) × (c.min-done.result ≤ 4 ^ c.args.n) =
    let on = done_on c.requires c.loop-i.invariant c.loop-i-test.true c.end_of-ending.ensures
    c.end_of-other.ensures c.min-done.ensures in
    (on.0, on.3) in
    omega (
      arith,
      farther,
      end_on c.requires c.loop-i.invariant c.loop-i-test.true c.end_of-ending.ensures
          c.end_of-other.ensures c.min-done.ensures c.append-pending.ensures,
    )

pub loop-i-preserved : goal.loop-i-preserved
loop-i-preserved c =
    passing_more c.requires c.loop-i.invariant c.loop-i-test.true c.end_of-ending.ensures
    c.end_of-other.ensures c.min-done.ensures c.append-pending.ensures c.max-colour.ensures c.next_place-i.ensures c.next_place-j.ensures

pub write_run-requires : goal.write_run-requires
write_run-requires c = c.loop-i.invariant.progress.writable

pub returns : goal.returns
returns c = passed c.requires c.loop-i.invariant c.loop-i-test.false c.write_run.ensures

pub shape_of-codes : goal.shape_of-codes
shape_of-codes c = (returns c).same.for_codes

pub shape_of-levels : goal.shape_of-levels
shape_of-levels c = (returns c).same.for_levels

pub shape_of-colours : goal.shape_of-colours
shape_of-colours c = (returns c).same.for_colours
