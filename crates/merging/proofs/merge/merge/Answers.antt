use Rattle.merging.specs.MergeLoop.{Turn, FourTurn, raster_of, merging_none, in_image, turn, merging_more, four_turn, merging_four, merged, next-pixels}
use Rattle.merging.specs.Growth.{code_placed, place_read, place_low}
use Rattle.quadtree.specs.Raster.{place}
use Rattle.sequences.specs.Powers.{pow4_mono}
use mathlib.Core.Path.{◌≡◌, ap}
use Prim.Native.Nat.{◌^◌, ◌<◌}
use native.Mathlib.Omega.{arith}
use lib.ListN.{get_or}
use Rattle.merging.proofs.merge.merge.Goals as goal

pub loop-c-init : goal.loop-c-init
loop-c-init c = merging_none c.requires

pub overflow_cast-code : goal.overflow_cast-code
overflow_cast-code c =
    let inside : c.loop-c.c < 4 ^ c.args.n = in_image c.requires c.loop-c.invariant c.loop-c-test.true in
    omega (arith, inside, pow4_mono c.requires.small)

pub level_at-level-requires : goal.level_at-level-requires
level_at-level-requires c =
    let inside : c.loop-c.c < 4 ^ c.args.n = in_image c.requires c.loop-c.invariant c.loop-c-test.true in
    (raster_of c.requires, inside)

pub overflow_add-level : goal.overflow_add-level
overflow_add-level c =
    let one : let l = c.loop-c in let a = c.args in Turn a.n a.raster.now l.codes l.levels l.colours l.count l.c c.level_at-level.result = turn c.requires c.loop-c.invariant c.loop-c-test.true c.level_at-level.ensures in
    omega (arith, one)

pub write_four-requires : goal.write_four-requires
write_four-requires c =
    let inside : c.loop-c.c < 4 ^ c.args.n = in_image c.requires c.loop-c.invariant c.loop-c-test.true in
    let placed : c.place-at.result ≡ place c.args.n c.loop-c.c = code_placed (raster_of c.requires) inside c.place-at.ensures in
    four_turn c.requires c.loop-c.invariant c.loop-c-test.true c.level_at-level.ensures placed c.side-w.ensures
    c.if-level-code-eq0.true c.if-n-gt0.true

pub overflow_add-count : goal.overflow_add-count
overflow_add-count c =
    let inside : c.loop-c.c < 4 ^ c.args.n = in_image c.requires c.loop-c.invariant c.loop-c-test.true in
    let placed : c.place-at.result ≡ place c.args.n c.loop-c.c = code_placed (raster_of c.requires) inside c.place-at.ensures in
    let four : let l = c.loop-c in FourTurn c.args.raster.now l.codes l.levels l.colours l.count l.c c.place-at.result c.side-w.result =
    four_turn c.requires c.loop-c.invariant c.loop-c-test.true c.level_at-level.ensures placed c.side-w.ensures
    c.if-level-code-eq0.true c.if-n-gt0.true in
    omega (arith, four)

pub overflow_add-c : goal.overflow_add-c
overflow_add-c c =
    let inside : c.loop-c.c < 4 ^ c.args.n = in_image c.requires c.loop-c.invariant c.loop-c-test.true in
    let placed : c.place-at.result ≡ place c.args.n c.loop-c.c = code_placed (raster_of c.requires) inside c.place-at.ensures in
    let four : let l = c.loop-c in FourTurn c.args.raster.now l.codes l.levels l.colours l.count l.c c.place-at.result c.side-w.result =
    four_turn c.requires c.loop-c.invariant c.loop-c-test.true c.level_at-level.ensures placed c.side-w.ensures
    c.if-level-code-eq0.true c.if-n-gt0.true in
    omega (arith, four)

pub loop-c-smaller-then-n-gt0 : goal.loop-c-smaller-then-n-gt0
loop-c-smaller-then-n-gt0 c =
    let inside : c.loop-c.c < 4 ^ c.args.n = in_image c.requires c.loop-c.invariant c.loop-c-test.true in
    let placed : c.place-at.result ≡ place c.args.n c.loop-c.c = code_placed (raster_of c.requires) inside c.place-at.ensures in
    let four : let l = c.loop-c in FourTurn c.args.raster.now l.codes l.levels l.colours l.count l.c c.place-at.result c.side-w.result =
    four_turn c.requires c.loop-c.invariant c.loop-c-test.true c.level_at-level.ensures placed c.side-w.ensures
    c.if-level-code-eq0.true c.if-n-gt0.true in
    omega (arith, four)

pub loop-c-preserved-then-n-gt0 : goal.loop-c-preserved-then-n-gt0
loop-c-preserved-then-n-gt0 c =
    let inside : c.loop-c.c < 4 ^ c.args.n = in_image c.requires c.loop-c.invariant c.loop-c-test.true in
    let placed : c.place-at.result ≡ place c.args.n c.loop-c.c = code_placed (raster_of c.requires) inside c.place-at.ensures in
    merging_four c.requires c.loop-c.invariant c.loop-c-test.true c.level_at-level.ensures placed c.side-w.ensures
    c.if-level-code-eq0.true c.if-n-gt0.true c.write_four.ensures.codes c.write_four.ensures.levels c.write_four.ensures.colours

pub offset_bounds-codes-count : goal.offset_bounds-codes-count
offset_bounds-codes-count c =
    let one : let l = c.loop-c in let a = c.args in Turn a.n a.raster.now l.codes l.levels l.colours l.count l.c c.level_at-level.result = turn c.requires c.loop-c.invariant c.loop-c-test.true c.level_at-level.ensures in
    omega (arith, one)

pub bounds-codes-count : goal.bounds-codes-count
bounds-codes-count c =
    let one : let l = c.loop-c in let a = c.args in Turn a.n a.raster.now l.codes l.levels l.colours l.count l.c c.level_at-level.result = turn c.requires c.loop-c.invariant c.loop-c-test.true c.level_at-level.ensures in
    one.in_codes

pub overflow_cast-levels : goal.overflow_cast-levels
overflow_cast-levels c =
    let one : let l = c.loop-c in let a = c.args in Turn a.n a.raster.now l.codes l.levels l.colours l.count l.c c.level_at-level.result = turn c.requires c.loop-c.invariant c.loop-c-test.true c.level_at-level.ensures in
    omega (arith, one)

pub bounds-levels-count : goal.bounds-levels-count
bounds-levels-count c =
    let one : let l = c.loop-c in let a = c.args in Turn a.n a.raster.now l.codes l.levels l.colours l.count l.c c.level_at-level.result = turn c.requires c.loop-c.invariant c.loop-c-test.true c.level_at-level.ensures in
    one.in_levels

pub offset_bounds-raster-at : goal.offset_bounds-raster-at
offset_bounds-raster-at c =
    let inside : c.loop-c.c < 4 ^ c.args.n = in_image c.requires c.loop-c.invariant c.loop-c-test.true in
    let placed : c.place-at.result ≡ place c.args.n c.loop-c.c = code_placed (raster_of c.requires) inside c.place-at.ensures in
    omega (arith, place_low (raster_of c.requires) inside placed)

pub bounds-raster-at : goal.bounds-raster-at
bounds-raster-at c =
    let inside : c.loop-c.c < 4 ^ c.args.n = in_image c.requires c.loop-c.invariant c.loop-c-test.true in
    let placed : c.place-at.result ≡ place c.args.n c.loop-c.c = code_placed (raster_of c.requires) inside c.place-at.ensures in
    place_read (raster_of c.requires) inside placed

pub bounds-colours-count : goal.bounds-colours-count
bounds-colours-count c =
    let one : let l = c.loop-c in let a = c.args in Turn a.n a.raster.now l.codes l.levels l.colours l.count l.c c.level_at-level.result = turn c.requires c.loop-c.invariant c.loop-c-test.true c.level_at-level.ensures in
    one.in_colours

pub overflow_add-count-in-loop-c : goal.overflow_add-count-in-loop-c
overflow_add-count-in-loop-c c =
    let one : let l = c.loop-c in let a = c.args in Turn a.n a.raster.now l.codes l.levels l.colours l.count l.c c.level_at-level.result = turn c.requires c.loop-c.invariant c.loop-c-test.true c.level_at-level.ensures in
    let done = c.loop-c.invariant in
    omega (arith, one, done.few, done.ends)

pub overflow_add-c-in-loop-c : goal.overflow_add-c-in-loop-c
overflow_add-c-in-loop-c c =
    let one : let l = c.loop-c in let a = c.args in Turn a.n a.raster.now l.codes l.levels l.colours l.count l.c c.level_at-level.result = turn c.requires c.loop-c.invariant c.loop-c-test.true c.level_at-level.ensures in
    let added : c.pixels-c.result ≡ 4 ^ c.level_at-level.result =
    next-pixels c.requires c.loop-c.invariant c.loop-c-test.true c.level_at-level.ensures c.pixels-c.ensures in
    omega (arith, one, added)

pub loop-c-smaller : goal.loop-c-smaller
loop-c-smaller c =
    let one : let l = c.loop-c in let a = c.args in Turn a.n a.raster.now l.codes l.levels l.colours l.count l.c c.level_at-level.result = turn c.requires c.loop-c.invariant c.loop-c-test.true c.level_at-level.ensures in
    let added : c.pixels-c.result ≡ 4 ^ c.level_at-level.result =
    next-pixels c.requires c.loop-c.invariant c.loop-c-test.true c.level_at-level.ensures c.pixels-c.ensures in
    omega (arith, one, added)

pub loop-c-preserved : goal.loop-c-preserved
loop-c-preserved c =
    let inside : c.loop-c.c < 4 ^ c.args.n = in_image c.requires c.loop-c.invariant c.loop-c-test.true in
    let placed : c.place-at.result ≡ place c.args.n c.loop-c.c = code_placed (raster_of c.requires) inside c.place-at.ensures in
    let added : c.pixels-c.result ≡ 4 ^ c.level_at-level.result =
    next-pixels c.requires c.loop-c.invariant c.loop-c-test.true c.level_at-level.ensures c.pixels-c.ensures in
    rw added
    (merging_more c.requires c.loop-c.invariant c.loop-c-test.true c.level_at-level.ensures
    (ap (λ i. get_or c.args.raster.now i 0) placed))

pub shape_of-codes : goal.shape_of-codes
shape_of-codes c = c.loop-c.invariant.codes_long

pub shape_of-levels : goal.shape_of-levels
shape_of-levels c = c.loop-c.invariant.levels_long

pub shape_of-colours : goal.shape_of-colours
shape_of-colours c = c.loop-c.invariant.colours_long

pub returns : goal.returns
returns c = merged c.requires c.loop-c.invariant c.loop-c-test.false
