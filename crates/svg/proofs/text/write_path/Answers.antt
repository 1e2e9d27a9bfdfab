use Prim.Native.Nat.{◌+◌, ◌-◌, ◌*◌, ◌≤◌, ◌<◌}
use native.Mathlib.Omega.{arith}
use lib.ListN.{length, length-set, length-take, length-drop}
use borrow.Rule.Slice.PartMut.{put_mid}
use Rattle.lattice.specs.CycleForm.{all_inside_at}
use Rattle.svg.specs.PathSoFar.{PathSoFar, path_begin, path_room, path_last, path_put, path_on}
use Rattle.svg.proofs.text.write_path.Goals as goal

pub loop-i-init : goal.loop-i-init
loop-i-init c = path_begin c.args.corners.now c.args.text.now

pub slice_bounds-put_corner-count : goal.slice_bounds-put_corner-count
slice_bounds-put_corner-count c =
    let room : 9 + 4 * length c.args.corners.now ≤ length c.args.text.now = c.requires.1 in
    let word_room : c.loop-i.at + 8 ≤ length c.loop-i.text = path_room c.loop-i.invariant room c.loop-i-test.true in
    omega (arith, word_room)

pub slice_bounds-put_corner-start : goal.slice_bounds-put_corner-start
slice_bounds-put_corner-start c =
    let room : 9 + 4 * length c.args.corners.now ≤ length c.args.text.now = c.requires.1 in
    let word_room : c.loop-i.at + 8 ≤ length c.loop-i.text = path_room c.loop-i.invariant room c.loop-i-test.true in
    omega (arith, word_room)

pub put_corner-at-requires : goal.put_corner-at-requires
put_corner-at-requires c =
    let room : 9 + 4 * length c.args.corners.now ≤ length c.args.text.now = c.requires.1 in
    let word_room : c.loop-i.at + 8 ≤ length c.loop-i.text = path_room c.loop-i.invariant room c.loop-i-test.true in
    (simp (length-take, length-drop) (omega (arith, word_room)), all_inside_at c.args.corners.now c.requires.0 c.loop-i.i c.loop-i-test.true)

pub overflow_add-at : goal.overflow_add-at
overflow_add-at c =
    let further : let p = c.put_corner-at in let after = put_mid c.loop-i.at (length c.loop-i.text - c.loop-i.at) c.loop-i.text p.new.text in PathSoFar c.args.corners.now c.args.text.now after (c.loop-i.i + 1) (c.loop-i.at + p.result) =
    let p = c.put_corner-at in
    path_on c.loop-i.invariant p.new.text p.result c.requires.0 c.loop-i-test.true p.auto.text p.ensures in
    omega (arith, further.few)

pub loop-i-preserved : goal.loop-i-preserved
loop-i-preserved c =
    let further : let p = c.put_corner-at in let after = put_mid c.loop-i.at (length c.loop-i.text - c.loop-i.at) c.loop-i.text p.new.text in PathSoFar c.args.corners.now c.args.text.now after (c.loop-i.i + 1) (c.loop-i.at + p.result) =
    let p = c.put_corner-at in
    path_on c.loop-i.invariant p.new.text p.result c.requires.0 c.loop-i-test.true p.auto.text p.ensures in
    further

pub bounds-text-at : goal.bounds-text-at
bounds-text-at c =
    let room : 9 + 4 * length c.args.corners.now ≤ length c.args.text.now = c.requires.1 in
    let z-room : c.loop-i.at < length c.loop-i.text = path_last c.loop-i.invariant room in
    z-room

pub overflow_add-result : goal.overflow_add-result
overflow_add-result c =
    let room : 9 + 4 * length c.args.corners.now ≤ length c.args.text.now = c.requires.1 in
    let z-room : c.loop-i.at < length c.loop-i.text = path_last c.loop-i.invariant room in
    omega (arith, z-room)

pub shape_of-text : goal.shape_of-text
shape_of-text c = simp length-set c.loop-i.invariant.text.long

pub returns : goal.returns
returns c =
    let room : 9 + 4 * length c.args.corners.now ≤ length c.args.text.now = c.requires.1 in
    path_put c.loop-i.invariant room c.loop-i-test.false
