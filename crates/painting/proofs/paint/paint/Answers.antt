-- Each block's square, or the four pixels from a block on, are painted.
use Rattle.location.specs.Levels.{side_of}
use Rattle.squares.specs.Filling.{rows_filled}
use Rattle.squares.specs.Fours.{two_fit, two_filled}
use Rattle.quadtree.specs.Raster.{place}
use Rattle.squares.specs.BlockByBlock.{painted_none, block_placed, block_fits, painted_more, painted_all, same_length as kept}
use Rattle.painting.specs.FourBlocks.{four_room, painted_four}
use mathlib.Core.Path.{◌≡◌, ◌∙◌, ap}
use native.Mathlib.Omega.{arith}
use lib.ListN.{get_or}
use Rattle.painting.proofs.paint.paint.Goals as goal
use Rattle.painting.proofs.paint.paint.Goals.{then-s-eq2, else-s-eq2}

pub loop-i-init : goal.loop-i-init
loop-i-init c = painted_none c.requires c.side-w.ensures

pub store_four-requires : goal.store_four-requires
store_four-requires c =
    let placed : c.place-at.result ≡ place c.args.n (get_or c.args.codes.now c.loop-i.i 0) = block_placed c.requires c.loop-i.invariant c.loop-i-test.true c.place-at.ensures in
    four_room c.requires c.loop-i.invariant c.if-i-codes.true (omega arith) (omega arith) placed

pub loop-i-preserved-then-i-codes : goal.loop-i-preserved-then-i-codes
loop-i-preserved-then-i-codes c =
    let placed : c.place-at.result ≡ place c.args.n (get_or c.args.codes.now c.loop-i.i 0) = block_placed c.requires c.loop-i.invariant c.loop-i-test.true c.place-at.ensures in
    painted_four c.requires c.loop-i.invariant c.if-i-codes.true (omega arith) (omega arith) placed
    c.store_four.ensures

pub store_four-requires-then-s-eq2 : goal.store_four-requires-then-s-eq2
store_four-requires-then-s-eq2 c =
    let placed : c.place-at.result ≡ place c.args.n (get_or c.args.codes.now c.loop-i.i 0) = block_placed c.requires c.loop-i.invariant c.loop-i-test.true c.place-at.ensures in
    let fits = block_fits c.requires c.loop-i.invariant c.loop-i-test.true placed (c.side-s.ensures ∙ ap side_of c.from-level.ensures) in
    (fits.0, two_fit _ _ _ _ fits.1 c.if-s-eq2.true)

pub fill_square-requires : goal.fill_square-requires
fill_square-requires c =
    let placed : c.place-at.result ≡ place c.args.n (get_or c.args.codes.now c.loop-i.i 0) = block_placed c.requires c.loop-i.invariant c.loop-i-test.true c.place-at.ensures in
    (block_fits c.requires c.loop-i.invariant c.loop-i-test.true placed (c.side-s.ensures ∙ ap side_of c.from-level.ensures)).1

pub loop-i-preserved : goal.loop-i-preserved
loop-i-preserved c =
    let placed : c.place-at.result ≡ place c.args.n (get_or c.args.codes.now c.loop-i.i 0) = block_placed c.requires c.loop-i.invariant c.loop-i-test.true c.place-at.ensures in
    let side : c.side-s.result ≡ side_of (get_or c.args.levels.now c.loop-i.i 0) = c.side-s.ensures ∙ ap side_of c.from-level.ensures in
    let fits = block_fits c.requires c.loop-i.invariant c.loop-i-test.true placed side in
    painted_more c.requires c.loop-i.invariant c.loop-i-test.true placed side
    (elim c.if-s-eq2.branch [
      | then-s-eq2 w ↦ two_filled fits.1 w.if-s-eq2.true (w.raster-is ∙ w.store_four-then-s-eq2.ensures)
      | else-s-eq2 w ↦ rows_filled _ _ _ _ fits.1 (w.raster-is ∙ w.fill_square.ensures)
    ])

pub shape_of-raster : goal.shape_of-raster
shape_of-raster c = kept c.requires c.loop-i.invariant

pub returns : goal.returns
returns c = painted_all c.requires c.loop-i.invariant c.loop-i-test.false
