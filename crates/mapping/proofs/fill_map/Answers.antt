-- Each block's square is filled with 1 plus its label.
use Rattle.std.proofs.Common.{◌∙◌, get_or, arith}
use Rattle.sequences.specs.Powers.{pow4_mono}
use Rattle.quadtree.specs.Orders.{place_in}
use Rattle.squares.specs.Filling.{one_filled, rows_filled}
use Rattle.squares.specs.BlockByBlock.{painted_none, block_placed, block_fits}
use Rattle.mapping.specs.Filling.{paintable, filled_more, label_small, filled_all}
use Rattle.mapping.proofs.fill_map.Goals as goal
use Rattle.mapping.proofs.fill_map.Goals.{then-s-eq1, else-s-eq1}

pub loop-i-init : goal.loop-i-init
loop-i-init c = painted_none (paintable c.requires) c.side-w.ensures

pub overflow_add-number : goal.overflow_add-number
overflow_add-number c = omega (arith, label_small c.requires c.loop-i.i c.loop-i-test.true)

pub fill_square-requires : goal.fill_square-requires
fill_square-requires c =
    let placed = block_placed (paintable c.requires) c.loop-i.invariant c.loop-i-test.true c.place-at.ensures in
    (block_fits (paintable c.requires) c.loop-i.invariant c.loop-i-test.true placed c.side-s.ensures).1

pub bounds-map-at : goal.bounds-map-at
bounds-map-at c =
    let placed = block_placed (paintable c.requires) c.loop-i.invariant c.loop-i-test.true c.place-at.ensures in
    let fits = block_fits (paintable c.requires) c.loop-i.invariant c.loop-i-test.true placed c.side-s.ensures in
    omega (arith, fits.1 0 (omega arith))

pub offset_bounds-map-at : goal.offset_bounds-map-at
offset_bounds-map-at c =
    let placed = block_placed (paintable c.requires) c.loop-i.invariant c.loop-i-test.true c.place-at.ensures in
    omega (arith, placed, place_in c.args.n (get_or c.args.codes.now c.loop-i.i 0), pow4_mono c.requires.labelled.small)

pub loop-i-preserved : goal.loop-i-preserved
loop-i-preserved c =
    let placed = block_placed (paintable c.requires) c.loop-i.invariant c.loop-i-test.true c.place-at.ensures in
    let fits = block_fits (paintable c.requires) c.loop-i.invariant c.loop-i-test.true placed c.side-s.ensures in
    filled_more c.requires c.loop-i.invariant c.loop-i-test.true placed c.side-s.ensures
    (elim c.if-s-eq1.branch [
      | then-s-eq1 w ↦ rw w.map-is (one_filled w.if-s-eq1.true (omega (arith, fits.1 0 (omega arith))))
      | else-s-eq1 w ↦ rows_filled _ _ _ _ fits.1 (w.map-is ∙ w.fill_square.ensures)
    ])

pub returns : goal.returns
returns c = filled_all c.requires c.loop-i.invariant c.loop-i-test.false
