-- Each pixel is read and written within the image.
use native.Mathlib.Omega.{arith}
use Rattle.rearranging.specs.Rows.{width, few, column-byte, place_inside, read_inside, written_inside, pixel_moved, row-begun, row_more, row_done, row-length}
use Rattle.rearranging.proofs.moving.one_row.Goals as goal

pub overflow_mul-start : goal.overflow_mul-start
overflow_mul-start g c = omega (arith, (few c.requires c.side-w.ensures).2)

pub loop-x-init : goal.loop-x-init
loop-x-init g c = row-begun _ _ _ _ _

pub overflow_add-start : goal.overflow_add-start
overflow_add-start g c = omega (arith, place_inside c.requires c.side-w.ensures c.loop-x-test.true, few c.requires c.side-w.ensures)

pub code8-requires : goal.code8-requires
code8-requires g c = (column-byte c.requires c.side-w.ensures c.loop-x-test.true, (few c.requires c.side-w.ensures).1)

pub offset_bounds-source-from : goal.offset_bounds-source-from
offset_bounds-source-from g c =
    omega (
      arith,
      read_inside c.requires c.side-w.ensures c.loop-x-test.true g.D.Direction.way c.code8.ensures,
      c.places-from.ensures.read,
      few c.requires c.side-w.ensures,
    )

pub bounds-source-from : goal.bounds-source-from
bounds-source-from g c =
    omega (
      arith,
      read_inside c.requires c.side-w.ensures c.loop-x-test.true g.D.Direction.way c.code8.ensures,
      c.places-from.ensures.read,
      c.requires.fit.whole,
    )

pub offset_bounds-target-to : goal.offset_bounds-target-to
offset_bounds-target-to g c =
    omega (
      arith,
      written_inside c.requires c.side-w.ensures c.loop-x-test.true g.D.Direction.way c.code8.ensures,
      c.places-from.ensures.written,
      few c.requires c.side-w.ensures,
    )

pub bounds-target-to : goal.bounds-target-to
bounds-target-to g c =
    omega (
      arith,
      written_inside c.requires c.side-w.ensures c.loop-x-test.true g.D.Direction.way c.code8.ensures,
      c.places-from.ensures.written,
      c.requires.fit.room,
      row-length _ _ _ _ c.loop-x.invariant,
    )

pub loop-x-preserved : goal.loop-x-preserved
loop-x-preserved g c =
    let moved = pixel_moved c.requires c.side-w.ensures c.loop-x-test.true g.D.Direction.way c.args.source.now c.loop-x.target c.code8.ensures in
    row_more _ _ _ _ c.loop-x.invariant (omega (arith, width c.requires.fit c.side-w.ensures, c.loop-x-test.true))
    (rw (c.places-from.ensures.read, c.places-from.ensures.written) moved)

pub returns : goal.returns
returns g c = row_done _ _ _ _ c.loop-x.invariant (omega (arith, width c.requires.fit c.side-w.ensures, c.loop-x-test.false))
