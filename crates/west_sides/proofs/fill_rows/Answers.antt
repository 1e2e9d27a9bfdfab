use Rattle.west_sides.specs.Rows.{row_ends, one_row_more}
use Rattle.west_sides.proofs.fill_rows.Goals as goal

pub loop-y-preserved : goal.loop-y-preserved
loop-y-preserved c = one_row_more c.requires c.loop-y-test.true c.loop-y.invariant (row_ends c.args.side c.loop-y.y) c.fill_row.ensures c.if-not-fill_row.false
