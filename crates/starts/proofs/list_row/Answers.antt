use Rattle.starts.specs.Rows.{begin, pixel_next, again}
use Rattle.starts.proofs.list_row.Goals as goal

pub loop-i-init : goal.loop-i-init
loop-i-init c = begin c.requires

pub list_pixel-listed-requires : goal.list_pixel-listed-requires
list_pixel-listed-requires c = pixel_next c.requires c.loop-i.invariant c.loop-i-test.true

pub loop-i-preserved : goal.loop-i-preserved
loop-i-preserved c = again c.requires c.loop-i.invariant c.loop-i-test.true c.list_pixel-listed.ensures
