-- Each pixel lies inside the map, and with it one edge less is left to store.
use Rattle.west_sides.specs.Legs.{north_again, north_end}
use Rattle.west_sides.proofs.store_north.Goals as goal

pub loop-y-preserved : goal.loop-y-preserved
loop-y-preserved c = north_again c.requires.0.small c.requires.1 c.loop-y-test.true c.loop-y.invariant

pub returns : goal.returns
returns c = north_end c.loop-y.invariant c.loop-y-test.false
