use Rattle.listing.specs.Regions.{begin, listed_before, again, finish}
use Rattle.listing.proofs.list_all.Goals as goal

pub loop-i-init : goal.loop-i-init
loop-i-init c = begin c.requires

pub list_next-reached-requires : goal.list_next-reached-requires
list_next-reached-requires c = listed_before c.requires c.loop-i.invariant c.loop-i-test.true

pub loop-i-preserved : goal.loop-i-preserved
loop-i-preserved c = again c.requires c.loop-i.invariant c.list_next-reached.ensures

pub returns : goal.returns
returns c = finish c.requires c.loop-i.invariant c.loop-i-test.false
