use Rattle.links.specs.Linking.{begin, again}
use Rattle.mapping.proofs.link.Goals as goal

pub loop-j-init : goal.loop-j-init
loop-j-init c = begin c.requires

pub loop-j-preserved : goal.loop-j-preserved
loop-j-preserved c = again c.requires c.loop-j.invariant c.loop-j-test.true
