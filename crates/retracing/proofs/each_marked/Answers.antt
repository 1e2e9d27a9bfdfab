use Rattle.std.specs.Prelude.{not}
use Rattle.std.proofs.Math.Path.{ap}
use Rattle.retracing.specs.LastPass.{place_inside, unmarked_found, again, finish}
use Rattle.retracing.proofs.each_marked.Goals as goal

pub passes-requires : goal.passes-requires
passes-requires c = place_inside c.loop-i.invariant c.pixels-i-end.ensures c.loop-i-test.true

pub returns-then-not-passes : goal.returns-then-not-passes
returns-then-not-passes c = unmarked_found c.loop-i.invariant c.pixels-i-end.ensures c.side-side.ensures c.loop-i-test.true c.passes.ensures (ap not c.if-not-passes.true)

pub loop-i-preserved : goal.loop-i-preserved
loop-i-preserved c = again c.loop-i.invariant c.pixels-i-end.ensures c.side-side.ensures c.loop-i-test.true c.passes.ensures (ap not c.if-not-passes.false)

pub returns : goal.returns
returns c = finish c.loop-i.invariant c.pixels-i-end.ensures c.loop-i-test.false
