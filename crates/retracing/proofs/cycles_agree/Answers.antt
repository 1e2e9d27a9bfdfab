-- The cycles agree one by one, and then every edge is met exactly where every north side that is an edge bears a mark.
use Rattle.std.specs.Prelude.{not}
use Rattle.std.proofs.Math.Path.{ap}
use Rattle.retracing.specs.Answered.{by_last_pass}
use Rattle.retracing.proofs.cycles_agree.Goals as goal

pub returns-then-each_agrees : goal.returns-then-each_agrees
returns-then-each_agrees c = by_last_pass c.each_agrees.ensures (ap not c.if-each_agrees.true) c.each_marked.ensures
