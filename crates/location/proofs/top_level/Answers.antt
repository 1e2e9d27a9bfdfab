-- Each branch is a case of the definition.
use mathlib.Core.Path.{sym}
use Rattle.location.specs.Levels.{alignment}
use Rattle.location.specs.TopLevels.{top_level_of_zero, top_level_of_other}
use Rattle.location.proofs.top_level.Goals as goal

pub returns-then-c-eq0 : goal.returns-then-c-eq0
returns-then-c-eq0 c = sym (top_level_of_zero c.args.n c.args.c c.if-c-eq0.true)

pub returns : goal.returns
unfolding alignment
returns c = sym (top_level_of_other c.args.n c.args.c c.if-c-eq0.false)
