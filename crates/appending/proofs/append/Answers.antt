-- Two cases: a piece of the run's colour, and one of another.
use Rattle.appending.specs.Appended.{appended_same, appended_other}
use Rattle.appending.proofs.append.Goals as goal

pub returns-then-colour-pending : goal.returns-then-colour-pending
returns-then-colour-pending c = appended_same c.requires c.if-colour-pending.true

pub returns : goal.returns
returns c = appended_other c.requires c.if-colour-pending.false c.write_run-count.ensures
