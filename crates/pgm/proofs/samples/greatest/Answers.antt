-- The code is the definition.
use mathlib.Core.Path.{sym, ap}
use Rattle.pgm.specs.Samples.{greatest_of}
use Rattle.pgm.proofs.samples.greatest.Goals as goal

pub returns-then-wide : goal.returns-then-wide
unfolding greatest_of
returns-then-wide c = sym (ap greatest_of c.if-wide.true)

pub returns-else-wide : goal.returns-else-wide
unfolding greatest_of
returns-else-wide c = sym (ap greatest_of c.if-wide.false)
