-- The code is the definition.
use mathlib.Core.Path.{refl}
use Rattle.location.specs.Levels.{alignment}
use Rattle.location.proofs.alignment.Goals as goal

pub returns : goal.returns
unfolding alignment
returns c = refl
