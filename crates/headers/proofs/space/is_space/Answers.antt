-- The four tests of the definition, in its order.
use Rattle.std.proofs.Common.{arith}
use Rattle.std.proofs.lemmas.Bool.Decides.{nat_tests}
use Rattle.headers.specs.Space.{is_space}
use Rattle.headers.proofs.space.is_space.Goals as goal

pub returns-in_default : goal.returns-in_default
unfolding is_space
returns-in_default c = grind (arith, nat_tests)

pub returns-in_default-2 : goal.returns-in_default-2
unfolding is_space
returns-in_default-2 c = grind (arith, nat_tests)

pub returns-in-32 : goal.returns-in-32
unfolding is_space
returns-in-32 c = grind (arith, nat_tests)

pub returns-in-32-2 : goal.returns-in-32-2
unfolding is_space
returns-in-32-2 c = grind (arith, nat_tests)
