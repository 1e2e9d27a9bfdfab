-- Each test is one field of what fits.
use native.Mathlib.Omega.{arith}
use borrow.Author.Tests.{le-leb, leb-true}
use Rattle.sequences.specs.Says.{says_no}
use Rattle.restoring.proofs.counts_fit.Goals as goal

pub returns-then-owners-cycles : goal.returns-then-owners-cycles
returns-then-owners-cycles c = says_no (λ f. let z : ⊥ = omega (arith, f.for_owners) in z)

pub returns-then-ends-cycles : goal.returns-then-ends-cycles
returns-then-ends-cycles c = says_no (λ f. let z : ⊥ = omega (arith, f.for_ends) in z)

pub returns-then-corners-corner_count : goal.returns-then-corners-corner_count
returns-then-corners-corner_count c = says_no (λ f. let z : ⊥ = omega (arith, f.for_corners) in z)

pub returns : goal.returns
returns c = (λ t. record { for_owners = omega arith; for_ends = omega arith; for_corners = omega arith; for_colours = leb-true _ _ t }, λ f. le-leb _ _ f.for_colours)
