-- The outlines of an image: the listing over demand 2's numbers.
use Rattle.std.specs.Prelude.{List, ℕ}
use Rattle.components.specs.Numbers.{numbers, regions}
use Rattle.grid.specs.Listing.{Cycle, listing}

-- "the outlines of all regions" (document 01, "The dial as blocks") of an image of side 2^n, whose colours `px` stand in rising
-- location code.
abbrev pub image_outlines : ℕ → List ℕ → List Cycle
image_outlines n px = listing n (numbers n px) (regions n px)
