-- What the comparison of given cycles with a map of regions asks and promises.
use Rattle.std.specs.Prelude.{◌≡◌, ◌↔◌, Bool, true, List, ℕ, ◌^◌, ◌≤◌, ◌<◌, length, get_or}
use Rattle.grid.specs.Listing.{Cycle}
use Rattle.steps.specs.Look.{mark_bit}
use Rattle.cycles.specs.Mapped.{nums_of, Mapped}
use Rattle.given_outlines.specs.Agreeing.{Agreeing}
use Rattle.given_outlines.specs.Starts.{EachFromItsStart}

-- The lists of owners, ends and corners agree with each other, and the map bears no mark.
pub record Retraceable (n : ℕ) (os es cs map : List ℕ) : Type 0 where
  pub small : n ≤ 8
  pub agree : Agreeing os es cs
  pub mapped : Mapped n map
  pub unmarked : (j : ℕ) → j < 4 ^ n → get_or map j 0 < mark_bit

-- The map holds the same numbers, with marks or without, and what lies beyond it is as it was.
pub record MapKept (n : ℕ) (map map' : List ℕ) : Type 0 where
  pub mapped : Mapped n map'
  pub same_numbers : nums_of n map' ≡ nums_of n map
  pub beyond : (j : ℕ) → 4 ^ n ≤ j → get_or map' j 0 ≡ get_or map j 0

-- The answer says whether the cycles are those of the map, each from its start, in the order of the listing, and none missing. Where they are,
-- the map is kept; where not, its content is free.
pub record Retraced (n : ℕ) (l : List Cycle) (map map' : List ℕ) (ok : Bool) : Type 0 where
  pub long : length map' ≡ length map
  pub agree : (ok ≡ true) ↔ EachFromItsStart n (nums_of n map) l
  pub kept : ok ≡ true → MapKept n map map'
