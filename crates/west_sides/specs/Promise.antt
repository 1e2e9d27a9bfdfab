-- What telling the regions of pixels asks for, and what it answers and leaves in the map.
use Rattle.std.specs.Prelude.{◌≡◌, Bool, true, false, List, ℕ, ◌^◌, ◌≤◌, ◌<◌, length, get_or}
use Rattle.grid.specs.Listing.{Cycle}
use Rattle.cycles.specs.Mapped.{nums_of, Mapped}
use Rattle.given_outlines.specs.Agreeing.{Agreeing}
use Rattle.given_outlines.specs.Candidate.{numbers_from}
use Rattle.given_outlines.specs.Needed.{NoImage}

-- Owners, ends and corners that agree with each other, no more regions than pixels, and a map with an entry for each pixel.
pub record Tellable (n count : ℕ) (os es cs map : List ℕ) : Type 0 where
  pub small : n ≤ 8
  pub agree : Agreeing os es cs
  pub few_regions : count ≤ 4 ^ n
  pub room : 4 ^ n ≤ length map

-- The map holds, row by row, 1 plus the numbers that the cycles tell. Each is below the count, so none bears a mark.
pub record Told (n count : ℕ) (l : List Cycle) (map : List ℕ) : Type 0 where
  pub mapped : Mapped n map
  pub below : (j : ℕ) → j < 4 ^ n → get_or map j 0 ≤ count
  pub numbers_are : nums_of n map ≡ numbers_from n l

-- The answer, and the map afterwards. Where the answer is false, no image with so many regions has these outlines, and the first 4^n entries
-- are free. Where none has them, either answer may come.
pub record RegionsTold (n count : ℕ) (l : List Cycle) (map map' : List ℕ) (ok : Bool) : Type 0 where
  pub long : length map' ≡ length map
  pub beyond : (j : ℕ) → 4 ^ n ≤ j → get_or map' j 0 ≡ get_or map j 0
  pub told : ok ≡ true → Told n count l map'
  pub none : ok ≡ false → NoImage n count l
