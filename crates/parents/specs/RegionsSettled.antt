-- What the work list holds while the parents are found: the map of the regions with its marks, and behind it the parents found so far.
use Rattle.std.specs.Prelude.{◌≡◌, ◌↔◌, List, ℕ, ◌+◌, ◌*◌, ◌^◌, ◌≤◌, ◌<◌, length, get_or}
use Rattle.interleaving.specs.Codes.{code}
use Rattle.orbits.specs.Members.{In}
use Rattle.grid.specs.Outer.{LeastPixel}
use Rattle.components.specs.Numbers.{numbers}
use Rattle.cycles.specs.Mapped.{nums_of, Mapped, Marked}
use Rattle.surrounding.specs.SouthSides.{south_side}
use Rattle.surrounding.specs.Parents.{first_cycle, parent_of}

-- The south side of the pixel q lies in the first cycle of a region below s.
pub record InFirstCycle (n : ℕ) (nums : List ℕ) (s q : ℕ) : Type 0 where
  pub region : ℕ
  pub smaller : region < s
  pub holds : In (south_side n q) (first_cycle n nums region)

-- The regions below s are settled: the front of the work list is the map of the regions of an image, in which those pixels are marked whose
-- south sides lie in their first cycles; behind it stand their parents.
pub record RegionsSettled (n s : ℕ) (work : List ℕ) : Type 0 where
  pub small : n ≤ 8
  pub image : List ℕ
  pub mapped : Mapped n work
  pub numbered : nums_of n work ≡ numbers n image
  pub room : 2 * 4 ^ n ≤ length work
  pub marked : (q : ℕ) → q < 4 ^ n → Marked n work q ↔ InFirstCycle n (nums_of n work) s q
  pub parents : (v : ℕ) → v < s → get_or work (4 ^ n + v) 0 ≡ parent_of n (nums_of n work) v

-- (x, y) is the least pixel of its region, and the regions with smaller numbers are settled.
pub record LeastAt (n : ℕ) (work : List ℕ) (x y : ℕ) : Type 0 where
  pub x_inside : x < 2 ^ n
  pub y_inside : y < 2 ^ n
  pub least : LeastPixel n (nums_of n work) (code n x y)
  pub settled : RegionsSettled n (get_or (nums_of n work) (code n x y) 0) work

-- The region s comes next, and the pixel with the code c is its least one.
pub record RegionNext (n s c : ℕ) (work : List ℕ) : Type 0 where
  pub least : LeastPixel n (nums_of n work) c
  pub number : get_or (nums_of n work) c 0 ≡ s
  pub settled : RegionsSettled n s work

-- It is settled too; the map has the same numbers, and what lies behind its parent is as it was.
pub record RegionSettled (n s : ℕ) (work work' : List ℕ) : Type 0 where
  pub settled : RegionsSettled n (s + 1) work'
  pub same_numbers : nums_of n work' ≡ nums_of n work
  pub long : length work' ≡ length work
  pub beyond : (j : ℕ) → 4 ^ n + s < j → get_or work' j 0 ≡ get_or work j 0
