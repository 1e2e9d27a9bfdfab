-- What a caller gives to have the numbers of a map compared with the region numbers of an image, and what it is told.
use Rattle.std.specs.Prelude.{◌≡◌, ◌↔◌, Bool, true, List, ℕ, ◌*◌, ◌^◌, ◌≤◌, ◌<◌, length, get_or}
use Rattle.components.specs.Numbers.{numbers, regions}
use Rattle.cycles.specs.Mapped.{nums_of, Mapped}
use Rattle.given_outlines.specs.Given.{coloured}

-- The image in which each pixel has the colour of its number, by the map at the front of a list.
abbrev pub map_image : ℕ → List ℕ → List ℕ → List ℕ
map_image n colours work = coloured colours (nums_of n work)

-- The work list begins with a map of numbers: without marks, each entry is from 1 to the number of colours. There is room for 4^n
-- entries more.
pub record Comparable (n : ℕ) (colours work : List ℕ) : Type 0 where
  pub small : n ≤ 8
  pub mapped : Mapped n work
  pub below : (j : ℕ) → j < 4 ^ n → get_or work j 0 ≤ length colours
  pub few : length colours ≤ 4 ^ n
  pub room : 2 * 4 ^ n ≤ length work

-- The answer is yes exactly when the numbers of the map are the region numbers of that image, and it has as many regions as there are
-- colours. Of the work list nothing but the second 4^n entries changes.
pub record NumbersCompared (n : ℕ) (colours work work' : List ℕ) (ok : Bool) : Type 0 where
  pub long : length work' ≡ length work
  pub map-kept : (j : ℕ) → j < 4 ^ n → get_or work' j 0 ≡ get_or work j 0
  pub beyond : (j : ℕ) → 2 * 4 ^ n ≤ j → get_or work' j 0 ≡ get_or work j 0
  pub agree : (ok ≡ true)
      ↔ ((numbers n (coloured colours (nums_of n work)) ≡ nums_of n work) × (regions n (coloured colours (nums_of n work)) ≡ length colours))
