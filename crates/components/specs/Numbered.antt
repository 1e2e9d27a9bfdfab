-- What region numbers say: equal exactly for joined pixels, 0, 1, 2, .. by least codes.
use Rattle.std.specs.Prelude.{◌≡◌, ◌↔◌, List, ℕ, ◌^◌, ◌≤◌, ◌<◌, length, get_or}
use Rattle.unions.specs.Counting.{CountsUp}
use Rattle.components.specs.Joined.{Joined}

-- The pixel c has the least code of its region.
pub record LeastCode (n : ℕ) (px : List ℕ) (c : ℕ) : Type 0 where
  pub inside : c < 4 ^ n
  pub least : (d : ℕ) → Joined n px c d → c ≤ d

-- A list l of numbers for the 4^n pixels of an image: equal exactly for joined pixels, so that "No number is given to two regions of
-- one image"; and before a number is given, every smaller one has been, so that they are "0, 1, 2, .. by each region's least location
-- code" (document 01, "Regions").
pub record RegionNumbers (n : ℕ) (px l : List ℕ) : Type 0 where
  pub long : length l ≡ 4 ^ n
  pub exactly : (c d : ℕ) → c < 4 ^ n → d < 4 ^ n → (get_or l c 0 ≡ get_or l d 0) ↔ Joined n px c d
  pub count_up : CountsUp (4 ^ n) (λ c. get_or l c 0)

-- A pixel that has the least code of its region, with the number v.
pub record FirstOf (n : ℕ) (px l : List ℕ) (v : ℕ) : Type 0 where
  pub pixel : ℕ
  pub first : LeastCode n px pixel
  pub value : get_or l pixel 0 ≡ v

-- The same in other words: the numbers are 0, 1, 2, .. below `count`, and rise with the least codes of the regions.
pub record ByLeastCodes (n : ℕ) (px l : List ℕ) (count : ℕ) : Type 0 where
  pub long : length l ≡ 4 ^ n
  pub exactly : (c d : ℕ) → c < 4 ^ n → d < 4 ^ n → (get_or l c 0 ≡ get_or l d 0) ↔ Joined n px c d
  pub below : (c : ℕ) → c < 4 ^ n → get_or l c 0 < count
  pub given : (v : ℕ) → v < count → FirstOf n px l v
  pub rising : (c d : ℕ) → LeastCode n px c → LeastCode n px d → c < d → get_or l c 0 < get_or l d 0
