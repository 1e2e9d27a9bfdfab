-- What the walk along one cycle asks and promises.
use Rattle.std.specs.Prelude.{◌≡◌, ◌⊎◌, ◌↔◌, List, ℕ, suc, ◌^◌, ◌≤◌, ◌<◌, length, get_or, ℤ, nat_abs}
use Rattle.sequences.specs.Over.{over}
use Rattle.interleaving.specs.Codes.{code}
use Rattle.lattice.specs.Walks.{corners}
use Rattle.lattice.specs.Area.{area}
use Rattle.orbits.specs.Members.{In}
use Rattle.grid.specs.Cycles.{north_side, cycle}
use Rattle.grid.specs.Starting.{StartAt}
use Rattle.cycles.specs.Mapped.{nums_of, Mapped, Marked}
use Rattle.cycles.specs.Marks.{marks}
use Rattle.cycles.specs.Areas.{area_bound}

-- A cycle starts at the pixel (x, y) of the map, and its corners have room in the list `out`.
pub record StartsHere (n : ℕ) (map out : List ℕ) (x y : ℕ) : Type 0 where
  pub small : n ≤ 8
  pub mapped : Mapped n map
  pub x_inside : x < 2 ^ n
  pub y_inside : y < 2 ^ n
  pub starts : StartAt n (nums_of n map) (code n x y)
  pub room : length (corners (cycle n (nums_of n map) (code n x y))) ≤ length out

-- The map after that: the pixels south of the eastward edges of the cycle that starts at the pixel with the code c are marked.
unfoldable pub cycle_marked : ℕ → List ℕ → ℕ → List ℕ
unfolding marks nums_of cycle
cycle_marked n map c = marks 0 (2 ^ n) (suc (get_or (nums_of n map) c 0)) (cycle n (nums_of n map) c) map

-- The cycle is written: k corners at the front of the list `out`, and its marks in the map; sum is its area, within the bound. So the map's
-- numbers and what lies beyond it are as they were, and marked are the pixels that were and those south of the cycle's eastward edges.
pub record CycleWritten (n : ℕ) (map out : List ℕ) (c : ℕ) (map' out' : List ℕ) (k : ℕ) (sum : ℤ) : Type 0 where
  pub count : k ≡ length (corners (cycle n (nums_of n map) c))
  pub list : out' ≡ over (corners (cycle n (nums_of n map) c)) out
  pub its_area : sum ≡ area (cycle n (nums_of n map) c)
  pub area_low : nat_abs sum ≤ area_bound
  pub in_map : map' ≡ cycle_marked n map c
  pub mapped : Mapped n map'
  pub same_numbers : nums_of n map' ≡ nums_of n map
  pub same_length : length map' ≡ length map
  pub beyond : (j : ℕ) → 4 ^ n ≤ j → get_or map' j 0 ≡ get_or map j 0
  pub marked : (d : ℕ) → d < 4 ^ n → Marked n map' d ↔ (Marked n map d ⊎ In (north_side n d) (cycle n (nums_of n map) c))
