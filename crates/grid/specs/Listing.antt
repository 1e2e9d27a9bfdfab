-- The listing of all cycles: their order, owners, ends, corners and areas.
use Rattle.std.specs.Prelude.{◌≡◌, refl, Bool, true, false, ℕ, zero, suc, ◌+◌, ◌^◌, length, get_or, ℤ, pos, negsuc, eqb}
use mathlib.Core.List.{List, [], ◌∷◌, ◌++◌, map, flat_map}
use Rattle.sequences.specs.Ranges.{range}
use Rattle.lattice.specs.Directions.{point}
use Rattle.lattice.specs.Walks.{outline, corners}
use Rattle.lattice.specs.Area.{area}
use Rattle.grid.specs.Figures.{figure5a, figure5b}
use Rattle.grid.specs.Cycles.{cycle, is_start}

-- The numbers of a list that pass a test, in their order.
unfoldable pub keep : (ℕ → Bool) → List ℕ → List ℕ
keep test [] = []
keep test (x ∷ xs) = elim (test x) [ true ↦ x ∷ keep test xs | false ↦ keep test xs ]

-- The pixel with the code c lies in the region r, and a cycle starts at it.
unfoldable pub starts_in : ℕ → List ℕ → ℕ → ℕ → Bool
unfolding is_start
starts_in n nums r c = elim (eqb (get_or nums c 0) r) [ true ↦ is_start n nums c | false ↦ false ]

-- The codes of the start pixels of the cycles of the region r, in rising order.
unfoldable pub starts : ℕ → List ℕ → ℕ → List ℕ
unfolding keep starts_in range
starts n nums r = keep (starts_in n nums r) (range 0 (4 ^ n))

-- "Cycles are listed by region number, then by the code of that start pixel" (document 01, "Outlines"): the start pixels of all
-- cycles of the first `regions` regions, in the order of the listing.
unfoldable pub start_codes : ℕ → List ℕ → ℕ → List ℕ
unfolding flat_map starts range
start_codes n nums regions = flat_map (starts n nums) (range 0 regions)

-- Figure 5(a): of region 0 the outline from the code 0 and that of its hole from the code 11, then region 1 from the code 3.
by_region_then_code : start_codes 2 figure5a 2 ≡ 0 ∷ 11 ∷ 3 ∷ []
unfolding start_codes figure5a
by_region_then_code = refl

-- A cycle: the region it bounds, and its corners from its start.
pub record Cycle : Type 0 where
  pub region : ℕ
  pub points : List ℕ

-- The cycle that starts at the pixel with the code c.
unfoldable pub cycle_at : ℕ → List ℕ → ℕ → Cycle
unfolding corners cycle
cycle_at n nums c = record { region = get_or nums c 0; points = corners (cycle n nums c) }

-- All cycles of the first `regions` regions, in the order of their start codes.
unfoldable pub listing : ℕ → List ℕ → ℕ → List Cycle
unfolding start_codes cycle_at
listing n nums regions = map (cycle_at n nums) (start_codes n nums regions)

-- "For each cycle the owner list holds its region, the end list the index after its last corner. .. the corner list holds them
-- cycle after cycle" (document 01, "Outlines"). The first cycle of the list begins at the index `at`.
unfoldable pub owners : List Cycle → List ℕ
owners [] = []
owners (c ∷ cs) = c.region ∷ owners cs

unfoldable pub ends_from : ℕ → List Cycle → List ℕ
ends_from at [] = []
ends_from at (c ∷ cs) = (at + length c.points) ∷ ends_from (at + length c.points) cs

unfoldable pub ends : List Cycle → List ℕ
unfolding ends_from
ends cs = ends_from 0 cs

unfoldable pub all_corners : List Cycle → List ℕ
all_corners [] = []
all_corners (c ∷ cs) = c.points ++ all_corners cs

-- "Each cycle gets a signed 32-bit area .. It stands in a fourth output list next to owner, end and corners" (document 02, request c).
unfoldable pub areas : List Cycle → List ℤ
unfolding area outline
areas [] = []
areas (c ∷ cs) = area (outline c.points) ∷ areas cs

-- Figure 5(a): the hole of region 0 starts at its eastward edge, from (1, 3); its area is below 0.
figure_5a : (owners (listing 2 figure5a 2) ≡ 0 ∷ 0 ∷ 1 ∷ []) × (ends (listing 2 figure5a 2) ≡ 4 ∷ 8 ∷ 12 ∷ [])
    × (all_corners (listing 2 figure5a 2)
    ≡ point 0 0 ∷ point 4 0 ∷ point 4 4 ∷ point 0 4
    ∷ point 1 3 ∷ point 3 3 ∷ point 3 1 ∷ point 1 1
    ∷ point 1 1 ∷ point 3 1 ∷ point 3 3 ∷ point 1 3 ∷ [])
    × (areas (listing 2 figure5a 2) ≡ pos 16 ∷ negsuc 3 ∷ pos 4 ∷ [])
unfolding owners ends all_corners areas listing figure5a point
figure_5a = (refl, refl, refl, refl)

-- Figure 5(b): the outline of region 0 meets itself at (2, 2) and turns right there.
figure_5b : (owners (listing 2 figure5b 3) ≡ 0 ∷ 1 ∷ 2 ∷ []) × (ends (listing 2 figure5b 3) ≡ 10 ∷ 14 ∷ 18 ∷ [])
    × (all_corners (listing 2 figure5b 3)
    ≡ point 0 0 ∷ point 4 0 ∷ point 4 2 ∷ point 2 2 ∷ point 2 1 ∷ point 1 1 ∷ point 1 2 ∷ point 2 2 ∷ point 2 4 ∷ point 0 4
    ∷ point 1 1 ∷ point 2 1 ∷ point 2 2 ∷ point 1 2
    ∷ point 2 2 ∷ point 4 2 ∷ point 4 4 ∷ point 2 4 ∷ [])
    × (areas (listing 2 figure5b 3) ≡ pos 11 ∷ pos 1 ∷ pos 4 ∷ [])
unfolding owners ends all_corners areas listing figure5b point
figure_5b = (refl, refl, refl, refl)

-- The corners of the cycle k of a list.
unfoldable pub points_at : List Cycle → ℕ → List ℕ
points_at [] k = []
points_at (c ∷ cs) zero = c.points
points_at (c ∷ cs) (suc k) = points_at cs k

-- "The counts are those of the regions, of the cycles, and of the corners of all cycles" (document 01, "Outlines").
unfoldable pub cycle_count : List Cycle → ℕ
cycle_count cs = length cs

unfoldable pub corner_count : List Cycle → ℕ
unfolding all_corners
corner_count cs = length (all_corners cs)
