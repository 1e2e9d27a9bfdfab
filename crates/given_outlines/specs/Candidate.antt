-- The candidate: the only image that can have given outlines, read off the northward edges row by row.
use Rattle.std.specs.Prelude.{◌≡◌, refl, List, [], ◌∷◌, ℕ, zero, suc, ◌-◌, ◌^◌}
use Rattle.sequences.specs.Cases.{first, when}
use Rattle.sequences.specs.Ranges.{tabulate}
use Rattle.interleaving.specs.Codes.{column, row}
use Rattle.lattice.specs.Directions.{point}
use Rattle.lattice.specs.Walks.{outline}
use Rattle.orbits.specs.Finding.{member}
use Rattle.grid.specs.Listing.{Cycle}
use Rattle.grid.specs.Sides.{side_at}
use Rattle.stretches.specs.Stretch.{start_of, length_of, holds}
use Rattle.given_outlines.specs.Given.{Outlines, Given, up_to_counts, coloured, cycles_in, cycles_of}

-- 1 plus the owner of the last listed outline in which the edge e stands, 0 where it stands in none.
unfoldable pub owner_of : List Cycle → ℕ → ℕ
unfolding first when member outline
owner_of [] e = 0
owner_of (c ∷ cs) e = first (owner_of cs e) (when (member e (outline c.points)) (suc c.region))

-- 1 plus the region of the pixel (x, y): the owner of its west side, which is walked northward, or else the region of its west neighbour.
-- It is 0 where no northward edge stands at the pixel or west of it.
unfoldable pub region_from : List Cycle → ℕ → ℕ → ℕ
unfolding owner_of side_at
region_from l y zero = owner_of l (side_at 0 y 1)
region_from l y (suc x) = first (owner_of l (side_at (suc x) y 1)) (region_from l y x)

-- The region numbers of an image of side 2^n that the cycles of a list outline; 0 where there is no edge to tell.
unfoldable pub numbers_from : ℕ → List Cycle → List ℕ
unfolding tabulate region_from column row
numbers_from n l = tabulate (4 ^ n) (λ c. region_from l (row n c) (column n c) - 1)

-- The candidate: each pixel with the colour given for its region.
unfoldable pub candidate : ℕ → Outlines → List ℕ
unfolding numbers_from cycles_in coloured
candidate n o = coloured o.colour_list (numbers_from n (cycles_of o))

-- Dial 2: figure 5(b), its cycles with entries beyond the counts in every list.
dial2 : Given
unfolding point
dial2 = record {
  region_total = 3;
  cycle_total = 3;
  corner_total = 18;
  lists = record {
    owner_list = 0 ∷ 1 ∷ 2 ∷ 7 ∷ [];
    end_list = 10 ∷ 14 ∷ 18 ∷ 3 ∷ [];
    corner_list =
        point 0 0 ∷ point 4 0 ∷ point 4 2 ∷ point 2 2 ∷ point 2 1 ∷ point 1 1 ∷ point 1 2 ∷ point 2 2 ∷ point 2 4 ∷ point 0 4
        ∷ point 1 1 ∷ point 2 1 ∷ point 2 2 ∷ point 1 2
        ∷ point 2 2 ∷ point 4 2 ∷ point 4 4 ∷ point 2 4 ∷ point 9 9 ∷ [];
    colour_list = 1 ∷ 2 ∷ 3 ∷ 200 ∷ [];
  };
}

figure_5b_restored : candidate 2 (up_to_counts dial2) ≡ 1 ∷ 1 ∷ 1 ∷ 2 ∷ 1 ∷ 1 ∷ 1 ∷ 1 ∷ 1 ∷ 1 ∷ 1 ∷ 1 ∷ 3 ∷ 3 ∷ 3 ∷ 3 ∷ []
unfolding candidate dial2 start_of length_of holds
figure_5b_restored = refl
