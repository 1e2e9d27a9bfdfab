-- How large areas are together: no sum of them leaves 32 bits.
use Rattle.std.proofs.Common.{sym, subst, arith, length-append}
use Rattle.std.specs.Prelude.{Bool, true, false, cond, ℕ, zero, suc, ◌+◌, ◌*◌, ◌≤◌, ◌<◌, length, take, ℤ, nat_abs, eqb}
use mathlib.Core.List.{List, [], ◌∷◌, map, flat_map}
use Rattle.sequences.specs.Differences.{size_of_sum}
use Rattle.sequences.specs.Powers.{pow4_mono}
use Rattle.lattice.specs.Walks.{outline, corners}
use Rattle.lattice.specs.Area.{area, area_size}
use Rattle.orbits.specs.Members.{In, in_first, in_later}
use Rattle.grid.specs.Cycles.{cycle}
use Rattle.grid.specs.Listing.{start_codes, Cycle, cycle_at, listing, areas}
use Rattle.grid.specs.Listed.{listed_start}
use Rattle.grid.specs.Closing.{sides_of_corners}
use Rattle.grid.specs.Bounds.{all_edges_fit}
use Rattle.winding.specs.Totals.{total, areas_of}

-- The sizes of areas, above or below 0, added up.
unfoldable pub sizes : List ℤ → ℕ
sizes [] = 0
sizes (z ∷ zs) = nat_abs z + sizes zs

-- No sum is further from 0, nor one of fewer areas: those of one region, those of the first j cycles.
pub size_of_total : (zs : List ℤ) → nat_abs (total zs) ≤ sizes zs
unfolding total sizes
size_of_total [] = omega arith
size_of_total (z ∷ zs) = omega (arith, size_of_sum z (total zs), size_of_total zs)

pub sizes_of_region : (v : ℕ) (os : List ℕ) (zs : List ℤ) → sizes (areas_of v os zs) ≤ sizes zs
unfolding sizes areas_of
sizes_of_region v [] zs = omega arith
sizes_of_region v (o ∷ os) [] = omega arith
sizes_of_region v (o ∷ os) (z ∷ zs) = pick (eqb o v) (sizes_of_region v os zs)
  where
    pick : (b : Bool) → sizes (areas_of v os zs) ≤ sizes zs → sizes (cond b (z ∷ areas_of v os zs) (areas_of v os zs)) ≤ nat_abs z + sizes zs
    pick true rest = omega arith
    pick false rest = omega arith

pub sizes_of_first : (j k : ℕ) (zs : List ℤ) → j ≤ k → sizes (take j zs) ≤ sizes (take k zs)
unfolding sizes
sizes_of_first zero k zs h = omega arith
sizes_of_first (suc j) zero zs h = absurd (omega arith)
sizes_of_first (suc j) (suc k) [] h = omega arith
sizes_of_first (suc j) (suc k) (z ∷ zs) h = omega (arith, sizes_of_first j k zs (omega arith))

-- Cycles whose areas are no larger than 512 times the number of their edges: so all areas together.
sizes_by_edges : (f : ℕ → Cycle) (edges : ℕ → List ℕ) (cs : List ℕ) → ((c : ℕ) → In c cs → nat_abs (area (outline (f c).points)) ≤ 512 * length (edges c))
    → sizes (areas (map f cs)) ≤ 512 * length (flat_map edges cs)
unfolding sizes areas flat_map
sizes_by_edges f edges [] h = omega arith
sizes_by_edges f edges (c ∷ cs) h =
    omega (arith, h c (in_first c cs), length-append (edges c) (flat_map edges cs), sizes_by_edges f edges cs (λ d i. h d (in_later d c cs i)))

-- All areas of an image are within 2^27 together: there are at most 262,144 edges in all, and no x above 511.
pub areas_together_fit : (n : ℕ) (nums : List ℕ) (small : n ≤ 8) (regions : ℕ) → sizes (areas (listing n nums regions)) < 2147483648
unfolding listing cycle_at
areas_together_fit n nums small regions =
    omega (arith, sizes_by_edges (cycle_at n nums) (cycle n nums) (start_codes n nums regions) size, all_edges_fit n nums small regions, pow4_mono small)
  where
    size : (c : ℕ) → In c (start_codes n nums regions) → nat_abs (area (outline (corners (cycle n nums c)))) ≤ 512 * length (cycle n nums c)
    size c i =
        subst (λ (es : List ℕ). nat_abs (area es) ≤ 512 * length (cycle n nums c)) (sym (sides_of_corners n nums small c (listed_start n nums regions small c i)))
        (area_size (cycle n nums c))
