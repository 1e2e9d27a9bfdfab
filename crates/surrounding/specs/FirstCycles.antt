-- The first cycles of the regions, as a loop meets them: the one that starts at the least pixel is the first listed; a south side that is
-- in the first cycle of any region is in that of its own pixel's region, so that one mark for each pixel is enough.
use Rattle.std.specs.Prelude.{◌≡◌, ◌≢◌, List, length, get_or}
use Rattle.std.proofs.Common.{sym, ◌∙◌, le_antisymm, arith}
use Rattle.std.proofs.Math.Path.{ap}
use Prim.Native.Nat.{ℕ, suc, ◌^◌, ◌≤◌, ◌<◌}
use Rattle.interleaving.specs.Codes.{column, row}
use Rattle.interleaving.specs.Interleaving.{column-below}
use Rattle.lattice.specs.Directions.{tail, digit}
use Rattle.lattice.specs.Walks.{outline}
use Rattle.orbits.specs.Members.{In}
use Rattle.grid.specs.Map.{region_at, around}
use Rattle.grid.specs.Margins.{region_of_code}
use Rattle.grid.specs.Cycles.{north_side, cycle}
use Rattle.grid.specs.Listing.{start_codes, listing, owners, points_at}
use Rattle.grid.specs.Sides.{side_at, Parts, side_parts}
use Rattle.grid.specs.Returning.{ring}
use Rattle.grid.specs.North.{side_small}
use Rattle.grid.specs.Starting.{margin}
use Rattle.grid.specs.Listed.{listing-length, owner_at, outline_at}
use Rattle.grid.specs.Outer.{LeastPixel, least_starts, first-starts_least}
use Rattle.components.specs.Numbers.{numbers, regions}
use Rattle.components.proofs.Numbered.{number-below-regions}
use Rattle.orbits.specs.Finding.{place_of}
use Rattle.surrounding.specs.SouthSides.{south_side}
use Rattle.surrounding.specs.Parents.{first_cycle, least_of_lem}

module _ (n : ℕ) (px : List ℕ) (small : n ≤ 8) where
  abbrev nums : List ℕ
  nums = numbers n px

  abbrev m : ℕ → ℕ → ℕ
  m = region_at n (numbers n px)

  -- The pixel on the right of its south side.
  right_of_south : (q : ℕ) → q < 4 ^ n → around m (tail (south_side n q)) (digit (south_side n q)) ≡ suc (get_or nums q 0)
  unfolding south_side
  right_of_south q h =
      let p : Parts m (column n q) (row n q) 2 = side_parts m (column n q) (row n q) 2 (omega (arith, column-below n q, side_small n small)) (omega arith) in
      ap (around m (tail (side_at (column n q) (row n q) 2))) p.direction ∙ p.here ∙ region_of_code n nums q h

  pub first_cycle_of_own_region : (r q : ℕ) → r < regions n px → q < 4 ^ n → In (south_side n q) (first_cycle n nums r) → r ≡ get_or nums q 0
  unfolding cycle
  first_cycle_of_own_region r q k h i =
      let a : ℕ = place_of r nums in
      let l = least_of_lem n px r k in
      let g = (ring m (margin n nums small) (suc (get_or nums a 0)) (north_side n a) (least_starts n nums small a l.0).north).edges (south_side n q) i in
      omega (arith, l.1, right_of_south q h, g.side.on_right)

  abbrev owner : ℕ → ℕ
  owner k = get_or (owners (listing n (numbers n px) (regions n px))) k 0

  -- The first listed cycle of a region is the cycle from its least pixel.
  pub first_listed : (k : ℕ) → k < length (listing n nums (regions n px)) → ((j : ℕ) → j < k → owner j ≢ owner k)
      → outline (points_at (listing n nums (regions n px)) k) ≡ first_cycle n nums (owner k)
  first_listed k h first =
      let start : ℕ = get_or (start_codes n nums (regions n px)) k 0 in
      let p : LeastPixel n nums start = first-starts_least n nums (regions n px) small k h first in
      let o : owner k ≡ get_or nums start 0 = owner_at n nums (regions n px) k (omega (arith, listing-length n nums (regions n px))) in
      let l = least_of_lem n px (owner k) (omega (arith, o, number-below-regions n px start p.inside)) in
      outline_at n nums (regions n px) small k h
      ∙ ap (cycle n nums) (le_antisymm (p.least (place_of (owner k) nums) l.0.inside (l.1 ∙ o)) (l.0.least start p.inside (sym o ∙ sym l.1)))
