-- The signs of the areas of an image's cycles, in the order of the listing (document 02, request c).
use Rattle.std.specs.Prelude.{◌≡◌, refl, ◌≢◌, List, ℕ, ◌≤◌, ◌<◌, length, get_or, pos, ◌<ℤ◌}
use Rattle.std.proofs.Common.{sym, ◌∙◌, subst}
use Rattle.sequences.specs.Differences.{difference, difference_above, difference_below}
use Rattle.grid.specs.Cycles.{cycle}
use Rattle.grid.specs.Listing.{start_codes, Cycle, listing, owners, areas}
use Rattle.grid.specs.Listed.{start_at}
use Rattle.grid.specs.Bounds.{area_of_cycle}
use Rattle.grid.specs.Outer.{LeastPixel, least_pixel, first_of_region, first-starts_least}
use Rattle.components.specs.Numbers.{numbers, regions}
use Rattle.winding.specs.Crossings.{x_sum, area_is_difference}
use Rattle.winding.specs.LeastPixels.{north-below_south, south_below_north}

-- "A region's first cycle has an area above zero and its other cycles have areas below zero."
module _ (n : ℕ) (px : List ℕ) (small : n ≤ 8) where
  abbrev nums : List ℕ
  nums = numbers n px

  abbrev count : ℕ
  count = regions n px

  abbrev l : List Cycle
  l = listing n (numbers n px) (regions n px)

  -- The code of the pixel where the cycle k starts, and the edges from there.
  abbrev start : ℕ → ℕ
  start k = get_or (start_codes n (numbers n px) (regions n px)) k 0

  abbrev edges : ℕ → List ℕ
  edges k = cycle n (numbers n px) (get_or (start_codes n (numbers n px) (regions n px)) k 0)

  area_is : (k : ℕ) → k < length l → get_or (areas l) k (pos 0) ≡ difference (x_sum 3 (edges k)) (x_sum 1 (edges k))
  area_is k h = area_of_cycle n nums count small k h ∙ area_is_difference (edges k)

  pub outer_above : (k : ℕ) → k < length l → ((j : ℕ) → j < k → get_or (owners l) j 0 ≢ get_or (owners l) k 0) → pos 0 <ℤ get_or (areas l) k (pos 0)
  outer_above k h first =
      subst (λ z. pos 0 <ℤ z) (sym (area_is k h))
      (difference_above (x_sum 3 (edges k)) (x_sum 1 (edges k))
      (north-below_south n px small (start k) (start_at n nums count small k h) (start k) (first-starts_least n nums count small k h first) refl refl))

  pub others_below : (j k : ℕ) → j < k → k < length l → get_or (owners l) j 0 ≡ get_or (owners l) k 0 → get_or (areas l) k (pos 0) <ℤ pos 0
  others_below j k g h e = from (least_pixel n nums (start k) (start_at n nums count small k h).inside)
    where
      from : (a : ℕ) × (get_or nums a 0 ≡ get_or nums (start k) 0) × LeastPixel n nums a → get_or (areas l) k (pos 0) <ℤ pos 0
      from (a, same, least) =
          subst (λ z. z <ℤ pos 0) (sym (area_is k h))
          (difference_below (x_sum 3 (edges k)) (x_sum 1 (edges k))
          (south_below_north n px small (start k) (start_at n nums count small k h) a least same (λ q. first_of_region n nums count small a least k h q j g e)))
