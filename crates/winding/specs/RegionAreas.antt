-- The areas of a region's cycles add to its number of pixels, and those of all cycles to 4^n (document 02, request d).
use Rattle.std.specs.Prelude.{◌≡◌, ◌≢◌, Bool, length, ℤ, ◌+ℤ◌, eqb}
use Rattle.std.proofs.Math.Path.{refl, sym, ap}
use Rattle.std.proofs.Common.{ap₂, ◌∙◌, subst, arith, eqb-true, eq-eqb, ne_eqb}
use mathlib.Core.List.{List, [], ◌∷◌, map, flat_map}
use Prim.Native.Nat.{ℕ, suc, ◌/◌, ◌%◌, ◌^◌, ◌≤◌, ◌<◌}
use Rattle.std.proofs.Math.Decide.{ℕ_discrete}
use Rattle.std.proofs.Math.ListN.{get_or}
use Rattle.std.proofs.Math.IntN.{pos}
use Rattle.sequences.specs.Powers.{square_of_side}
use Rattle.sequences.specs.Ranges.{range}
use Rattle.interleaving.specs.Codes.{code}
use Rattle.interleaving.specs.Interleaving.{code_below}
use Rattle.quadtree.specs.Raster.{in_rows}
use Rattle.quadtree.specs.Orders.{length_in_rows, in_rows_at}
use Rattle.lattice.specs.Walks.{outline, corners}
use Rattle.lattice.specs.Area.{area, area-append}
use Rattle.orbits.specs.Members.{In, Distinct, in_first, in_later, in_flat, flat_in}
use Rattle.grid.specs.Map.{region_at}
use Rattle.grid.specs.Margins.{region-inside, region_east}
use Rattle.grid.specs.Steps.{Edge}
use Rattle.grid.specs.Cycles.{cycle}
use Rattle.grid.specs.Listing.{keep, start_codes, cycle_at, listing, owners, areas}
use Rattle.grid.specs.Keeping.{keep_yes, keep_no, in_keep, keep_in, ordered_keep, in_start_codes, start-codes_distinct}
use Rattle.grid.specs.Starting.{StartAt}
use Rattle.grid.specs.Closing.{sides_of_corners}
use Rattle.grid.specs.North.{side_small}
use Rattle.grid.specs.Listed.{listing-length, listed_start, owner_at, CycleThrough, find}
use Rattle.grid.specs.Stretches.{length-owners, length-areas}
use Rattle.grid.specs.Bounds.{edges_distinct}
use Rattle.winding.specs.Sums.{same, same_suc, same_flip, sum, sum_same, sum_rows}
use Rattle.winding.specs.Tallies.{occurrences, occurrences_in_tabulate, occurrences-add}
use Rattle.winding.specs.Pixels.{over_pixels, AllFit}
use Rattle.winding.specs.Neighbours.{ClosedWalk}
use Rattle.winding.specs.Inside.{cycle_closed, vertical_fits}
use Rattle.winding.specs.AllEdges.{area_is_pixels}
use Rattle.winding.specs.Totals.{total, areas_of, areas_own, areas_other, total_by_region, total_is_sum}

module _ (n : ℕ) (nums : List ℕ) (small : n ≤ 8) where
  abbrev m : ℕ → ℕ → ℕ
  m = region_at n nums

  -- The pixels of the region v, counted over the map, are the places with its number in the raster of region numbers.
  region-pixels : (v : ℕ) → over_pixels (2 ^ n) (λ X Y. same (m X Y) (suc v)) ≡ occurrences v (in_rows n nums)
  unfolding over_pixels in_rows
  region-pixels v =
      sum_same (2 ^ n) _ _ (λ y b. sum_same (2 ^ n) _ (λ x. same v (get_or nums (code n x y) 0)) (λ x a. here x y a b))
      ∙ sym (sum_rows (2 ^ n) (2 ^ n) (λ x y. same v (get_or nums (code n x y) 0)))
      ∙ ap (λ (k : ℕ). sum k (λ i. same v (get_or nums (code n (i % 2 ^ n) (i / 2 ^ n)) 0))) (square_of_side n)
      ∙ sym (occurrences_in_tabulate v (4 ^ n) (λ i. get_or nums (code n (i % 2 ^ n) (i / 2 ^ n)) 0))
    where
      here : (x y : ℕ) → x < 2 ^ n → y < 2 ^ n → same (m (suc x) (suc y)) (suc v) ≡ same v (get_or nums (code n x y) 0)
      here x y a b =
          ap (λ (k : ℕ). same k (suc v)) (region-inside n nums x y a b) ∙ same_suc (get_or nums (code n x y) 0) v ∙ same_flip (get_or nums (code n x y) 0) v

  -- ---- the cycles of the region v, among those that start at the codes cs

  abbrev of_region : ℕ → ℕ → Bool
  of_region v c = eqb (get_or nums c 0) v

  abbrev edges_of : ℕ → List ℕ → List ℕ
  edges_of v cs = flat_map (cycle n nums) (keep (λ c. eqb (get_or nums c 0) v) cs)

  -- Their areas add to the area of all their edges.
  areas_add_to_area_of_edges : (v : ℕ) (cs : List ℕ) → ((c : ℕ) → In c cs → StartAt n nums c)
      → total (areas_of v (owners (map (cycle_at n nums) cs)) (areas (map (cycle_at n nums) cs))) ≡ area (edges_of v cs)
  unfolding total areas_of owners areas cycle_at area flat_map keep
  areas_add_to_area_of_edges v [] starts = refl
  areas_add_to_area_of_edges v (c ∷ cs) starts = pick (ℕ_discrete (get_or nums c 0) v) (areas_add_to_area_of_edges v cs (λ d i. starts d (in_later d c cs i)))
    where
      os : List ℕ
      os = owners (map (cycle_at n nums) cs)

      zs : List ℤ
      zs = areas (map (cycle_at n nums) cs)

      z : ℤ
      z = area (outline (corners (cycle n nums c)))

      pick : Dec (get_or nums c 0 ≡ v) → total (areas_of v os zs) ≡ area (edges_of v cs)
          → total (areas_of v (get_or nums c 0 ∷ os) (z ∷ zs)) ≡ area (edges_of v (c ∷ cs))
      pick (yes e) rest =
          ap total (areas_own v (get_or nums c 0) os z zs e)
          ∙ ap₂ ◌+ℤ◌ (ap area (sides_of_corners n nums small c (starts c (in_first c cs)))) rest
          ∙ sym (area-append (cycle n nums c) (edges_of v cs))
          ∙ ap (λ (l : List ℕ). area (flat_map (cycle n nums) l)) (sym (keep_yes (of_region v) c cs (eq-eqb (get_or nums c 0) v e)))
      pick (no e) rest =
          ap total (areas_other v (get_or nums c 0) os z zs e)
          ∙ rest
          ∙ ap (λ (l : List ℕ). area (flat_map (cycle n nums) l)) (sym (keep_no (of_region v) c cs (ne_eqb (get_or nums c 0) v e)))

  -- ---- all cycles of the image

  module _ (regions : ℕ) (known : (c : ℕ) → c < 4 ^ n → get_or nums c 0 < regions) where
    abbrev codes : List ℕ
    codes = start_codes n nums regions

    start : (c : ℕ) → In c codes → StartAt n nums c
    start = listed_start n nums regions small

    closed : (c : ℕ) → In c codes → ClosedWalk m (suc (get_or nums c 0)) (cycle n nums c)
    closed c i = cycle_closed n nums small c (start c i)

    module _ (v : ℕ) where
      abbrev kept : List ℕ
      kept = keep (λ c. eqb (get_or nums c 0) v) (start_codes n nums regions)

      listed : (c : ℕ) → In c kept → In c codes × (get_or nums c 0 ≡ v)
      listed c i = let k = in_keep (of_region v) codes c i in (k.0, eqb-true (get_or nums c 0) v k.1)

      only_edges : (e : ℕ) → In e (edges_of v codes) → Edge m (suc v) e
      only_edges e i =
          let w = in_flat (cycle n nums) kept e i in
          let k = listed w.0 w.1 in
          subst (λ (u : ℕ). Edge m (suc u) e) k.1 ((closed w.0 k.0).edges e w.2)

      edges_once : Distinct (edges_of v codes)
      edges_once = edges_distinct n nums small kept (ordered_keep (of_region v) ◌≢◌ codes (start-codes_distinct n nums regions)) (λ c i. start c (listed c i).0)

      all_edges : (e : ℕ) → Edge m (suc v) e → In e (edges_of v codes)
      all_edges e h =
          let f : CycleThrough n nums regions small known v e = find n nums regions small known v e h in
          let c : ℕ = get_or codes f.cycle-number 0 in
          let i : In c codes = (f.cycle-number, omega (arith, f.listed, listing-length n nums regions), refl) in
          flat_in (cycle n nums) kept c e (keep_in (of_region v) codes c i (eq-eqb (get_or nums c 0) v f.owned)) f.stands

      fit : AllFit (2 ^ n) (edges_of v codes)
      fit e i vertical = vertical_fits n nums (suc v) e (only_edges e i) vertical

      none_east : (Y : ℕ) → m (suc (2 ^ n)) Y ≢ suc v
      none_east Y e = omega (arith, region_east n nums (2 ^ n) Y (omega arith), e)

      -- "the areas of a region's cycles must add to its number of pixels": how often its number stands in the raster of region numbers.
      pub areas_of_region_add : total (areas_of v (owners (listing n nums regions)) (areas (listing n nums regions))) ≡ pos (occurrences v (in_rows n nums))
      unfolding listing
      areas_of_region_add =
          areas_add_to_area_of_edges v codes start
          ∙ area_is_pixels m (suc v) (omega arith) (edges_of v codes) only_edges edges_once all_edges (2 ^ n) (omega (arith, side_small n small)) fit none_east
          ∙ ap pos (region-pixels v)

    -- Each pixel lies in exactly one region.
    all_counted : sum regions (λ v. occurrences v (in_rows n nums)) ≡ 4 ^ n
    all_counted = occurrences-add regions (in_rows n nums) below ∙ length_in_rows n nums
      where
        below : (v : ℕ) → In v (in_rows n nums) → v < regions
        below v (i, h, e) =
            omega (arith, e, in_rows_at n nums i (omega (arith, length_in_rows n nums)), known (code n (i % 2 ^ n) (i / 2 ^ n)) (code_below n (i % 2 ^ n) (i / 2 ^ n)))

    -- "Over all regions they add to 4^n": region after region, and cycle after cycle.
    pub areas_of_regions_add : total (map (λ v. total (areas_of v (owners (listing n nums regions)) (areas (listing n nums regions)))) (range 0 regions)) ≡ pos (4 ^ n)
    areas_of_regions_add =
        (λ i. total (map (λ v. areas_of_region_add v i) (range 0 regions)))
        ∙ total_is_sum (λ v. occurrences v (in_rows n nums)) regions
        ∙ ap pos all_counted

    pub all_areas_add : total (areas (listing n nums regions)) ≡ pos (4 ^ n)
    all_areas_add =
        sym (total_by_region regions (owners (listing n nums regions)) (areas (listing n nums regions))
        (length-owners (listing n nums regions) ∙ sym (length-areas (listing n nums regions))) below)
        ∙ areas_of_regions_add
      where
        below : (o : ℕ) → In o (owners (listing n nums regions)) → o < regions
        below o (k, h, e) =
            let l : k < length codes = omega (arith, h, length-owners (listing n nums regions), listing-length n nums regions) in
            omega (arith, e, owner_at n nums regions k l, ((in_start_codes n nums regions (get_or codes k 0)).0 (k, l, refl)).1)
