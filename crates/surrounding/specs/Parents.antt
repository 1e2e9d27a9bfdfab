-- The parent of a region, executable: of the regions that surround it (document 02, request h) the one that all the others surround too
-- (`surrounds_exactly_when_above`). It is found north of the region's least pixel: the region there is the parent, unless the side between
-- them is in that region's first cycle; then both have one parent.
use Rattle.std.specs.Prelude.{◌≡◌, refl, ◌≢◌, true, false, List, length, get_or, eqb}
use Rattle.std.proofs.Common.{sym, ap, ◌∙◌, subst, arith, eq-eqb, ne_eqb}
use Prim.Native.Nat.{ℕ, zero, suc, ◌≤◌, ◌<◌}
use Rattle.std.proofs.Math.Decide.{ℕ_discrete}
use Rattle.interleaving.specs.Codes.{row}
use Rattle.orbits.specs.Members.{In, in_dec}
use Rattle.grid.specs.Figures.{figure5a, figure5b}
use Rattle.grid.specs.Cycles.{cycle}
use Rattle.grid.specs.Outer.{LeastPixel}
use Rattle.components.specs.Numbers.{numbers, regions, north_of}
use Rattle.components.proofs.Neighbours.{north_beside}
use Rattle.components.specs.Numbered.{FirstOf}
use Rattle.components.proofs.Numbered.{length-numbers, number-below-regions, each_number_given}
use Rattle.orbits.specs.Finding.{place_of, member, place-first, place-holds, member_in, member_not}
use Rattle.surrounding.specs.SouthSides.{south_side}
use Rattle.surrounding.specs.NorthOfLeast.{Below, smaller_number}

-- The region of the pixel north of the least pixel of the region s, and the side between the two pixels.
abbrev pub region_above : ℕ → List ℕ → ℕ → ℕ
region_above n nums s = get_or nums (north_of n (place_of s nums)) 0

abbrev pub side_above : ℕ → List ℕ → ℕ → ℕ
side_above n nums s = south_side n (north_of n (place_of s nums))

-- The first cycle of the region t.
abbrev pub first_cycle : ℕ → List ℕ → ℕ → List ℕ
first_cycle n nums t = cycle n nums (place_of t nums)

-- 1 plus the parent of the region s, and 0 where it has none, looked for in k regions on the way north. Each has a smaller number than the
-- one before, so any k above s will do (`parent_bound`).
unfoldable pub parent_within : ℕ → List ℕ → ℕ → ℕ → ℕ
unfolding place_of row north_of member south_side cycle
parent_within n nums zero s = 0
parent_within n nums (suc k) s =
    let t = region_above n nums s in
    elim (eqb (row n (place_of s nums)) 0) [
      | true ↦ 0
      | false ↦ elim (member (side_above n nums s) (first_cycle n nums t)) [ true ↦ parent_within n nums k t | false ↦ suc t ]
    ]

-- Looked for in enough of them.
unfoldable pub parent_of : ℕ → List ℕ → ℕ → ℕ
unfolding parent_within
parent_of n nums s = parent_within n nums (suc s) s

-- In figure 5(a) region 0 is the parent of region 1; in figure 5(b) no region has a parent.
parents_in_figures : (parent_of 2 figure5a 0 ≡ 0) × (parent_of 2 figure5a 1 ≡ 1) × (parent_of 2 figure5b 1 ≡ 0) × (parent_of 2 figure5b 2 ≡ 0)
unfolding parent_of figure5a figure5b
parents_in_figures = (refl, refl, refl, refl)

-- The three cases.
module _ (n : ℕ) (nums : List ℕ) (k s : ℕ) where
  abbrev c : ℕ
  c = place_of s nums

  abbrev t : ℕ
  t = region_above n nums s

  at_top : row n c ≡ 0 → parent_within n nums (suc k) s ≡ 0
  unfolding parent_within
  at_top h = rw (eq-eqb (row n c) 0 h, parent_within)

  in_first : row n c ≢ 0 → In (side_above n nums s) (first_cycle n nums t) → parent_within n nums (suc k) s ≡ parent_within n nums k t
  unfolding parent_within
  in_first h i = rw (ne_eqb (row n c) 0 h, member_in (side_above n nums s) (first_cycle n nums t) i, parent_within)

  in_other : row n c ≢ 0 → (In (side_above n nums s) (first_cycle n nums t) → ⊥) → parent_within n nums (suc k) s ≡ suc t
  unfolding parent_within
  in_other h i = rw (ne_eqb (row n c) 0 h, member_not (side_above n nums s) (first_cycle n nums t) i, parent_within)

module _ (n : ℕ) (px : List ℕ) where
  abbrev nums : List ℕ
  nums = numbers n px

  abbrev up : ℕ → ℕ
  up = parent_of n (numbers n px)

  -- The least pixel of a region.
  pub least_of_lem : (s : ℕ) → s < regions n px → LeastPixel n nums (place_of s nums) × (get_or nums (place_of s nums) 0 ≡ s)
  least_of_lem s h =
      let f : FirstOf n px nums s = each_number_given n px s h in
      let l : f.pixel < length nums = omega (arith, f.first.inside, length-numbers n px) in
      let e : get_or nums (place_of s nums) 0 ≡ s = place-holds s nums (f.pixel, l, f.value) in (
        record {
          inside = omega (arith, place-first s nums f.pixel l f.value, f.first.inside);
          least = λ d g q. place-first s nums d (omega (arith, length-numbers n px)) (q ∙ e);
        },
        e,
      )

  -- What lies north of the least pixel of the region s, not in the first row.
  pub record Northern (s : ℕ) : Type 0 where
    pub region : ℕ
    pub known : region < regions n px
    pub smaller : region < s
    pub below : Below n nums (place_of s nums) region (place_of region nums)

  pub northern : n ≤ 8 → (s : ℕ) → s < regions n px → row n (place_of s nums) ≢ 0 → (v : Northern s) × (v.region ≡ region_above n nums s)
  northern small s h lower =
      let l = least_of_lem s h in
      let t : ℕ = region_above n nums s in
      let k : t < regions n px = number-below-regions n px (north_of n (place_of s nums)) (north_beside n (place_of s nums) l.0.inside (omega arith)).to in
      let f = least_of_lem t k in
      let b : Below n nums (place_of s nums) t (place_of t nums) = record { least = l.0; lower = omega arith; region = refl; first = f.0; of_region_lem = f.1 } in
      (record { region = t; known = k; smaller = omega (arith, smaller_number n px b, l.1); below = b }, refl)

  module _ (small : n ≤ 8) where
    -- Any bound above s gives the same parent.
    parent_bound : (k j s : ℕ) → s < regions n px → s < k → s < j → parent_within n nums k s ≡ parent_within n nums j s
    parent_bound zero j s h a b = absurd (omega arith)
    parent_bound (suc k) zero s h a b = absurd (omega arith)
    parent_bound (suc k) (suc j) s h a b =
        pick (ℕ_discrete (row n (place_of s nums)) 0) (in_dec (side_above n nums s) (first_cycle n nums (region_above n nums s)))
        (λ l g. parent_bound k j (region_above n nums s) l (omega arith) (omega arith))
      where
        t : ℕ
        t = region_above n nums s

        pick : Dec (row n (place_of s nums) ≡ 0) → Dec (In (side_above n nums s) (first_cycle n nums t))
            → (t < regions n px → t < s → parent_within n nums k t ≡ parent_within n nums j t) → parent_within n nums (suc k) s ≡ parent_within n nums (suc j) s
        pick (yes r) i ih = at_top n nums k s r ∙ sym (at_top n nums j s r)
        pick (no r) (yes i) ih =
            let v = northern small s h r in
            in_first n nums k s r i ∙ ih (omega (arith, v.0.known, v.1)) (omega (arith, v.0.smaller, v.1)) ∙ sym (in_first n nums j s r i)
        pick (no r) (no i) ih = in_other n nums k s r i ∙ sym (in_other n nums j s r i)

    -- The parent of a region, by what lies north of its least pixel.
    pub data Parent (s : ℕ) : Type 0 where
      top : row n (place_of s nums) ≡ 0 → up s ≡ 0 → Parent s
      shared : (v : Northern s) → In (side_above n nums s) (first_cycle n nums v.region) → up s ≡ up v.region → Parent s
      own : (v : Northern s) → (In (side_above n nums s) (first_cycle n nums v.region) → ⊥) → up s ≡ suc v.region → Parent s

    pub parent_cases : (s : ℕ) → s < regions n px → Parent s
    unfolding parent_of
    parent_cases s h =
        pick (ℕ_discrete (row n (place_of s nums)) 0) (in_dec (side_above n nums s) (first_cycle n nums (region_above n nums s)))
      where
        t : ℕ
        t = region_above n nums s

        pick : Dec (row n (place_of s nums) ≡ 0) → Dec (In (side_above n nums s) (first_cycle n nums t)) → Parent s
        pick (yes r) i = top r (at_top n nums s s r)
        pick (no r) (yes i) =
            let v = northern small s h r in
            let w : ℕ = v.0.region in
            shared v.0 (subst (λ x. In (side_above n nums s) (first_cycle n nums x)) (sym v.1) i)
            (in_first n nums s s r i ∙ ap (parent_within n nums s) (sym v.1) ∙ parent_bound s (suc w) w v.0.known v.0.smaller (omega arith))
        pick (no r) (no i) =
            let v = northern small s h r in
            own v.0 (λ j. i (subst (λ x. In (side_above n nums s) (first_cycle n nums x)) v.1 j)) (in_other n nums s s r i ∙ ap suc (sym v.1))
