-- The parent of a region, told by the pixel north of its least one: that pixel's region where it bears no mark, else that region's parent.
use Rattle.std.specs.Prelude.{◌≡◌, ◌≢◌, ◌↔◌, ℕ, suc, ◌+◌, ◌-◌, ◌*◌, ◌%◌, ◌^◌, ◌≤◌, ◌<◌, length}
use Rattle.std.proofs.Math.Path.{sym, ap, ap₂, subst}
use Rattle.std.proofs.Common.{◌∙◌, le_antisymm, arith}
use mathlib.Core.List.{List}
use Rattle.std.proofs.Math.ListN.{get_or}
use Rattle.sequences.specs.Powers.{pow4_mono}
use Rattle.interleaving.specs.Codes.{code, row}
use Rattle.interleaving.specs.Interleaving.{code_below, column_of_code, row_of_code}
use Rattle.location.specs.Levels.{side_of, pixels_of, side_is_power, pixels_are_power}
use Rattle.quadtree.specs.Raster.{place}
use Rattle.quadtree.specs.Orders.{place_in, place_of_code}
use Rattle.orbits.specs.Members.{In}
use Rattle.grid.specs.North.{side_small}
use Rattle.grid.specs.Outer.{LeastPixel}
use Rattle.components.specs.Numbers.{numbers, regions, north_of}
use Rattle.components.proofs.Numbered.{number-below-regions, regions_at_most_pixels}
use Rattle.steps.specs.Look.{mark_bit}
use Rattle.cycles.specs.Mapped.{nums_of, Marked, entry_of_pixel}
use Rattle.orbits.specs.Finding.{place_of}
use Rattle.surrounding.specs.SouthSides.{south_side}
use Rattle.surrounding.specs.Parents.{first_cycle, parent_of, least_of_lem, Northern, Parent, top, shared, own, parent_cases}
use Rattle.surrounding.specs.FirstCycles.{first_cycle_of_own_region}
use Rattle.parents.specs.RegionsSettled.{InFirstCycle, LeastAt}

module _ {n : ℕ} {work : List ℕ} {x y : ℕ} (a : LeastAt n work x y) where
  -- The region numbers, the region of the pixel and its parent.
  abbrev nums : List ℕ
  nums = numbers n a.settled.image

  abbrev s : ℕ
  s = get_or (nums_of n work) (code n x y) 0

  abbrev parent-here : ℕ
  parent-here = parent_of n (nums_of n work) s

  number-here : get_or nums (code n x y) 0 ≡ s
  number-here = ap (λ (m : List ℕ). get_or m (code n x y) 0) (sym a.settled.numbered)

  known : get_or (nums_of n work) (code n x y) 0 < regions n a.settled.image
  known = omega (arith, number-below-regions n a.settled.image (code n x y) (code_below n x y), number-here)

  as_numbers : parent_of n nums s ≡ parent-here
  as_numbers = ap (λ (m : List ℕ). parent_of n m s) (sym a.settled.numbered)

  pub placed : place_of (get_or (nums_of n work) (code n x y) 0) (numbers n a.settled.image) ≡ code n x y
  placed =
      let l = least_of_lem n a.settled.image s known in
      let p : LeastPixel n nums (code n x y) = subst (λ (m : List ℕ). LeastPixel n m (code n x y)) a.settled.numbered a.least in
      le_antisymm (l.0.least (code n x y) (code_below n x y) (number-here ∙ sym l.1)) (p.least (place_of s nums) l.0.inside (l.1 ∙ sym number-here))

  row_here : row n (place_of s nums) ≡ y
  row_here = ap (row n) placed ∙ row_of_code n x y a.y_inside

  north-here : north_of n (place_of s nums) ≡ code n x (y - 1)
  unfolding north_of
  north-here =
      ap (north_of n) placed ∙ ap₂ (λ (i j : ℕ). code n i (j - 1)) (column_of_code n x y a.x_inside) (row_of_code n x y a.y_inside)

  cases : Parent n a.settled.image a.settled.small s
  cases = parent_cases n a.settled.image a.settled.small s known

  pub parent_of_top : y ≡ 0 → 0 ≡ parent-here
  parent_of_top e = pick cases ∙ as_numbers
    where
      pick : Parent n a.settled.image a.settled.small s → 0 ≡ parent_of n nums s
      pick (top r q) = sym q
      pick (shared v i q) = absurd (omega (arith, v.below.lower, row_here))
      pick (own v i q) = absurd (omega (arith, v.below.lower, row_here))

  module _ (lower : y ≢ 0) where
    -- The entry of the pixel to the north.
    abbrev north : ℕ
    north = get_or work ((y - 1) * 2 ^ n + x) 0

    north-inside : y - 1 < 2 ^ n
    north-inside = omega (arith, a.y_inside)

    at_place : place n (code n x (y - 1)) ≡ (y - 1) * 2 ^ n + x
    at_place = place_of_code n x (y - 1) a.x_inside north-inside

    pub place-below : (y - 1) * 2 ^ n + x < 4 ^ n
    place-below = subst (λ (j : ℕ). j < 4 ^ n) at_place (place_in n (code n x (y - 1)))

    module _ (v : Northern n a.settled.image s) where
      region-north : suc v.region ≡ north % mark_bit
      region-north =
          ap suc (sym v.below.region ∙ ap (λ (q : ℕ). get_or nums q 0) north-here ∙ ap (λ (m : List ℕ). get_or m (code n x (y - 1)) 0) (sym a.settled.numbered))
          ∙ sym (entry_of_pixel n work x (y - 1) a.settled.mapped a.x_inside north-inside)

      -- A mark on the pixel says that the side between is in the first cycle of that region.
      marked_says : (mark_bit ≤ north) ↔ In (south_side n (north_of n (place_of s nums))) (first_cycle n nums v.region)
      unfolding Marked
      marked_says = (
        λ h. tell ((a.settled.marked (code n x (y - 1)) (code_below n x (y - 1))).0 (subst (λ (j : ℕ). mark_bit ≤ get_or work j 0) (sym at_place) h)),
        λ i. subst (λ (j : ℕ). mark_bit ≤ get_or work j 0) at_place ((a.settled.marked (code n x (y - 1)) (code_below n x (y - 1))).1 (record {
          region = v.region;
          smaller = v.smaller;
          holds = subst (λ (m : List ℕ). In (south_side n (code n x (y - 1))) (first_cycle n m v.region)) (sym a.settled.numbered)
              (subst (λ (q : ℕ). In (south_side n q) (first_cycle n nums v.region)) north-here i);
        })),
      )
        where
          tell : InFirstCycle n (nums_of n work) s (code n x (y - 1)) → In (south_side n (north_of n (place_of s nums))) (first_cycle n nums v.region)
          tell f =
              let i : In (south_side n (code n x (y - 1))) (first_cycle n nums f.region) =
              subst (λ (m : List ℕ). In (south_side n (code n x (y - 1))) (first_cycle n m f.region)) a.settled.numbered f.holds in
              let own_region : f.region ≡ v.region =
              first_cycle_of_own_region n a.settled.image a.settled.small f.region (code n x (y - 1)) (omega (arith, f.smaller, known)) (code_below n x (y - 1)) i
              ∙ sym (sym v.below.region ∙ ap (λ (q : ℕ). get_or nums q 0) north-here) in
              subst (λ (t : ℕ). In (south_side n (north_of n (place_of s nums))) (first_cycle n nums t)) own_region
              (subst (λ (q : ℕ). In (south_side n q) (first_cycle n nums f.region)) (sym north-here) i)

    -- Without a mark the region to the north is the parent.
    parent_unmarked : north < mark_bit → north ≡ parent-here
    parent_unmarked h = pick cases ∙ as_numbers
      where
        pick : Parent n a.settled.image a.settled.small s → north ≡ parent_of n nums s
        pick (top r q) = absurd (omega (arith, r, row_here))
        pick (shared v i q) = absurd (omega (arith, (marked_says v).1 i))
        pick (own v i q) = omega (arith, region-north v, q)

    -- With a mark it has the same parent.
    pub parent_marked_lem : mark_bit ≤ north → (0 < north % mark_bit) × (north % mark_bit ≤ 4 ^ n) × (get_or work (4 ^ n + north % mark_bit - 1) 0 ≡ parent-here)
    parent_marked_lem h = pick cases
      where
        few : regions n a.settled.image ≤ 4 ^ n
        few = regions_at_most_pixels n a.settled.image

        pick : Parent n a.settled.image a.settled.small s → (0 < north % mark_bit) × (north % mark_bit ≤ 4 ^ n) × (get_or work (4 ^ n + north % mark_bit - 1) 0 ≡ parent-here)
        pick (top r q) = absurd (omega (arith, r, row_here))
        pick (own v i q) = absurd (i ((marked_says v).0 h))
        pick (shared v i q) =
            let at : 4 ^ n + north % mark_bit - 1 ≡ 4 ^ n + v.region = omega (arith, region-north v) in (
              omega (arith, region-north v),
              omega (arith, region-north v, v.smaller, known, few),
              ap (λ (j : ℕ). get_or work j 0) at ∙ a.settled.parents v.region v.smaller
                  ∙ ap (λ (m : List ℕ). parent_of n m v.region) a.settled.numbered ∙ sym q ∙ as_numbers,
            )

  -- The same with the code's side and number of pixels.
  module _ {side whole : ℕ} (es : side ≡ side_of n) (ew : whole ≡ pixels_of n) (lower : y ≢ 0) where
    side_is : side ≡ 2 ^ n
    side_is = es ∙ side_is_power n (omega (arith, a.settled.small))

    whole_is : whole ≡ 4 ^ n
    whole_is = ew ∙ pixels_are_power n (omega (arith, a.settled.small))

    abbrev entry : ℕ
    entry = get_or work ((y - 1) * side + x) 0

    same_entry : get_or work ((y - 1) * 2 ^ n + x) 0 ≡ entry
    same_entry = ap (λ (w : ℕ). get_or work ((y - 1) * w + x) 0) (sym side_is)

    -- What the code's numbers keep below.
    pub record NorthBounds : Type 0 where
      pub above : 0 < y
      pub row_low : (y - 1) * side ≤ 65536
      pub place_low : (y - 1) * side + x < length work
      pub x_low : x < 256
      pub whole_low : whole ≤ 65536

    pub north_bounds : NorthBounds
    north_bounds =
        let w : 2 ^ n ≤ 256 = side_small n a.settled.small in
        let p : (y - 1) * side + x < 4 ^ n = subst (λ (b : ℕ). (y - 1) * b + x < 4 ^ n) (sym side_is) (place-below lower) in
        let m : 4 ^ n ≤ 65536 = pow4_mono a.settled.small in
        record {
          above = omega arith;
          row_low = omega (arith, p);
          place_low = omega (arith, p, a.settled.room);
          x_low = omega (arith, a.x_inside);
          whole_low = omega (arith, whole_is);
        }

    pub read_unmarked : entry < mark_bit → entry ≡ parent-here
    read_unmarked h = sym same_entry ∙ parent_unmarked lower (omega (arith, same_entry))

    -- The entry that holds the parent of the region to the north.
    pub record ParentOfNorth : Type 0 where
      pub above : 0 < whole + entry % mark_bit
      pub place_low : whole + entry % mark_bit - 1 < length work
      pub shared : get_or work (whole + entry % mark_bit - 1) 0 ≡ parent-here

    pub read_marked : mark_bit ≤ entry → ParentOfNorth
    read_marked h =
        let p = parent_marked_lem lower (omega (arith, same_entry)) in
        let t : entry % mark_bit ≡ get_or work ((y - 1) * 2 ^ n + x) 0 % mark_bit = ap (λ (v : ℕ). v % mark_bit) (sym same_entry) in
        record {
          above = omega (arith, t, p.0);
          place_low = omega (arith, t, p.0, p.1, whole_is, a.settled.room);
          shared = ap₂ (λ (u v : ℕ). get_or work (u + v - 1) 0) whole_is t ∙ p.2;
        }
