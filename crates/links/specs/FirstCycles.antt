-- The first cycles of the listing: what they add to the owner, end, corner and area lists, and that there is room for them.
use Rattle.std.specs.Prelude.{◌≡◌, take, drop, get_or, ℤ}
use Rattle.std.proofs.Math.Path.{refl, ap, ap₂}
use Rattle.std.proofs.Common.{sym, ◌∙◌, take-append-drop, length-drop, take-add, take_all}
use mathlib.Core.List.{List, [], ◌∷◌, ◌++◌, map, flat_map, append_assoc, append-nil}
use Prim.Native.Nat.{ℕ, zero, suc, ◌+◌, ◌-◌, ◌*◌, ◌^◌, ◌≤◌, ◌<◌}
use native.Mathlib.Omega.{arith}
use Rattle.std.proofs.Math.ListN.{length, length-append, length-map}
use Rattle.std.proofs.Math.Seq.{length-take-le}
use Rattle.sequences.specs.Ranges.{range, range-append}
use Rattle.lattice.specs.Walks.{outline, corners}
use Rattle.lattice.specs.Area.{area}
use Rattle.orbits.specs.Members.{In, in_first}
use Rattle.grid.specs.Cycles.{cycle}
use Rattle.grid.specs.Listing.{starts, start_codes, Cycle, cycle_at, listing, owners, ends_from, ends, all_corners, areas, corner_count}
use Rattle.grid.specs.Keeping.{in_starts, starts_fit}
use Rattle.grid.specs.Bounds.{corner-count_fits}
use Rattle.grid.specs.Stretches.{length-owners, length-ends, length-areas}
use Rattle.links.specs.Ahead.{all_starts}

-- ---- lists of cycles one after the other

pub owners-append : (xs ys : List Cycle) → owners (xs ++ ys) ≡ owners xs ++ owners ys
unfolding owners
owners-append [] ys = refl
owners-append (x ∷ xs) ys = ap (λ (l : List ℕ). x.region ∷ l) (owners-append xs ys)

pub corners-append : (xs ys : List Cycle) → all_corners (xs ++ ys) ≡ all_corners xs ++ all_corners ys
unfolding all_corners
corners-append [] ys = refl
corners-append (x ∷ xs) ys = ap (λ (l : List ℕ). x.points ++ l) (corners-append xs ys) ∙ sym (append_assoc x.points (all_corners xs) (all_corners ys))

pub areas-append : (xs ys : List Cycle) → areas (xs ++ ys) ≡ areas xs ++ areas ys
unfolding areas
areas-append [] ys = refl
areas-append (x ∷ xs) ys = ap (λ (l : List ℤ). area (outline x.points) ∷ l) (areas-append xs ys)

ends_from_append : (at : ℕ) (xs ys : List Cycle) → ends_from at (xs ++ ys) ≡ ends_from at xs ++ ends_from (at + length (all_corners xs)) ys
unfolding ends_from all_corners
ends_from_append at [] ys = let e : at ≡ at + 0 = omega arith in ap (λ (k : ℕ). ends_from k ys) e
ends_from_append at (x ∷ xs) ys =
    let e : at + length x.points + length (all_corners xs) ≡ at + length (x.points ++ all_corners xs) = omega (arith, length-append x.points (all_corners xs)) in
    ap (λ (l : List ℕ). (at + length x.points) ∷ l)
    (ends_from_append (at + length x.points) xs ys ∙ ap (λ (k : ℕ). ends_from (at + length x.points) xs ++ ends_from k ys) e)

pub ends-append : (xs ys : List Cycle) → ends (xs ++ ys) ≡ ends xs ++ ends_from (corner_count xs) ys
unfolding ends corner_count
ends-append xs ys =
    let e : 0 + length (all_corners xs) ≡ length (all_corners xs) = omega arith in
    ends_from_append 0 xs ys ∙ ap (λ (k : ℕ). ends_from 0 xs ++ ends_from k ys) e

map-append : (f : ℕ → Cycle) (xs ys : List ℕ) → map f (xs ++ ys) ≡ map f xs ++ map f ys
map-append f [] ys = refl
map-append f (x ∷ xs) ys = ap (λ (l : List Cycle). f x ∷ l) (map-append f xs ys)

-- ---- the first k cycles of all

unfoldable pub first_cycles : ℕ → List ℕ → ℕ → List Cycle
unfolding cycle_at all_starts
first_cycles n nums k = map (cycle_at n nums) (take k (all_starts n nums))

module _ (n : ℕ) (nums : List ℕ) where
  pub starts_few : length (all_starts n nums) ≤ 4 ^ n
  unfolding all_starts
  starts_few = starts_fit n nums (4 ^ n)

  pub length-first : (k : ℕ) → k ≤ length (all_starts n nums) → length (first_cycles n nums k) ≡ k
  unfolding first_cycles
  length-first k h = length-map (take k (all_starts n nums)) (cycle_at n nums) ∙ length-take-le k (all_starts n nums) h

  pub length-first-owners : (k : ℕ) → k ≤ length (all_starts n nums) → length (owners (first_cycles n nums k)) ≡ k
  length-first-owners k h = length-owners (first_cycles n nums k) ∙ length-first k h

  pub length-first-ends : (k : ℕ) → k ≤ length (all_starts n nums) → length (ends (first_cycles n nums k)) ≡ k
  length-first-ends k h = length-ends (first_cycles n nums k) ∙ length-first k h

  pub length-first-areas : (k : ℕ) → k ≤ length (all_starts n nums) → length (areas (first_cycles n nums k)) ≡ k
  length-first-areas k h = length-areas (first_cycles n nums k) ∙ length-first k h

  -- All of them.
  pub first_all : (k : ℕ) → length (all_starts n nums) ≤ k → first_cycles n nums k ≡ listing n nums (4 ^ n)
  unfolding first_cycles listing all_starts
  first_all k h = ap (map (cycle_at n nums)) (take_all k (all_starts n nums) h)

  -- The first ones take no more corners than all.
  all_in_two : (k : ℕ) → listing n nums (4 ^ n) ≡ first_cycles n nums k ++ map (cycle_at n nums) (drop k (all_starts n nums))
  unfolding first_cycles listing all_starts
  all_in_two k =
      ap (map (cycle_at n nums)) (sym (take-append-drop k (all_starts n nums)))
      ∙ map-append (cycle_at n nums) (take k (all_starts n nums)) (drop k (all_starts n nums))

  pub corners_room : n ≤ 8 → (k : ℕ) → corner_count (first_cycles n nums k) ≤ 4 * 4 ^ n
  unfolding corner_count
  corners_room small k =
      omega (
        arith,
        ap length (ap all_corners (all_in_two k) ∙ corners-append (first_cycles n nums k) (map (cycle_at n nums) (drop k (all_starts n nums)))),
        length-append (all_corners (first_cycles n nums k)) (all_corners (map (cycle_at n nums) (drop k (all_starts n nums)))),
        corner-count_fits n nums (4 ^ n) small,
      )

  pub count_grows : (j k : ℕ) → j ≤ k → corner_count (first_cycles n nums j) ≤ corner_count (first_cycles n nums k)
  unfolding corner_count first_cycles
  count_grows j k h =
      let more : List Cycle = map (cycle_at n nums) (take (k - j) (drop j (all_starts n nums))) in
      let e : k ≡ j + (k - j) = omega arith in
      let two : first_cycles n nums k ≡ first_cycles n nums j ++ more =
      ap (λ (i : ℕ). map (cycle_at n nums) (take i (all_starts n nums))) e
      ∙ ap (map (cycle_at n nums)) (take-add j (k - j) (all_starts n nums))
      ∙ map-append (cycle_at n nums) (take j (all_starts n nums)) (take (k - j) (drop j (all_starts n nums))) in
      omega (
        arith,
        ap length (ap all_corners two ∙ corners-append (first_cycles n nums j) more),
        length-append (all_corners (first_cycles n nums j)) (all_corners more),
      )

  -- One cycle more, which starts at the pixel c.
  module _ (k c : ℕ) (rest : List ℕ) (next : drop k (all_starts n nums) ≡ c ∷ rest) where
    pub some_left : k < length (all_starts n nums)
    some_left = omega (arith, ap length next, length-drop k (all_starts n nums))

    pub first-starts-more : take (k + 1) (all_starts n nums) ≡ take k (all_starts n nums) ++ (c ∷ [])
    first-starts-more = take-add k 1 (all_starts n nums) ∙ ap (λ (l : List ℕ). take k (all_starts n nums) ++ take 1 l) next

    first_more : first_cycles n nums (k + 1) ≡ first_cycles n nums k ++ (cycle_at n nums c ∷ [])
    unfolding first_cycles
    first_more = ap (map (cycle_at n nums)) first-starts-more ∙ map-append (cycle_at n nums) (take k (all_starts n nums)) (c ∷ [])

    pub owners-more : owners (first_cycles n nums (k + 1)) ≡ owners (first_cycles n nums k) ++ (get_or nums c 0 ∷ [])
    unfolding owners cycle_at
    owners-more = ap owners first_more ∙ owners-append (first_cycles n nums k) (cycle_at n nums c ∷ [])

    pub ends_more : ends (first_cycles n nums (k + 1))
        ≡ ends (first_cycles n nums k) ++ ((corner_count (first_cycles n nums k) + length (corners (cycle n nums c))) ∷ [])
    unfolding ends_from cycle_at
    ends_more = ap ends first_more ∙ ends-append (first_cycles n nums k) (cycle_at n nums c ∷ [])

    pub corners-more : all_corners (first_cycles n nums (k + 1)) ≡ all_corners (first_cycles n nums k) ++ corners (cycle n nums c)
    unfolding all_corners cycle_at
    corners-more =
        ap all_corners first_more ∙ corners-append (first_cycles n nums k) (cycle_at n nums c ∷ [])
        ∙ ap (λ (l : List ℕ). all_corners (first_cycles n nums k) ++ l) (append-nil (corners (cycle n nums c)))

    pub areas-more : areas (first_cycles n nums (k + 1)) ≡ areas (first_cycles n nums k) ++ (area (outline (corners (cycle n nums c))) ∷ [])
    unfolding areas cycle_at
    areas-more = ap areas first_more ∙ areas-append (first_cycles n nums k) (cycle_at n nums c ∷ [])

    pub count-more : corner_count (first_cycles n nums (k + 1)) ≡ corner_count (first_cycles n nums k) + length (corners (cycle n nums c))
    unfolding corner_count
    count-more = ap length corners-more ∙ length-append (all_corners (first_cycles n nums k)) (corners (cycle n nums c))

-- ---- all regions of an image

empty_list : (l : List ℕ) → ((a : ℕ) → ¬ In a l) → l ≡ []
empty_list [] h = refl
empty_list (x ∷ l) h = absurd (h x (in_first x l))

flat_append : (f : ℕ → List ℕ) (xs ys : List ℕ) → flat_map f (xs ++ ys) ≡ flat_map f xs ++ flat_map f ys
unfolding flat_map
flat_append f [] ys = refl
flat_append f (x ∷ xs) ys = ap (λ (l : List ℕ). f x ++ l) (flat_append f xs ys) ∙ sym (append_assoc (f x) (flat_map f xs) (flat_map f ys))

-- The starts of the regions from r on, k of them.
unfoldable pub starts_from : ℕ → List ℕ → ℕ → ℕ → List ℕ
unfolding flat_map starts range
starts_from n nums r k = flat_map (starts n nums) (range r k)

module _ (n : ℕ) (nums : List ℕ) where
  pub starts_from_more : (r k : ℕ) → starts_from n nums r (suc k) ≡ starts n nums r ++ starts_from n nums (suc r) k
  unfolding starts_from flat_map range
  starts_from_more r k = refl

  pub starts_from_split : (j k : ℕ) → start_codes n nums (j + k) ≡ start_codes n nums j ++ starts_from n nums j k
  unfolding start_codes starts_from
  starts_from_split j k =
      ap (flat_map (starts n nums)) (range-append 0 j k) ∙ flat_append (starts n nums) (range 0 j) (range (0 + j) k)
      ∙ (let e : 0 + j ≡ j = omega arith in ap (λ (i : ℕ). flat_map (starts n nums) (range 0 j) ++ flat_map (starts n nums) (range i k)) e)

  -- Regions that no pixel has add nothing.
  module _ (regions : ℕ) (known : (c : ℕ) → c < 4 ^ n → get_or nums c 0 < regions) where
    no_starts : (r : ℕ) → regions ≤ r → starts n nums r ≡ []
    no_starts r h = empty_list (starts n nums r) (λ a i. let w = (in_starts n nums r a).0 i in omega (arith, w.1, known a w.0))

    pub no_starts_from : (k r : ℕ) → regions ≤ r → starts_from n nums r k ≡ []
    unfolding starts_from flat_map range
    no_starts_from zero r h = refl
    no_starts_from (suc k) r h = ap₂ (λ (x y : List ℕ). x ++ y) (no_starts r h) (no_starts_from k (suc r) (omega arith))

    pub all_regions : regions ≤ 4 ^ n → listing n nums (4 ^ n) ≡ listing n nums regions
    unfolding listing
    all_regions few =
        let e : 4 ^ n ≡ regions + (4 ^ n - regions) = omega arith in
        ap (map (cycle_at n nums))
        (ap (start_codes n nums) e ∙ starts_from_split regions (4 ^ n - regions)
        ∙ ap (λ (l : List ℕ). start_codes n nums regions ++ l) (no_starts_from (4 ^ n - regions) regions (omega arith))
        ∙ append-nil (start_codes n nums regions))
