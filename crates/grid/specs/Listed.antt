-- What is listed: each side between a region and what is not that region, once, and all closed outlines of the rule of steps.
use Rattle.std.specs.Prelude.{◌≡◌, ◌≢◌, ◌⊎◌, ◌↔◌}
use Rattle.std.proofs.Math.Path.{refl, sym, subst}
use Rattle.std.proofs.Common.{ap, ◌∙◌, subst₂}
use mathlib.Core.List.{List, [], ◌∷◌, map}
use Prim.Native.Nat.{ℕ, zero, suc, ◌^◌, ◌≤◌, ◌<◌}
use native.Mathlib.Omega.{arith}
use Rattle.std.proofs.Math.ListN.{length, get_or, length-map}
use Rattle.interleaving.specs.Codes.{code}
use Rattle.lattice.specs.Walks.{outline, corners}
use Rattle.orbits.specs.Members.{In, Distinct, one_place}
use Rattle.grid.specs.Map.{region_at}
use Rattle.grid.specs.Margins.{region-inside}
use Rattle.grid.specs.Steps.{Edge}
use Rattle.grid.specs.Cycles.{cycle_from, north_side, cycle}
use Rattle.grid.specs.Listing.{start_codes, Cycle, cycle_at, listing, owners, points_at}
use Rattle.grid.specs.Sides.{side_at, beyond, side_is_edge}
use Rattle.grid.specs.North.{side_small}
use Rattle.grid.specs.Returning.{Ring, ring, same_cycle}
use Rattle.grid.specs.Starting.{StartAt, Started, margin, start_says, says_start, some_start, one_start}
use Rattle.grid.specs.Closing.{sides_of_corners}
use Rattle.grid.specs.Keeping.{in_start_codes, in_order, start-codes_distinct}

-- The listing, cycle by cycle.
module _ (n : ℕ) (nums : List ℕ) where
  owner-map : (cs : List ℕ) (k : ℕ) → k < length cs → get_or (owners (map (cycle_at n nums) cs)) k 0 ≡ get_or nums (get_or cs k 0) 0
  unfolding owners cycle_at
  owner-map [] k h = let z : ⊥ = omega arith in absurd z
  owner-map (c ∷ cs) zero h = refl
  owner-map (c ∷ cs) (suc k) h = owner-map cs k (omega arith)

  points_map : (cs : List ℕ) (k : ℕ) → k < length cs → points_at (map (cycle_at n nums) cs) k ≡ corners (cycle n nums (get_or cs k 0))
  unfolding points_at cycle_at
  points_map [] k h = let z : ⊥ = omega arith in absurd z
  points_map (c ∷ cs) zero h = refl
  points_map (c ∷ cs) (suc k) h = points_map cs k (omega arith)

  pub listing-length : (regions : ℕ) → length (listing n nums regions) ≡ length (start_codes n nums regions)
  unfolding listing
  listing-length regions = length-map (start_codes n nums regions) (cycle_at n nums)

  pub owner_at : (regions k : ℕ) → k < length (start_codes n nums regions) → get_or (owners (listing n nums regions)) k 0 ≡ get_or nums (get_or (start_codes n nums regions) k 0) 0
  unfolding listing
  owner_at regions k h = owner-map (start_codes n nums regions) k h

  pub points_at_lem : (regions k : ℕ) → k < length (start_codes n nums regions) → points_at (listing n nums regions) k ≡ corners (cycle n nums (get_or (start_codes n nums regions) k 0))
  unfolding listing
  points_at_lem regions k h = points_map (start_codes n nums regions) k h

-- The side e stands in exactly one outline of the list, at one place, and that outline is one of the region r.
pub record OnceIn (l : List Cycle) (r e : ℕ) : Type 0 where
  pub cycle : ℕ
  pub listed : cycle < length l
  pub owner : get_or (owners l) cycle 0 ≡ r
  pub place : ℕ
  pub inside : place < length (outline (points_at l cycle))
  pub side : get_or (outline (points_at l cycle)) place 0 ≡ e
  pub only : (k i : ℕ) → k < length l → i < length (outline (points_at l k)) → get_or (outline (points_at l k)) i 0 ≡ e → (k ≡ cycle) × (i ≡ place)

-- "Each unit side between a region and what is not that region stands in exactly one of that region's listed outlines, once, with
-- the region on the right, and nothing else stands in them."
pub record SidesOnce (m : ℕ → ℕ → ℕ) (l : List Cycle) : Type 0 where
  pub once : (r e : ℕ) → Edge m (suc r) e → OnceIn l r e
  pub nothing_else : (k i : ℕ) → k < length l → i < length (outline (points_at l k)) → Edge m (suc (get_or (owners l) k 0)) (get_or (outline (points_at l k)) i 0)

-- All closed outlines of the rule of steps stand in the list: each edge's cycle, no two with an edge in common, each from its
-- start, by region number and then by the code of the start pixel.
pub record OutlinesListed (n : ℕ) (nums : List ℕ) (l : List Cycle) (codes : List ℕ) : Type 0 where
  pub one_start_each : length l ≡ length codes
  pub each_outline : (r e : ℕ) → Edge (region_at n nums) (suc r) e
      → (k : ℕ) × (k < length l) × (get_or (owners l) k 0 ≡ r) × ((a : ℕ) → In a (cycle_from (region_at n nums) e) ↔ In a (outline (points_at l k)))
  pub each_once : (j k : ℕ) → j < k → k < length l → (a : ℕ) → In a (outline (points_at l j)) → In a (outline (points_at l k)) → ⊥
  pub starts : (k : ℕ) → k < length l → StartAt n nums (get_or codes k 0)
  pub from_start : (k : ℕ) → k < length l → points_at l k ≡ corners (cycle n nums (get_or codes k 0))
  pub owner : (k : ℕ) → k < length l → get_or (owners l) k 0 ≡ get_or nums (get_or codes k 0) 0
  pub in_order : (j k : ℕ) → j < k → k < length l
      → (get_or (owners l) j 0 < get_or (owners l) k 0) ⊎ ((get_or (owners l) j 0 ≡ get_or (owners l) k 0) × (get_or codes j 0 < get_or codes k 0))

module _ (n : ℕ) (nums : List ℕ) (regions : ℕ) (small : n ≤ 8) where
  abbrev m : ℕ → ℕ → ℕ
  m = region_at n nums

  abbrev l : List Cycle
  l = listing n nums regions

  -- The code of the start pixel of the cycle k.
  abbrev start : ℕ → ℕ
  start k = get_or (start_codes n nums regions) k 0

  abbrev owner : ℕ → ℕ
  owner k = get_or (owners (listing n nums regions)) k 0

  abbrev sides : ℕ → List ℕ
  sides k = outline (points_at (listing n nums regions) k)

  below : (k : ℕ) → k < length l → k < length (start_codes n nums regions)
  below k h = omega (arith, listing-length n nums regions)

  pub listed_start : (c : ℕ) → In c (start_codes n nums regions) → StartAt n nums c
  listed_start c i = let h = (in_start_codes n nums regions c).0 i in start_says n nums small c h.0 h.2

  pub start_at : (k : ℕ) → k < length l → StartAt n nums (start k)
  start_at k h = listed_start (start k) (k, below k h, refl)

  -- The sides of the outline k are the edges of the cycle from its start.
  pub outline_at : (k : ℕ) → k < length l → sides k ≡ cycle n nums (start k)
  outline_at k h = ap outline (points_at_lem n nums regions k (below k h)) ∙ sides_of_corners n nums small (start k) (start_at k h)

  pub ring_at : (k : ℕ) → k < length l → Ring m (suc (get_or nums (start k) 0)) (north_side n (start k))
  ring_at k h = ring m (margin n nums small) (suc (get_or nums (start k) 0)) (north_side n (start k)) (start_at k h).north

  -- Two listed outlines with an edge in common are one.
  pub same_listed : (j k a : ℕ) → j < length l → k < length l → In a (sides j) → In a (sides k) → j ≡ k
  same_listed j k a h g x y =
      one_place (start_codes n nums regions) (start-codes_distinct n nums regions) j k (below j h) (below k g)
      (one_start n nums small (start j) (start k) a (start_at j h) (start_at k g)
      (subst (In a) (outline_at j h) x) (subst (In a) (outline_at k g) y))

  -- Nothing else than edges of the owner stands in an outline.
  edge_at : (k i : ℕ) → k < length l → i < length (sides k) → Edge m (suc (owner k)) (get_or (sides k) i 0)
  unfolding cycle
  edge_at k i h b =
      subst (λ r. Edge m (suc r) (get_or (sides k) i 0)) (sym (owner_at n nums regions k (below k h)))
      ((ring_at k h).edges (get_or (sides k) i 0) (subst (In (get_or (sides k) i 0)) (outline_at k h) (i, b, refl)))

  pub order_at : (j k : ℕ) → j < k → k < length l → (owner j < owner k) ⊎ ((owner j ≡ owner k) × (start j < start k))
  order_at j k h g =
      subst₂ (λ a b. (a < b) ⊎ ((a ≡ b) × (start j < start k)))
      (sym (owner_at n nums regions j (omega (arith, below k g)))) (sym (owner_at n nums regions k (below k g)))
      (in_order n nums regions j k h (below k g))

  -- Every number of the image is that of a listed region.
  module _ (known : (c : ℕ) → c < 4 ^ n → get_or nums c 0 < regions) where
    -- The listed cycle through an edge.
    pub record CycleThrough (r e : ℕ) : Type 0 where
      pub cycle-number : ℕ
      pub listed : cycle-number < length l
      pub owned : get_or nums (start cycle-number) 0 ≡ r
      pub stands : In e (cycle n nums (start cycle-number))

    pub find : (r e : ℕ) → Edge m (suc r) e → CycleThrough r e
    find r e h =
        let s : Started n nums small (suc r) e = some_start n nums small (suc r) e h in
        let c : ℕ = s.start in
        let i : In c (start_codes n nums regions) =
        (in_start_codes n nums regions c).1 (s.starts.inside, known c s.starts.inside, says_start n nums small c s.starts) in
        record {
          cycle-number = i.0;
          listed = omega (arith, listing-length n nums regions, i.1);
          owned = ap (λ x. get_or nums x 0) i.2 ∙ omega (arith, s.number);
          stands = subst (λ x. In e (cycle n nums x)) (sym i.2) s.on_cycle;
        }

    once_in : (r e : ℕ) → Edge m (suc r) e → OnceIn l r e
    unfolding cycle
    once_in r e h = from (find r e h)
      where
        from : CycleThrough r e → OnceIn l r e
        from f =
            let k : ℕ = f.cycle-number in
            let o : sides k ≡ cycle n nums (start k) = outline_at k f.listed in
            let s : In e (sides k) = subst (In e) (sym o) f.stands in
            let d : Distinct (sides k) = subst Distinct (sym o) (ring_at k f.listed).once in
            record {
              cycle = k;
              listed = f.listed;
              owner = owner_at n nums regions k (below k f.listed) ∙ f.owned;
              place = s.0;
              inside = s.1;
              side = s.2;
              only = λ j i g b q.
                  let same : j ≡ k = same_listed j k e g f.listed (i, b, q) s in
                  (same, one_place (sides k) d i s.0 (subst (λ x. i < length (sides x)) same b) s.1 (subst (λ x. get_or (sides x) i 0 ≡ e) same q ∙ sym s.2));
            }

    pub each_side_once : SidesOnce m l
    each_side_once = record { once = once_in; nothing_else = edge_at }

    -- In document 01's words: the side of a pixel beyond which lies another region or the outside.
    pub pixel_side_once : (x y d : ℕ) → x < 2 ^ n → y < 2 ^ n → d < 4 → beyond m x y d ≢ m (suc x) (suc y) → OnceIn l (get_or nums (code n x y) 0) (side_at x y d)
    pixel_side_once x y d a b h other =
        let here : m (suc x) (suc y) ≡ suc (get_or nums (code n x y) 0) = region-inside n nums x y a b in
        once_in (get_or nums (code n x y) 0) (side_at x y d)
        ((side_is_edge m (suc (get_or nums (code n x y) 0)) x y d (omega (arith, side_small n small)) h (omega arith) here).1 (λ e. other (e ∙ sym here)))

    outline_of : (r e : ℕ) → Edge m (suc r) e
        → (k : ℕ) × (k < length l) × (owner k ≡ r) × ((a : ℕ) → In a (cycle_from m e) ↔ In a (sides k))
    unfolding cycle
    outline_of r e h = from (find r e h)
      where
        from : CycleThrough r e → (k : ℕ) × (k < length l) × (owner k ≡ r) × ((a : ℕ) → In a (cycle_from m e) ↔ In a (sides k))
        from f =
            let k : ℕ = f.cycle-number in
            let c : ℕ = start k in
            let o : sides k ≡ cycle n nums c = outline_at k f.listed in
            let same : (a : ℕ) → In a (cycle n nums c) ↔ In a (cycle_from m e) =
            same_cycle m (margin n nums small) (suc (get_or nums c 0)) (north_side n c) e (start_at k f.listed).north f.stands in (
              k,
              f.listed,
              owner_at n nums regions k (below k f.listed) ∙ f.owned,
              λ a. (λ x. subst (In a) (sym o) ((same a).1 x), λ x. (same a).0 (subst (In a) o x)),
            )

    pub all_outlines_listed : OutlinesListed n nums l (start_codes n nums regions)
    all_outlines_listed = record {
      one_start_each = listing-length n nums regions;
      each_outline = outline_of;
      each_once = λ j k h g a x y. let e : j ≡ k = same_listed j k a (omega arith) g x y in omega arith;
      starts = start_at;
      from_start = λ k h. points_at_lem n nums regions k (below k h);
      owner = λ k h. owner_at n nums regions k (below k h);
      in_order = order_at;
    }
