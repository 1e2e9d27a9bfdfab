-- The first cycle of a region is its outer one: it starts at the north side of the region's least pixel.
use Rattle.std.specs.Prelude.{◌≡◌, refl, ◌≢◌, ◌⊎◌, length}
use Rattle.std.proofs.Math.Path.{sym, ap}
use Rattle.std.proofs.Common.{◌∙◌, subst, inl, inr}
use mathlib.Core.List.{List}
use Prim.Native.Nat.{ℕ, zero, suc, ◌^◌, ◌≤◌, ◌<◌}
use Rattle.std.proofs.Math.Decide.{ℕ_discrete, dec_lt}
use native.Mathlib.Omega.{arith}
use Rattle.std.proofs.Math.ListN.{get_or}
use Rattle.interleaving.specs.Codes.{code, column, row}
use Rattle.interleaving.specs.Interleaving.{code_grows_in_y, column-below, row_below, code_of_coordinates}
use Rattle.lattice.specs.Walks.{outline}
use Rattle.orbits.specs.Pigeon.{Least, the_least}
use Rattle.orbits.specs.Members.{In}
use Rattle.grid.specs.Map.{region_at}
use Rattle.grid.specs.Margins.{region-inside}
use Rattle.grid.specs.Steps.{Edge}
use Rattle.grid.specs.Cycles.{north_side, cycle, code_right}
use Rattle.grid.specs.Listing.{start_codes, Cycle, listing, owners, points_at}
use Rattle.grid.specs.Returning.{ring}
use Rattle.grid.specs.North.{corner-north, north-edge, Eastward, eastward}
use Rattle.grid.specs.Starting.{StartAt, margin, says_start}
use Rattle.grid.specs.Closing.{cycle-first}
use Rattle.grid.specs.Keeping.{in_start_codes}
use Rattle.grid.specs.Listed.{listing-length, owner_at, start_at, outline_at, order_at}

-- The pixel with the code c is the one with the least code of its region.
pub record LeastPixel (n : ℕ) (nums : List ℕ) (c : ℕ) : Type 0 where
  pub inside : c < 4 ^ n
  pub least : (d : ℕ) → d < 4 ^ n → get_or nums d 0 ≡ get_or nums c 0 → c ≤ d

pub least_pixel : (n : ℕ) (nums : List ℕ) (d : ℕ) → d < 4 ^ n → (c : ℕ) × (get_or nums c 0 ≡ get_or nums d 0) × LeastPixel n nums c
least_pixel n nums d h =
    let w : Least (λ c. get_or nums c 0 ≡ get_or nums d 0) (suc d) = the_least (λ c. get_or nums c 0 ≡ get_or nums d 0) (λ c. ℕ_discrete (get_or nums c 0) (get_or nums d 0)) d refl in (
      w.i,
      w.holds,
      record {
        inside = omega (arith, w.below);
        least = λ b l e. elim (dec_lt b w.i) [
          | yes s ↦ absurd (w.least b s (e ∙ w.holds))
          | no s ↦ omega arith
        ];
      },
    )

module _ (n : ℕ) (nums : List ℕ) where
  -- No pixel straight north of that one up to the image's edge is in the region.
  pub nothing-north : (c : ℕ) → LeastPixel n nums c → (y : ℕ) → y < row n c → get_or nums (code n (column n c) y) 0 ≢ get_or nums c 0
  nothing-north c p y h e =
      let less : code n (column n c) y < c =
      subst (λ z. code n (column n c) y < z) (code_of_coordinates n c p.inside) (code_grows_in_y n (column n c) y (row n c) h (row_below n c)) in
      absurd (omega (arith, p.least (code n (column n c) y) (omega (arith, p.inside)) e))

  pub north_apart : (c : ℕ) → LeastPixel n nums c → (Y : ℕ) → Y ≤ row n c → region_at n nums (suc (column n c)) Y ≢ suc (get_or nums c 0)
  unfolding region_at
  north_apart c p zero q e = let z : ⊥ = omega arith in absurd z
  north_apart c p (suc y) q e =
      let at : region_at n nums (suc (column n c)) (suc y) ≡ suc (get_or nums (code n (column n c) y) 0) =
      region-inside n nums (column n c) y (column-below n c) (omega (arith, row_below n c)) in
      nothing-north c p y (omega arith) (omega (arith, at, e))

module _ (n : ℕ) (nums : List ℕ) (small : n ≤ 8) where
  -- A cycle starts at the least pixel of a region.
  pub least_starts : (c : ℕ) → LeastPixel n nums c → StartAt n nums c
  unfolding cycle
  least_starts c p =
      let north : Edge (region_at n nums) (suc (get_or nums c 0)) (north_side n c) =
      (north-edge n nums small c p.inside).1 (λ e. north_apart n nums c p (row n c) (omega arith) (sym (corner-north n nums small c) ∙ e)) in
      record {
        inside = p.inside;
        north = north;
        least = λ a i z.
            let w : Eastward n nums small (suc (get_or nums c 0)) a =
            eastward n nums small (suc (get_or nums c 0)) a ((ring (region_at n nums) (margin n nums small) (suc (get_or nums c 0)) (north_side n c) north).edges a i) z in
            p.least (code_right n a) w.below (omega (arith, w.number));
      }

-- The cycle k of a list is the outer one of its owner: c is the least pixel of the owner, the outline begins with
-- its north side, and no pixel straight north of it is in the region.
pub record OuterAt (n : ℕ) (nums : List ℕ) (l : List Cycle) (k c : ℕ) : Type 0 where
  pub in_region : get_or nums c 0 ≡ get_or (owners l) k 0
  pub the_least : LeastPixel n nums c
  pub holds-north_side : get_or (outline (points_at l k)) 0 0 ≡ north_side n c
  pub north_not_in_region : (y : ℕ) → y < row n c → get_or nums (code n (column n c) y) 0 ≢ get_or (owners l) k 0

module _ (n : ℕ) (nums : List ℕ) (regions : ℕ) (small : n ≤ 8) where
  abbrev l : List Cycle
  l = listing n nums regions

  abbrev codes : List ℕ
  codes = start_codes n nums regions

  abbrev owner : ℕ → ℕ
  owner k = get_or (owners (listing n nums regions)) k 0

  abbrev start : ℕ → ℕ
  start k = get_or (start_codes n nums regions) k 0

  below : (k : ℕ) → k < length l → k < length codes
  below k h = omega (arith, listing-length n nums regions)

  -- Where the least pixel of a listed region stands among the starts.
  place : (c : ℕ) → LeastPixel n nums c → get_or nums c 0 < regions → In c codes
  place c p h = (in_start_codes n nums regions c).1 (p.inside, h, says_start n nums small c (least_starts n nums small c p))

  -- No cycle before it has its region.
  pub first_of_region : (c : ℕ) → LeastPixel n nums c → (k : ℕ) → k < length l → start k ≡ c → (j : ℕ) → j < k → owner j ≢ owner k
  first_of_region c p k h s j g e =
      let a : StartAt n nums (start j) = start_at n nums regions small j (omega arith) in
      let oj : owner j ≡ get_or nums (start j) 0 = owner_at n nums regions j (omega (arith, below k h)) in
      let ok : owner k ≡ get_or nums (start k) 0 = owner_at n nums regions k (below k h) in
      let le : c ≤ start j = p.least (start j) a.inside (sym oj ∙ e ∙ ok ∙ ap (λ x. get_or nums x 0) s) in
      pick (order_at n nums regions small j k g h) le
    where
      pick : (owner j < owner k) ⊎ ((owner j ≡ owner k) × (start j < start k)) → c ≤ start j → ⊥
      pick (inl x) le = omega arith
      pick (inr (x, y)) le = omega arith

  -- The first cycle of a region starts at its least pixel.
  pub first-starts_least : (k : ℕ) → k < length l → ((j : ℕ) → j < k → owner j ≢ owner k) → LeastPixel n nums (start k)
  first-starts_least k h first = from (least_pixel n nums (start k) (start_at n nums regions small k h).inside)
    where
      known : get_or nums (start k) 0 < regions
      known = ((in_start_codes n nums regions (start k)).0 (k, below k h, refl)).1

      same : (c : ℕ) → get_or nums c 0 ≡ get_or nums (start k) 0 → LeastPixel n nums c → In c codes → c ≡ start k
      same c e p (i, b, q) =
          let oi : owner i ≡ owner k = owner_at n nums regions i b ∙ ap (λ x. get_or nums x 0) q ∙ e ∙ sym (owner_at n nums regions k (below k h)) in
          let li : i < length l = omega (arith, listing-length n nums regions) in
          elim (dec_lt i k) [
            | yes g ↦ absurd (first i g oi)
            | no g ↦ elim (dec_lt k i) [
              | yes f ↦ absurd (first_of_region c p i li q k f (sym oi))
              | no f ↦ let z : i ≡ k = omega arith in sym q ∙ ap start z
            ]
          ]

      from : (c : ℕ) × (get_or nums c 0 ≡ get_or nums (start k) 0) × LeastPixel n nums c → LeastPixel n nums (start k)
      from (c, e, p) = subst (LeastPixel n nums) (same c e p (place c p (omega (arith, known)))) p

  -- "The first of a region is its outer one" (document 01, "Outlines").
  pub first_is_outer : (k : ℕ) → k < length l → ((j : ℕ) → j < k → owner j ≢ owner k) → OuterAt n nums l k (start k)
  unfolding cycle
  first_is_outer k h first =
      let p : LeastPixel n nums (start k) = first-starts_least k h first in
      let o : get_or nums (start k) 0 ≡ owner k = sym (owner_at n nums regions k (below k h)) in
      record {
        in_region = o;
        the_least = p;
        holds-north_side = ap (λ (x : List ℕ). get_or x 0 0) (outline_at n nums regions small k h ∙ cycle-first (region_at n nums) (north_side n (start k)));
        north_not_in_region = λ y g e. nothing-north n nums (start k) p y g (e ∙ sym o);
      }

  -- Every region of the image has a first cycle.
  pub region_has_first : (d : ℕ) → d < 4 ^ n → get_or nums d 0 < regions → (k : ℕ) × (k < length l) × (owner k ≡ get_or nums d 0) × ((j : ℕ) → j < k → owner j ≢ owner k)
  region_has_first d h g = from (least_pixel n nums d h)
    where
      from : (c : ℕ) × (get_or nums c 0 ≡ get_or nums d 0) × LeastPixel n nums c
          → (k : ℕ) × (k < length l) × (owner k ≡ get_or nums d 0) × ((j : ℕ) → j < k → owner j ≢ owner k)
      from (c, e, p) =
          let i : In c codes = place c p (omega arith) in
          let b : i.0 < length l = omega (arith, listing-length n nums regions, i.1) in
          (i.0, b, owner_at n nums regions i.0 i.1 ∙ ap (λ x. get_or nums x 0) i.2 ∙ e, first_of_region c p i.0 b i.2)
