-- The candidate of an image's outlines is that image: each northward edge stands in one listed outline, whose owner is on its right, and
-- where there is none the west neighbour is in the same region.
use Rattle.std.specs.Prelude.{◌≡◌, Bool, true, false, List, [], ◌∷◌, length}
use Rattle.std.proofs.Math.Path.{refl, sym, ap}
use Rattle.std.proofs.Common.{◌∙◌, arith}
use Rattle.std.proofs.lemmas.Bool.{false≢true}
use Prim.Native.Nat.{ℕ, zero, suc, ◌-◌, ◌^◌, ◌≤◌, ◌<◌}
use Rattle.std.proofs.Math.Decide.{ℕ_discrete}
use Rattle.std.proofs.Math.ListN.{get_or}
use Rattle.sequences.specs.Cases.{when, first_none, first_some}
use Rattle.sequences.specs.Ranges.{tabulate_from}
use Rattle.interleaving.specs.Codes.{code, column, row}
use Rattle.interleaving.specs.Interleaving.{column-below, row_below}
use Rattle.lattice.specs.Directions.{tail, digit}
use Rattle.lattice.specs.Walks.{outline}
use Rattle.orbits.specs.Members.{In}
use Rattle.orbits.specs.Finding.{member, member_in, member_says}
use Rattle.components.specs.Numbers.{numbers, regions}
use Rattle.components.proofs.Numbered.{length-numbers, number-below-regions}
use Rattle.grid.specs.Map.{region_at, around}
use Rattle.grid.specs.Margins.{region-inside, region_of_code}
use Rattle.grid.specs.Steps.{Edge}
use Rattle.grid.specs.Listing.{Cycle, owners, points_at}
use Rattle.grid.specs.Listed.{OnceIn, SidesOnce, each_side_once}
use Rattle.grid.specs.North.{side_small}
use Rattle.grid.specs.Sides.{side_at, beyond, Parts, side_parts, side_is_edge}
use Rattle.links.specs.Image.{image_outlines}
use Rattle.given_outlines.specs.Given.{Outlines, HasOutlines, coloured, cycles_of, cycles_are_outlines}
use Rattle.given_outlines.specs.Candidate.{owner_of, region_from, numbers_from, candidate}

-- ---- the test for an owner in words

owner-first : (c : Cycle) (cs : List Cycle) (e : ℕ) → owner_of cs e ≡ 0 → member e (outline c.points) ≡ true → owner_of (c ∷ cs) e ≡ suc c.region
unfolding owner_of when
owner-first c cs e a b = first_none (owner_of cs e) _ a ∙ ap (λ (t : Bool). when t (suc c.region)) b

owner_neither : (c : Cycle) (cs : List Cycle) (e : ℕ) → owner_of cs e ≡ 0 → member e (outline c.points) ≡ false → owner_of (c ∷ cs) e ≡ 0
unfolding owner_of when
owner_neither c cs e a b = first_none (owner_of cs e) _ a ∙ ap (λ (t : Bool). when t (suc c.region)) b

owner_later : (c : Cycle) (cs : List Cycle) (e : ℕ) → 0 < owner_of cs e → owner_of (c ∷ cs) e ≡ owner_of cs e
unfolding owner_of
owner_later c cs e a = first_some (owner_of cs e) _ a

-- What the test for an owner found, and what it did not find.
pub owner_found : (l : List Cycle) (e v : ℕ) → owner_of l e ≡ suc v → (k : ℕ) × (k < length l) × (get_or (owners l) k 0 ≡ v) × In e (outline (points_at l k))
unfolding owner_of owners points_at
owner_found [] e v h = absurd (omega arith)
owner_found (c ∷ cs) e v h = pick (owner_of cs e) refl (member e (outline c.points)) refl (owner_found cs e v)
  where
    more : (k : ℕ) × (k < length cs) × (get_or (owners cs) k 0 ≡ v) × In e (outline (points_at cs k))
        → (k : ℕ) × (k < length (c ∷ cs)) × (get_or (owners (c ∷ cs)) k 0 ≡ v) × In e (outline (points_at (c ∷ cs) k))
    more (k, a, b, i) = (suc k, omega arith, b, i)

    pick : (o : ℕ) → owner_of cs e ≡ o → (t : Bool) → member e (outline c.points) ≡ t
        → (owner_of cs e ≡ suc v → (k : ℕ) × (k < length cs) × (get_or (owners cs) k 0 ≡ v) × In e (outline (points_at cs k)))
        → (k : ℕ) × (k < length (c ∷ cs)) × (get_or (owners (c ∷ cs)) k 0 ≡ v) × In e (outline (points_at (c ∷ cs) k))
    pick zero a true b ih =
        (0, omega arith, omega (arith, sym (owner-first c cs e a b) ∙ h), member_says e (outline c.points) b)
    pick zero a false b ih = absurd (omega (arith, sym (owner_neither c cs e a b) ∙ h))
    pick (suc w) a t b ih = more (ih (sym (owner_later c cs e (omega arith)) ∙ h))

pub owner_none : (l : List Cycle) (e : ℕ) → owner_of l e ≡ 0 → (k : ℕ) → k < length l → In e (outline (points_at l k)) → ⊥
unfolding points_at
owner_none [] e h k a i = let z : ⊥ = omega arith in z
owner_none (c ∷ cs) e h k a i = pick k a i (owner_of cs e) refl (member e (outline c.points)) refl (owner_none cs e)
  where
    pick : (k : ℕ) → k < length (c ∷ cs) → In e (outline (points_at (c ∷ cs) k)) → (o : ℕ) → owner_of cs e ≡ o → (t : Bool) → member e (outline c.points) ≡ t
        → (owner_of cs e ≡ 0 → (j : ℕ) → j < length cs → In e (outline (points_at cs j)) → ⊥) → ⊥
    pick k a i zero o true b ih = let z : ⊥ = omega (arith, sym (owner-first c cs e o b) ∙ h) in z
    pick zero a i zero o false b ih = false≢true (sym b ∙ member_in e (outline c.points) i)
    pick (suc k) a i zero o false b ih = ih o k (omega arith) i
    pick k a i (suc w) o t b ih = let z : ⊥ = omega (arith, sym (owner_later c cs e (omega arith)) ∙ h) in z

-- ---- cycles in which each side stands once tell the region of each pixel

module _ (n : ℕ) (nums : List ℕ) (small : n ≤ 8) (l : List Cycle) (sides : SidesOnce (region_at n nums) l) where
  abbrev m : ℕ → ℕ → ℕ
  m = region_at n nums

  -- The owner of a pixel's west side has the pixel on its right.
  owner_on_right : (x y v : ℕ) → x < 2 ^ n → owner_of l (side_at x y 1) ≡ suc v → m (suc x) (suc y) ≡ suc v
  owner_on_right x y v a h = from (owner_found l (side_at x y 1) v h)
    where
      p : Parts m x y 1
      p = side_parts m x y 1 (omega (arith, side_small n small)) (omega arith)

      from : (k : ℕ) × (k < length l) × (get_or (owners l) k 0 ≡ v) × In (side_at x y 1) (outline (points_at l k)) → m (suc x) (suc y) ≡ suc v
      from (k, b, o, (i, c, s)) =
          let e : Edge m (suc (get_or (owners l) k 0)) (get_or (outline (points_at l k)) i 0) = sides.nothing_else k i b c in
          sym p.here
          ∙ ap (around m (tail (side_at x y 1))) (sym p.direction)
          ∙ ap (λ f. around m (tail f) (digit f)) (sym s)
          ∙ e.side.on_right
          ∙ ap suc o

  -- A pixel whose west side has no owner is in one region with its west neighbour.
  no_owner_alike : (x y : ℕ) → x < 2 ^ n → y < 2 ^ n → owner_of l (side_at x y 1) ≡ 0 → m x (suc y) ≡ m (suc x) (suc y)
  unfolding beyond
  no_owner_alike x y a b h = pick (ℕ_discrete (m x (suc y)) (m (suc x) (suc y)))
    where
      r : ℕ
      r = get_or nums (code n x y) 0

      here : m (suc x) (suc y) ≡ suc r
      here = region-inside n nums x y a b

      from : OnceIn l r (side_at x y 1) → m x (suc y) ≡ m (suc x) (suc y)
      from o = absurd (owner_none l (side_at x y 1) h o.cycle o.listed (o.place, o.inside, o.side))

      pick : Dec (m x (suc y) ≡ m (suc x) (suc y)) → m x (suc y) ≡ m (suc x) (suc y)
      pick (yes e) = e
      pick (no d) =
          from (sides.once r (side_at x y 1)
          ((side_is_edge m (suc r) x y 1 (omega (arith, side_small n small)) (omega arith) (omega arith) here).1 (λ e. d (e ∙ sym here))))

  pub region_from_edges : (x y : ℕ) → x < 2 ^ n → y < 2 ^ n → region_from l y x ≡ m (suc x) (suc y)
  unfolding region_from region_at
  region_from_edges zero y a b = pick (owner_of l (side_at 0 y 1)) refl
    where
      pick : (o : ℕ) → owner_of l (side_at 0 y 1) ≡ o → region_from l y 0 ≡ m 1 (suc y)
      pick zero h = absurd (omega (arith, no_owner_alike 0 y a b h, region-inside n nums 0 y a b))
      pick (suc v) h = h ∙ sym (owner_on_right 0 y v a h)
  region_from_edges (suc x) y a b = pick (owner_of l (side_at (suc x) y 1)) refl (region_from_edges x y (omega arith) b)
    where
      pick : (o : ℕ) → owner_of l (side_at (suc x) y 1) ≡ o → region_from l y x ≡ m (suc x) (suc y) → region_from l y (suc x) ≡ m (suc (suc x)) (suc y)
      pick zero h ih = first_none (owner_of l (side_at (suc x) y 1)) (region_from l y x) h ∙ ih ∙ no_owner_alike (suc x) y a b h
      pick (suc v) h ih =
          first_some (owner_of l (side_at (suc x) y 1)) (region_from l y x) (omega arith) ∙ h ∙ sym (owner_on_right (suc x) y v a h)

  pub numbers_from_edges : length nums ≡ 4 ^ n → numbers_from n l ≡ nums
  unfolding numbers_from
  numbers_from_edges long =
      sym (tabulate_from (4 ^ n) (λ c. region_from l (row n c) (column n c) - 1) nums long
      (λ c h. omega (arith, region_from_edges (column n c) (row n c) (column-below n c) (row_below n c), region_of_code n nums c h)))

-- ---- an image that has given outlines is their candidate

pub outlines_tell_numbers : (n : ℕ) (px : List ℕ) → n ≤ 8 → numbers_from n (image_outlines n px) ≡ numbers n px
outlines_tell_numbers n px small =
    numbers_from_edges n (numbers n px) small (image_outlines n px)
    (each_side_once n (numbers n px) (regions n px) small (number-below-regions n px)) (length-numbers n px)

module _ {n : ℕ} {o : Outlines} {px : List ℕ} (small : n ≤ 8) (has : HasOutlines n o px) where
  pub numbers_are_told : numbers_from n (cycles_of o) ≡ numbers n px
  numbers_are_told = ap (numbers_from n) (cycles_are_outlines has) ∙ outlines_tell_numbers n px small

  pub image_is_candidate : candidate n o ≡ px
  unfolding candidate
  image_is_candidate = ap (coloured o.colour_list) numbers_are_told ∙ sym has.colours_are

-- Two images with the same outlines and region colours are one.
pub one_image : {n : ℕ} {o : Outlines} {px qx : List ℕ} → n ≤ 8 → HasOutlines n o px → HasOutlines n o qx → px ≡ qx
one_image small h k = sym (image_is_candidate small h) ∙ image_is_candidate small k
