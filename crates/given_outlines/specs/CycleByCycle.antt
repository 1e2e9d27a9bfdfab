-- Given cycles checked one after the other: each is a cycle from its start, they stand in order, and the pixels south of their eastward edges
-- are marked. When all are checked and every north side that is an edge is marked, they are the listing; and a listing passes each check.
use Rattle.std.specs.Prelude.{◌≡◌, ◌⊎◌, ◌↔◌, length, get_or}
use Rattle.std.proofs.Math.Path.{refl, ap₂}
use Rattle.std.proofs.Common.{sym, ap, ◌∙◌, subst, subst₂, inl, inr, arith}
use mathlib.Core.List.{List, [], ◌∷◌, map}
use Prim.Native.Nat.{ℕ, zero, suc, ◌+◌, ◌^◌, ◌≤◌, ◌<◌}
use Rattle.std.proofs.Math.Decide.{ℕ_discrete}
use Rattle.std.proofs.lemmas.List.{length-map}
use Rattle.interleaving.specs.Interleaving.{column-below, row_below}
use Rattle.lattice.specs.Directions.{x_of, y_of, tail, digit}
use Rattle.lattice.specs.Walks.{turns, corners}
use Rattle.orbits.specs.Members.{In}
use Rattle.grid.specs.Map.{region_at}
use Rattle.grid.specs.Steps.{Edge}
use Rattle.grid.specs.Cycles.{corner_of, north_side, cycle}
use Rattle.grid.specs.North.{corner_x, corner_y, north-tail}
use Rattle.grid.specs.Listing.{Cycle, cycle_at, owners, points_at}
use Rattle.grid.specs.Starting.{StartAt}
use Rattle.grid.specs.Closing.{others, corners_from_start}
use Rattle.grid.specs.Keeping.{Before}
use Rattle.given_outlines.specs.Starts.{code_at, starts_told, EachFromItsStart, starts_in_order}

-- The start pixel that the corners of a cycle tell.
abbrev pub start_told : ℕ → List ℕ → ℕ
start_told n points = code_at n (get_or points 0 0)

-- These corners, owned by the region `owner`, are a cycle of the numbered image from its start: it "starts at the tail of its eastward edge
-- whose right-hand pixel has the least code" (document 01, "Outlines"), and that pixel lies in the region.
pub record FromItsStart (n : ℕ) (nums : List ℕ) (owner : ℕ) (points : List ℕ) : Type 0 where
  pub starts : StartAt n nums (start_told n points)
  pub its_owner : owner ≡ get_or nums (start_told n points) 0
  pub its_corners : points ≡ corners (cycle n nums (start_told n points))

-- The first k cycles are such ones and stand in order, and the pixels south of their eastward edges are marked, and no others.
pub record FirstAgree (n : ℕ) (nums : List ℕ) (l : List Cycle) (marked : ℕ → Type 0) (k : ℕ) : Type 0 where
  pub each : (i : ℕ) → i < k → FromItsStart n nums (get_or (owners l) i 0) (points_at l i)
  pub rising : (i : ℕ) → suc i < k → Before n nums (start_told n (points_at l i)) (start_told n (points_at l (suc i)))
  pub marks : (c : ℕ) → c < 4 ^ n → marked c ↔ ((i : ℕ) × (i < k) × In (north_side n c) (cycle n nums (start_told n (points_at l i))))

-- The first corner of such a cycle is the northwest corner of a pixel.
pub record FirstPixel (n : ℕ) (points : List ℕ) : Type 0 where
  pub some : 0 < length points
  pub x_inside : x_of (get_or points 0 0) < 2 ^ n
  pub y_inside : y_of (get_or points 0 0) < 2 ^ n

pub first_pixel : {n owner : ℕ} {nums points : List ℕ} → n ≤ 8 → FromItsStart n nums owner points → FirstPixel n points
first_pixel {n} {owner} {nums} {points} small f =
    let c : ℕ = start_told n points in
    let here : points ≡ tail (north_side n c) ∷ turns (digit (north_side n c)) (others (region_at n nums) (north_side n c)) =
    f.its_corners ∙ corners_from_start n nums small c f.starts in
    let first : get_or points 0 0 ≡ corner_of n c = ap (λ (l : List ℕ). get_or l 0 0) here ∙ north-tail n c in
    record {
      some = omega (arith, ap length here);
      x_inside = subst (λ (x : ℕ). x < 2 ^ n) (sym (ap x_of first ∙ corner_x n small c)) (column-below n c);
      y_inside = subst (λ (y : ℕ). y < 2 ^ n) (sym (ap y_of first ∙ corner_y n small c)) (row_below n c);
    }

-- ---- the starts that a list of cycles tells

length_told : (n : ℕ) (l : List Cycle) → length (starts_told n l) ≡ length l
unfolding starts_told
length_told n l = length-map l (λ (c : Cycle). code_at n (get_or c.points 0 0))

told_at : (n : ℕ) (l : List Cycle) (k : ℕ) → k < length l → get_or (starts_told n l) k 0 ≡ start_told n (points_at l k)
unfolding starts_told points_at
told_at n [] k h = absurd (omega arith)
told_at n (c ∷ l) zero h = refl
told_at n (c ∷ l) (suc k) h = told_at n l k (omega arith)

module _ (n : ℕ) (nums : List ℕ) where
  owner_in : (cs : List ℕ) (k : ℕ) → k < length cs → get_or (owners (map (cycle_at n nums) cs)) k 0 ≡ get_or nums (get_or cs k 0) 0
  unfolding owners cycle_at
  owner_in [] k h = absurd (omega arith)
  owner_in (c ∷ cs) zero h = refl
  owner_in (c ∷ cs) (suc k) h = owner_in cs k (omega arith)

  points_in : (cs : List ℕ) (k : ℕ) → k < length cs → points_at (map (cycle_at n nums) cs) k ≡ corners (cycle n nums (get_or cs k 0))
  unfolding points_at cycle_at
  points_in [] k h = absurd (omega arith)
  points_in (c ∷ cs) zero h = refl
  points_in (c ∷ cs) (suc k) h = points_in cs k (omega arith)

  -- Cycles from their starts are those of the starts they tell.
  cycles_told : (l : List Cycle) → ((i : ℕ) → i < length l → FromItsStart n nums (get_or (owners l) i 0) (points_at l i)) → l ≡ map (cycle_at n nums) (starts_told n l)
  unfolding owners points_at cycle_at starts_told
  cycles_told [] each = refl
  cycles_told (c ∷ l) each =
      let a = each 0 (omega arith) in
      ap₂ {A = Cycle} {B = List Cycle} ◌∷◌ (λ i. record { region = a.its_owner i; points = a.its_corners i })
      (cycles_told l (λ i h. each (suc i) (omega arith)))

module _ {n : ℕ} {nums : List ℕ} {l : List Cycle} where
  pub begin : {marked : ℕ → Type 0} → ((c : ℕ) → c < 4 ^ n → marked c → ⊥) → FirstAgree n nums l marked 0
  begin none = record {
    each = λ i h. absurd (omega arith);
    rising = λ i h. absurd (omega arith);
    marks = λ c h. (λ m. absurd (none c h m), λ w. absurd (omega (arith, w.1)));
  }

  -- One cycle more is checked, and marked.
  pub again : {marked marked' : ℕ → Type 0} {k : ℕ} → FirstAgree n nums l marked k → FromItsStart n nums (get_or (owners l) k 0) (points_at l k)
      → ((i : ℕ) → suc i ≡ k → Before n nums (start_told n (points_at l i)) (start_told n (points_at l k)))
      → ((c : ℕ) → c < 4 ^ n → marked' c ↔ (marked c ⊎ In (north_side n c) (cycle n nums (start_told n (points_at l k)))))
      → FirstAgree n nums l marked' (k + 1)
  again {marked} {marked'} {k} g a next mark = record {
    each = λ i h. it i h (ℕ_discrete i k);
    rising = λ i h. order i h (ℕ_discrete (suc i) k);
    marks = λ c h. (λ m. met c h ((mark c h).0 m), λ w. (mark c h).1 (made c h w (ℕ_discrete w.0 k)));
  }
    where
      it : (i : ℕ) → i < k + 1 → Dec (i ≡ k) → FromItsStart n nums (get_or (owners l) i 0) (points_at l i)
      it i h (yes q) = subst (λ (j : ℕ). FromItsStart n nums (get_or (owners l) j 0) (points_at l j)) (sym q) a
      it i h (no q) = g.each i (omega arith)

      order : (i : ℕ) → suc i < k + 1 → Dec (suc i ≡ k) → Before n nums (start_told n (points_at l i)) (start_told n (points_at l (suc i)))
      order i h (yes q) = subst (λ (j : ℕ). Before n nums (start_told n (points_at l i)) (start_told n (points_at l j))) (sym q) (next i q)
      order i h (no q) = g.rising i (omega arith)

      met : (c : ℕ) → c < 4 ^ n → marked c ⊎ In (north_side n c) (cycle n nums (start_told n (points_at l k)))
          → (i : ℕ) × (i < k + 1) × In (north_side n c) (cycle n nums (start_told n (points_at l i)))
      met c h (inl m) = let w = (g.marks c h).0 m in (w.0, omega (arith, w.1), w.2)
      met c h (inr s) = (k, omega arith, s)

      made : (c : ℕ) → c < 4 ^ n → (w : (i : ℕ) × (i < k + 1) × In (north_side n c) (cycle n nums (start_told n (points_at l i)))) → Dec (w.0 ≡ k)
          → marked c ⊎ In (north_side n c) (cycle n nums (start_told n (points_at l k)))
      made c h w (yes q) = inr (subst (λ (j : ℕ). In (north_side n c) (cycle n nums (start_told n (points_at l j)))) q w.2)
      made c h w (no q) = inl ((g.marks c h).1 (w.0, omega (arith, w.1), w.2))

  -- All cycles are checked, and every north side that is an edge is marked.
  pub finish : {marked : ℕ → Type 0} → FirstAgree n nums l marked (length l)
      → ((c : ℕ) → c < 4 ^ n → Edge (region_at n nums) (suc (get_or nums c 0)) (north_side n c) → marked c) → EachFromItsStart n nums l
  finish {marked} g all = record {
    cycles = cycles_told n nums l g.each;
    all = record {
      starts = λ c i. start c i;
      in_order = starts_in_order n nums (starts_told n l)
          (λ i h. subst₂ (Before n nums) (sym (told i (omega arith))) (sym (told (suc i) h)) (g.rising i (omega (arith, length_told n l))));
      each_met = λ c h e. let w = (g.marks c h).0 (all c h e) in
          (start_told n (points_at l w.0), (w.0, omega (arith, w.1, length_told n l), told w.0 (omega (arith, w.1, length_told n l))), w.2);
    };
  }
    where
      told : (i : ℕ) → i < length (starts_told n l) → get_or (starts_told n l) i 0 ≡ start_told n (points_at l i)
      told i h = told_at n l i (omega (arith, length_told n l))

      start : (c : ℕ) → In c (starts_told n l) → StartAt n nums c
      start c (i, h, e) = subst (StartAt n nums) (sym (told i h) ∙ e) (g.each i (omega (arith, length_told n l))).starts

  -- ---- a listing passes every check, so that a check that fails tells that the cycles are not the listing

  module _ (e : EachFromItsStart n nums l) where
    pub each_from_its_start : (k : ℕ) → k < length l → FromItsStart n nums (get_or (owners l) k 0) (points_at l k)
    each_from_its_start k h =
        let b : k < length (starts_told n l) = omega (arith, length_told n l) in
        let t : get_or (starts_told n l) k 0 ≡ start_told n (points_at l k) = told_at n l k h in
        record {
          starts = subst (StartAt n nums) t (e.all.starts (get_or (starts_told n l) k 0) (k, b, refl));
          its_owner = ap (λ (c : List Cycle). get_or (owners c) k 0) e.cycles ∙ owner_in n nums (starts_told n l) k b ∙ ap (λ (c : ℕ). get_or nums c 0) t;
          its_corners = ap (λ (c : List Cycle). points_at c k) e.cycles ∙ points_in n nums (starts_told n l) k b ∙ ap (λ (c : ℕ). corners (cycle n nums c)) t;
        }

    pub each_in_order : (i : ℕ) → suc i < length l → Before n nums (start_told n (points_at l i)) (start_told n (points_at l (suc i)))
    each_in_order i h =
        subst₂ (Before n nums) (told_at n l i (omega arith)) (told_at n l (suc i) h)
        (e.all.in_order i (suc i) (omega arith) (omega (arith, length_told n l)))

    pub each_marked : {marked : ℕ → Type 0} → FirstAgree n nums l marked (length l) → (c : ℕ) → c < 4 ^ n
        → Edge (region_at n nums) (suc (get_or nums c 0)) (north_side n c) → marked c
    each_marked {marked} g c h q = from (e.all.each_met c h q)
      where
        from : (s : ℕ) × In s (starts_told n l) × In (north_side n c) (cycle n nums s) → marked c
        from (s, (i, b, t), o) =
            let k : i < length l = omega (arith, length_told n l) in
            (g.marks c h).1 (i, k, subst (λ (d : ℕ). In (north_side n c) (cycle n nums d)) (sym t ∙ told_at n l i k) o)
