-- The stretch of the corner list that holds the corners of cycle k, by the end list.
use Rattle.std.specs.Prelude.{◌≡◌, refl, List, [], ◌∷◌, ◌++◌, ℕ, zero, suc, ◌+◌, ◌-◌, ◌≤◌, ◌<◌, length, get_or, take, drop, pos}
use Rattle.std.proofs.Common.{sym, ap, ap₂, ◌∙◌, arith, length-append, length-drop}
use Rattle.std.proofs.Math.Seq.{take-append_seam, drop-append-add}
use Rattle.std.proofs.lemmas.List.{drop-append-le, take-append-le}
use Rattle.sequences.specs.Over.{over, over_inside}
use Rattle.lattice.specs.Walks.{outline}
use Rattle.lattice.specs.Area.{area}
use Rattle.grid.specs.Listing.{Cycle, owners, ends_from, ends, all_corners, areas, points_at, corner_count}

-- "It begins at 0 for k = 0, else at the end of cycle k - 1" (document 01, "Outlines"); `at` stands for 0 where the list is the
-- rest of a longer one.
unfoldable pub begin_from : ℕ → List ℕ → ℕ → ℕ
begin_from at es zero = at
begin_from at es (suc k) = get_or es k 0

pub length-owners : (l : List Cycle) → length (owners l) ≡ length l
unfolding owners
length-owners [] = refl
length-owners (c ∷ cs) = ap suc (length-owners cs)

pub length_ends_from : (at : ℕ) (l : List Cycle) → length (ends_from at l) ≡ length l
unfolding ends_from
length_ends_from at [] = refl
length_ends_from at (c ∷ cs) = ap suc (length_ends_from (at + length c.points) cs)

pub length-ends : (l : List Cycle) → length (ends l) ≡ length l
unfolding ends
length-ends l = length_ends_from 0 l

pub length-areas : (l : List Cycle) → length (areas l) ≡ length l
unfolding areas
length-areas [] = refl
length-areas (c ∷ l) = ap suc (length-areas l)

-- The area of cycle k is that of the walk around its corners.
pub area_at : (l : List Cycle) (k : ℕ) → k < length l → get_or (areas l) k (pos 0) ≡ area (outline (points_at l k))
unfolding areas points_at
area_at [] k h = absurd (omega arith)
area_at (c ∷ l) zero h = refl
area_at (c ∷ l) (suc k) h = area_at l k (omega arith)

-- Between which ends the corners of cycle k stand.
pub record StretchFrom (at : ℕ) (l : List Cycle) (k : ℕ) : Type 0 where
  pub begins : at ≤ begin_from at (ends_from at l) k
  pub rises : begin_from at (ends_from at l) k ≤ get_or (ends_from at l) k 0
  pub stays : get_or (ends_from at l) k 0 ≤ at + length (all_corners l)
  pub holds : take (get_or (ends_from at l) k 0 - begin_from at (ends_from at l) k) (drop (begin_from at (ends_from at l) k - at) (all_corners l)) ≡ points_at l k

begin_next : (at : ℕ) (l : List Cycle) (k : ℕ) → get_or (at ∷ ends_from at l) k 0 ≡ begin_from at (ends_from at l) k
unfolding begin_from
begin_next at l zero = refl
begin_next at l (suc k) = refl

stretch_from : (at : ℕ) (l : List Cycle) (k : ℕ) → k < length l → StretchFrom at l k
unfolding ends_from all_corners points_at begin_from
stretch_from at [] k h = let z : ⊥ = omega arith in absurd z
stretch_from at (c ∷ cs) zero h =
    let a : at + length c.points - at ≡ length c.points = omega arith in
    let b : at - at ≡ 0 = omega arith in
    record {
      begins = omega arith;
      rises = omega arith;
      stays = omega (arith, length-append c.points (all_corners cs));
      holds = rw (a, b) (take-append_seam c.points (all_corners cs));
    }
stretch_from at (c ∷ cs) (suc k) h =
    let o : ℕ = at + length c.points in
    let s : StretchFrom o cs k = stretch_from o cs k (omega arith) in
    let b : ℕ = begin_from o (ends_from o cs) k in
    let e : get_or (o ∷ ends_from o cs) k 0 ≡ b = begin_next o cs k in
    let d : b - at ≡ length c.points + (b - o) = omega (arith, s.begins) in
    record {
      begins = omega (arith, s.begins);
      rises = omega (arith, s.rises);
      stays = omega (arith, s.stays, length-append c.points (all_corners cs));
      holds =
          ap (λ x. take (get_or (ends_from o cs) k 0 - x) (drop (x - at) (c.points ++ all_corners cs))) e
          ∙ ap (λ x. take (get_or (ends_from o cs) k 0 - b) (drop x (c.points ++ all_corners cs))) d
          ∙ ap (take (get_or (ends_from o cs) k 0 - b)) (drop-append-add c.points (all_corners cs) (b - o))
          ∙ s.holds;
    }

pub record Stretch (l : List Cycle) (k : ℕ) : Type 0 where
  pub rises : begin_from 0 (ends l) k ≤ get_or (ends l) k 0
  pub stays : get_or (ends l) k 0 ≤ corner_count l
  pub holds : take (get_or (ends l) k 0 - begin_from 0 (ends l) k) (drop (begin_from 0 (ends l) k) (all_corners l)) ≡ points_at l k

-- The stretch of cycle k is exactly the corners of the cycle k.
pub stretch : (l : List Cycle) (k : ℕ) → k < length l → Stretch l k
unfolding ends corner_count
stretch l k h =
    let s : StretchFrom 0 l k = stretch_from 0 l k h in
    let z : begin_from 0 (ends_from 0 l) k - 0 ≡ begin_from 0 (ends_from 0 l) k = omega arith in
    record {
      rises = s.rises;
      stays = omega (arith, s.stays);
      holds = ap (λ b. take (get_or (ends_from 0 l) k 0 - begin_from 0 (ends_from 0 l) k) (drop b (all_corners l))) (sym z) ∙ s.holds;
    }

-- The last end is the count of all corners.
last_end_from : (at : ℕ) (l : List Cycle) (k : ℕ) → suc k ≡ length l → get_or (ends_from at l) k 0 ≡ at + length (all_corners l)
unfolding ends_from all_corners
last_end_from at [] k h = let z : ⊥ = omega arith in absurd z
last_end_from at (c ∷ []) zero h = omega (arith, length-append c.points [])
last_end_from at (c ∷ d ∷ cs) zero h = let z : ⊥ = omega arith in absurd z
last_end_from at (c ∷ cs) (suc k) h =
    omega (arith, last_end_from (at + length c.points) cs k (omega arith), length-append c.points (all_corners cs))

pub last_end : (l : List Cycle) (k : ℕ) → suc k ≡ length l → get_or (ends l) k 0 ≡ corner_count l
unfolding ends corner_count
last_end l k h = omega (arith, last_end_from 0 l k h)

-- The same in longer lists, over whose front the ends and corners were laid.
pub record StretchIn (l : List Cycle) (k : ℕ) (es cs : List ℕ) : Type 0 where
  pub rises : begin_from 0 es k ≤ get_or es k 0
  pub stays : get_or es k 0 ≤ corner_count l
  pub holds : take (get_or es k 0 - begin_from 0 es k) (drop (begin_from 0 es k) cs) ≡ points_at l k

begin_over : (xs ys : List ℕ) (k : ℕ) → k < length xs → begin_from 0 (over xs ys) k ≡ begin_from 0 xs k
unfolding begin_from
begin_over xs ys zero h = refl
begin_over xs ys (suc k) h = over_inside xs ys k (omega arith)

part_over : (xs ys : List ℕ) (b e : ℕ) → b ≤ e → e ≤ length xs → take (e - b) (drop b (over xs ys)) ≡ take (e - b) (drop b xs)
unfolding over
part_over xs ys b e h k =
    ap (take (e - b)) (drop-append-le b xs (drop (length xs) ys) (omega arith))
    ∙ take-append-le (e - b) (drop b xs) (drop (length xs) ys) (omega (arith, length-drop b xs))

pub stretch_over : (l : List Cycle) (k : ℕ) → k < length l → (es cs : List ℕ) → StretchIn l k (over (ends l) es) (over (all_corners l) cs)
unfolding corner_count
stretch_over l k h es cs =
    let s : Stretch l k = stretch l k h in
    let b : begin_from 0 (over (ends l) es) k ≡ begin_from 0 (ends l) k = begin_over (ends l) es k (omega (arith, length-ends l)) in
    let e : get_or (over (ends l) es) k 0 ≡ get_or (ends l) k 0 = over_inside (ends l) es k (omega (arith, length-ends l)) in
    record {
      rises = omega (arith, s.rises);
      stays = omega (arith, s.stays);
      holds =
          ap₂ (λ x y. take (x - y) (drop y (over (all_corners l) cs))) e b
          ∙ part_over (all_corners l) cs (begin_from 0 (ends l) k) (get_or (ends l) k 0) s.rises s.stays ∙ s.holds;
    }
