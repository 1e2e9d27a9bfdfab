-- The stretch of cycle k in a corner list: "the very stretch of the corner list that holds them" (document 01, "Outlines").
use Rattle.std.specs.Prelude.{◌≡◌, Bool, ◌&&◌, List, ℕ, zero, suc, ◌+◌, ◌-◌, ◌*◌, ◌≤◌, ◌<◌, ltb, length, get_or, take, drop}
use Rattle.std.proofs.Math.Path.{refl}
use Rattle.std.proofs.Common.{sym, ap, ap₂, ◌∙◌}
use Rattle.std.proofs.Math.Bool.{true, false, cond}
use native.Mathlib.Omega.{arith}
use Rattle.std.specs.Borrow.{Bor}
use Rattle.std.proofs.Math.Dec.{leb}
use borrow.Author.Tests.{lt-ltb, le-ltb, le-leb, lt-leb, leb-true}
use Rattle.sequences.specs.Cases.{and_both}
use Rattle.stretches.specs.declared.Stretch.{Stretch}

-- "It begins at 0 for k = 0, else at the end of cycle k - 1"; it ends at the end of cycle k.
unfoldable pub begin_of : List ℕ → ℕ → ℕ
begin_of ends zero = 0
begin_of ends (suc k) = get_or ends k 0

unfoldable pub end_of : List ℕ → ℕ → ℕ
end_of ends k = get_or ends k 0

-- There is such a stretch in a corner list of the length `size`: it is none "if k is not below the count or the end list's
-- length, or if the stretch would begin after its end or run past the corner list".
unfoldable pub holds : ℕ → List ℕ → ℕ → ℕ → Bool
unfolding begin_of end_of
holds size ends count k = ltb k count && (ltb k (length ends) && (leb (begin_of ends k) (end_of ends k) && leb (end_of ends k) size))

-- Where it starts and how long it is; "the empty stretch at 0" where there is none.
unfoldable pub start_of : ℕ → List ℕ → ℕ → ℕ → ℕ
start_of size ends count k = cond (holds size ends count k) (begin_of ends k) 0

unfoldable pub length_of : ℕ → List ℕ → ℕ → ℕ → ℕ
length_of size ends count k = cond (holds size ends count k) (end_of ends k - begin_of ends k) 0

-- The corners of cycle k.
unfoldable pub stretch_of : List ℕ → List ℕ → ℕ → ℕ → List ℕ
stretch_of corners ends count k = take (length_of (length corners) ends count k) (drop (start_of (length corners) ends count k) corners)

-- The empty stretch at 0.
abbrev pub empty : Stretch
empty = record { start = 0; length = 0 }

-- What is promised of the place.
pub record Place (corners ends : List ℕ) (count k : ℕ) (answer : Stretch) : Type 0 where
  pub start_is : answer.start ≡ start_of (length corners) ends count k
  pub length_is : answer.length ≡ length_of (length corners) ends count k

-- What is promised of the part handed back: its corners, and where it lies, in the memory of the corner list with four bytes a
-- corner.
pub record Part (corners : Bor (List ℕ)) (ends : List ℕ) (count k : ℕ) (part : Bor (List ℕ)) : Type 0 where
  pub corners_are : part.now ≡ stretch_of corners.now ends count k
  pub same_memory : part.ref_ptr.0 ≡ corners.ref_ptr.0
  pub lies_at : part.ref_ptr.1 ≡ corners.ref_ptr.1 + 4 * start_of (length corners.now) ends count k

pub begin_first : (ends : List ℕ) (k : ℕ) → k ≡ 0 → begin_of ends k ≡ 0
unfolding begin_of
begin_first ends zero h = refl
begin_first ends (suc k) h = absurd (omega arith)

pub begin_later : (ends : List ℕ) (k : ℕ) → (k ≡ 0 → ⊥) → begin_of ends k ≡ get_or ends (k - 1) 0
unfolding begin_of
begin_later ends zero h = absurd (h refl)
begin_later ends (suc k) h = ap (λ i. get_or ends i 0) (omega arith)

module _ (size : ℕ) (ends : List ℕ) (count k : ℕ) where
  pub none_of_count : count ≤ k → holds size ends count k ≡ false
  unfolding holds
  none_of_count h = rw (le-ltb k count h) refl

  pub none_of_ends : k < count → length ends ≤ k → holds size ends count k ≡ false
  unfolding holds
  none_of_ends a h = rw (lt-ltb k count a, le-ltb k (length ends) h) refl

  pub none_backward : k < count → k < length ends → end_of ends k < begin_of ends k → holds size ends count k ≡ false
  unfolding holds
  none_backward a b h = simp (lt-ltb k count a, lt-ltb k (length ends) b, lt-leb (begin_of ends k) (end_of ends k) h)

  pub none_past : k < count → k < length ends → begin_of ends k ≤ end_of ends k → size < end_of ends k → holds size ends count k ≡ false
  unfolding holds
  none_past a b c h = simp (lt-ltb k count a, lt-ltb k (length ends) b, le-leb (begin_of ends k) (end_of ends k) c, lt-leb (end_of ends k) size h)

  pub some_stretch : k < count → k < length ends → begin_of ends k ≤ end_of ends k → end_of ends k ≤ size → holds size ends count k ≡ true
  unfolding holds
  some_stretch a b c h = simp (lt-ltb k count a, lt-ltb k (length ends) b, le-leb (begin_of ends k) (end_of ends k) c, le-leb (end_of ends k) size h)

  -- It lies within the corner list.
  pub stretch_fits : start_of size ends count k + length_of size ends count k ≤ size
  unfolding start_of length_of holds
  stretch_fits = pick (holds size ends count k) refl
    where
      pick : (b : Bool) → holds size ends count k ≡ b → cond b (begin_of ends k) 0 + cond b (end_of ends k - begin_of ends k) 0 ≤ size
      pick true h =
          let a = and_both (ltb k count) (ltb k (length ends) && (leb (begin_of ends k) (end_of ends k) && leb (end_of ends k) size)) h in
          let b = and_both (ltb k (length ends)) (leb (begin_of ends k) (end_of ends k) && leb (end_of ends k) size) a.1 in
          let c = and_both (leb (begin_of ends k) (end_of ends k)) (leb (end_of ends k) size) b.1 in
          omega (arith, leb-true (begin_of ends k) (end_of ends k) c.0, leb-true (end_of ends k) size c.1)
      pick false h = omega arith

-- A place that is as promised, where there is such a stretch and where there is none.
pub place_is : {corners ends : List ℕ} {count k : ℕ} (answer : Stretch) {there : Bool} → holds (length corners) ends count k ≡ there
    → answer.start ≡ cond there (begin_of ends k) 0 → answer.length ≡ cond there (end_of ends k - begin_of ends k) 0 → Place corners ends count k answer
unfolding start_of length_of
place_is {corners} {ends} {count} {k} answer h s l =
    record {
      start_is = s ∙ ap (λ (b : Bool). cond b (begin_of ends k) 0) (sym h);
      length_is = l ∙ ap (λ (b : Bool). cond b (end_of ends k - begin_of ends k) 0) (sym h);
    }

-- A place that is as promised lies within the corner list.
pub place_fits : {corners ends : List ℕ} {count k : ℕ} {place : Stretch} → Place corners ends count k place → place.start + place.length ≤ length corners
place_fits {corners} {ends} {count} {k} p = omega (arith, p.start_is, p.length_is, stretch_fits (length corners) ends count k)

-- The part at a place that is as promised holds the stretch.
pub part_at : {corners ends : List ℕ} {count k : ℕ} (place : Stretch) → Place corners ends count k place
    → take (place.start + place.length - place.start) (drop place.start corners) ≡ stretch_of corners ends count k
unfolding stretch_of
part_at {corners} {ends} {count} {k} place p =
    let n : place.start + place.length - place.start ≡ place.length = omega arith in
    ap₂ (λ a b. take a (drop b corners)) (n ∙ p.length_is) p.start_is
