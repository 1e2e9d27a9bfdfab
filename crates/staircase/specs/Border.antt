-- The border between done and not done is one path of 2 times 2^n unit edges.
use Rattle.std.specs.Prelude.{◌≡◌, refl, ◌⊎◌, ◌↔◌, ◌≢◌, Bool, true, false, List, [], ◌∷◌, ℕ, ◌*◌, ◌^◌, take}
use Rattle.std.proofs.Common.{inl, inr, ⊎_elim, true≢false}
use Rattle.std.proofs.lemmas.Bool.{false≢true}
use Rattle.interleaving.specs.Codes.{code}
use Rattle.quadtree.specs.Blocks.{Block, blocks, pixels}
use Rattle.quadtree.specs.Number.{cover, number}
use Rattle.quadtree.specs.Accepted.{number-zero}
use Rattle.staircase.specs.Staircase.{done, done-west, done-north, done_east, done_south, staircase}
use Rattle.staircase.specs.FirstBlocks.{Done, done_exactly}
use Rattle.staircase.specs.Edges.{UnitEdge, east_from, north_from, left_cell, right_cell, SideOf, Border, OnePath}
use Rattle.staircase.specs.Walk.{Stairs, border_from, walk_is_the_border}

pub done_is_stairs : (n d : ℕ) → Stairs (2 ^ n) (done n d)
done_is_stairs n d = record { in_north = done-north n d; in_west = done-west n d; in_east = done_east n d; in_south = done_south n d; closed = staircase n d }

-- The border where the pixels with codes below d are done, from the image's southwest corner to its northeast corner.
unfoldable pub border : ℕ → ℕ → List UnitEdge
border n d = border_from (done n d) (2 * 2 ^ n) 0 (2 ^ n)

-- "The border between done and not done, from the image's southwest corner to its northeast corner, is then exactly 2 times 2^n
-- unit edges long" (document 01, "Regions").
pub border_is_one_path : (n d : ℕ) → OnePath (2 ^ n) (Border (2 ^ n) (done n d)) (border n d)
unfolding border
border_is_one_path n d = walk_is_the_border (2 ^ n) (done n d) (done_is_stairs n d)

-- With the northwest pixel of four done: north along the image's west side, then round that pixel.
one_pixel_done : border 1 1 ≡ north_from 0 2 ∷ east_from 0 1 ∷ north_from 1 1 ∷ east_from 1 0 ∷ []
unfolding border border_from done code
one_pixel_done = refl

-- One of two statements holds and the other does not.
abbrev pub OnlyOne : Type 0 → Type 0 → Type 0
OnlyOne P Q = (P × ¬ Q) ⊎ ((¬ P) × Q)

only_one_tests : (P Q : Type 0) (s t : Bool) → P ↔ (s ≡ true) → Q ↔ (t ≡ true) → OnlyOne P Q ↔ (s ≢ t)
only_one_tests P Q true true p q =
    (λ o. absurd (⊎_elim (λ (a : P × ¬ Q). a.1 (q.1 refl)) (λ (b : (¬ P) × Q). b.0 (p.1 refl)) o), λ d. absurd (d refl))
only_one_tests P Q true false p q = (λ o. true≢false, λ d. inl (p.1 refl, λ b. false≢true (q.0 b)))
only_one_tests P Q false true p q = (λ o. false≢true, λ d. inr (λ a. false≢true (p.0 a), q.1 refl))
only_one_tests P Q false false p q =
    (λ o. absurd (⊎_elim (λ (a : P × ¬ Q). false≢true (p.0 a.0)) (λ (b : (¬ P) × Q). false≢true (q.0 b.1)) o), λ d. absurd (d refl))

-- A side of the image is on the border after these blocks: of the two cells beside it one is done and the other is not.
pub record BorderAfter (n : ℕ) (bs : List Block) (e : UnitEdge) : Type 0 where
  pub side : SideOf (2 ^ n) e
  pub only_one : OnlyOne (Done n bs (left_cell e).column (left_cell e).row) (Done n bs (right_cell e).column (right_cell e).row)

border_tested : (n k : ℕ) (bs : List Block) → cover n 0 bs ≡ 0 → (e : UnitEdge) → Border (2 ^ n) (done n (pixels (take k bs))) e ↔ BorderAfter n (take k bs) e
border_tested n k bs h e = (λ b. record { side = b.side; only_one = same.1 b.differ }, λ b. record { side = b.side; differ = same.0 b.only_one })
  where
    same : OnlyOne (Done n (take k bs) (left_cell e).column (left_cell e).row) (Done n (take k bs) (right_cell e).column (right_cell e).row)
        ↔ (done n (pixels (take k bs)) (left_cell e).column (left_cell e).row ≢ done n (pixels (take k bs)) (right_cell e).column (right_cell e).row)
    same =
        only_one_tests (Done n (take k bs) (left_cell e).column (left_cell e).row) (Done n (take k bs) (right_cell e).column (right_cell e).row)
        (done n (pixels (take k bs)) (left_cell e).column (left_cell e).row) (done n (pixels (take k bs)) (right_cell e).column (right_cell e).row)
        (done_exactly n k bs h (left_cell e).column (left_cell e).row) (done_exactly n k bs h (right_cell e).column (right_cell e).row)

-- The same after any whole number k of blocks of an accepted list.
pub border-after-blocks : (n : ℕ) (codes levels colours : List ℕ) → number n codes levels colours ≡ 0 → (k : ℕ)
    → OnePath (2 ^ n) (BorderAfter n (take k (blocks codes levels colours))) (border n (pixels (take k (blocks codes levels colours))))
border-after-blocks n codes levels colours accepted k =
    let bs : List Block = blocks codes levels colours in
    let path = border_is_one_path n (pixels (take k bs)) in
    let tested = border_tested n k bs (number-zero n codes levels colours accepted).covering in
    record {
      long = path.long;
      joined = path.joined;
      exactly = λ e. (λ m. (tested e).0 ((path.exactly e).0 m), λ b. (path.exactly e).1 ((tested e).1 b));
      once = path.once;
    }
