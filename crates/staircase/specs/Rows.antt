-- One side of the border in each row and one in each column: it lies after the pixels done there.
use Rattle.std.specs.Prelude.{◌≡◌, ◌↔◌, Bool}
use Rattle.std.proofs.Math.Path.{refl, ap}
use Rattle.std.proofs.Common.{sym, ◌∙◌, arith}
use Rattle.std.proofs.Math.Bool.{true, false}
use Prim.Native.Nat.{ℕ, zero, suc, ◌^◌, ◌≤◌, ◌<◌}
use Rattle.staircase.specs.Staircase.{done, done-west, done-north, done_east, done_south, staircase}
use Rattle.staircase.specs.Edges.{east_from, north_from, Border}
use Rattle.staircase.specs.Walk.{border_east, border-north, east_apart, north_apart, one_place_in_row, one_place_in_column}
use Rattle.staircase.specs.Border.{done_is_stairs}

-- How many of the numbers below w pass a test.
unfoldable pub count_true : ℕ → (ℕ → Bool) → ℕ
count_true zero test = 0
count_true (suc w) test = elim (test w) [ true ↦ suc (count_true w test) | false ↦ count_true w test ]

count_yes : (w : ℕ) (test : ℕ → Bool) → test w ≡ true → count_true (suc w) test ≡ suc (count_true w test)
unfolding count_true
count_yes w test h = rw (h, count_true)

count_no : (w : ℕ) (test : ℕ → Bool) → test w ≡ false → count_true (suc w) test ≡ count_true w test
unfolding count_true
count_no w test h = rw (h, count_true)

pub count_most : (w : ℕ) (test : ℕ → Bool) → count_true w test ≤ w
unfolding count_true
count_most zero test = omega arith
count_most (suc w) test = pick (count_most w test) (test w) refl
  where
    pick : count_true w test ≤ w → (t : Bool) → test w ≡ t → count_true (suc w) test ≤ suc w
    pick ih true h = omega (arith, count_yes w test h)
    pick ih false h = omega (arith, count_no w test h)

-- A line of cells 0, 1, .. of which the first ones are done: cell 0, and of those from 1 to w as many as are counted.
module _ (line : ℕ → Bool) (closed : (i j : ℕ) → j ≤ i → line i ≡ true → line j ≡ true) where
  count_all : (w : ℕ) → line w ≡ true → count_true w (λ i. line (suc i)) ≡ w
  unfolding count_true
  count_all zero h = refl
  count_all (suc w) h = count_yes w (λ i. line (suc i)) h ∙ ap suc (count_all w (closed (suc w) w (omega arith) h))

  count_is_last : (w : ℕ) → line 0 ≡ true → line (suc w) ≡ false → (line (count_true w (λ i. line (suc i))) ≡ true) × (line (suc (count_true w (λ i. line (suc i)))) ≡ false)
  unfolding count_true
  count_is_last zero first last = (first, last)
  count_is_last (suc w) first last = pick (count_is_last w first) (line (suc w)) refl
    where
      pick : (line (suc w) ≡ false → (line (count_true w (λ i. line (suc i))) ≡ true) × (line (suc (count_true w (λ i. line (suc i)))) ≡ false))
          → (t : Bool) → line (suc w) ≡ t
          → (line (count_true (suc w) (λ i. line (suc i))) ≡ true) × (line (suc (count_true (suc w) (λ i. line (suc i)))) ≡ false)
      pick ih true h = rw (count_yes w (λ i. line (suc i)) h, count_all w (closed (suc w) w (omega arith) h)) (h, last)
      pick ih false h = rw (count_no w (λ i. line (suc i)) h) (ih h)

-- The number of pixels done in row y, and in column x.
unfoldable pub done_in_row : ℕ → ℕ → ℕ → ℕ
done_in_row n d y = count_true (2 ^ n) (λ x. done n d (suc x) (suc y))

unfoldable pub done_in_column : ℕ → ℕ → ℕ → ℕ
done_in_column n d x = count_true (2 ^ n) (λ y. done n d (suc x) (suc y))

module _ (n d : ℕ) where
  -- The row y is done up to that many pixels, and no further; the margin cell before it is done.
  pub row_end : (y : ℕ) → (done n d (done_in_row n d y) (suc y) ≡ true) × (done n d (suc (done_in_row n d y)) (suc y) ≡ false)
  unfolding done_in_row
  row_end y =
      count_is_last (λ x. done n d x (suc y)) (λ i j l h. staircase n d i (suc y) j (suc y) l (omega arith) h) (2 ^ n) (done-west n d (suc y))
      (done_east n d (suc (2 ^ n)) (suc y) (omega arith) (omega arith))

  pub column_end : (x : ℕ) → (done n d (suc x) (done_in_column n d x) ≡ true) × (done n d (suc x) (suc (done_in_column n d x)) ≡ false)
  unfolding done_in_column
  column_end x =
      count_is_last (λ y. done n d (suc x) y) (λ i j l h. staircase n d (suc x) i (suc x) j (omega arith) l h) (2 ^ n) (done-north n d (suc x))
      (done_south n d (suc x) (suc (2 ^ n)) (omega arith) (omega arith))

  pub row_most : (y : ℕ) → done_in_row n d y ≤ 2 ^ n
  unfolding done_in_row
  row_most y = count_most (2 ^ n) (λ x. done n d (suc x) (suc y))

  pub column_most : (x : ℕ) → done_in_column n d x ≤ 2 ^ n
  unfolding done_in_column
  column_most x = count_most (2 ^ n) (λ y. done n d (suc x) (suc y))

  -- The number of pixels done in a row is told by one place between done and not done.
  pub row_is : (y x : ℕ) → done n d x (suc y) ≡ true → done n d (suc x) (suc y) ≡ false → done_in_row n d y ≡ x
  row_is y x a b = one_place_in_row (2 ^ n) (done n d) (done_is_stairs n d) (suc y) (done_in_row n d y) x (row_end y).0 (row_end y).1 a b

  pub column-is : (x y : ℕ) → done n d (suc x) y ≡ true → done n d (suc x) (suc y) ≡ false → done_in_column n d x ≡ y
  column-is x y a b = one_place_in_column (2 ^ n) (done n d) (done_is_stairs n d) (suc x) (done_in_column n d x) y (column_end x).0 (column_end x).1 a b

  -- In each row exactly one northward side is on the border: the one after the pixels done there.
  pub one_side_per_row : (y : ℕ) → y < 2 ^ n → (x : ℕ) → Border (2 ^ n) (done n d) (north_from x (suc y)) ↔ (x ≡ done_in_row n d y)
  one_side_per_row y inside x = (λ b. place (north_apart (2 ^ n) (done n d) (done_is_stairs n d) x (suc y) b), λ e. rw e there)
    where
      place : (done n d x (suc y) ≡ true) × (done n d (suc x) (suc y) ≡ false) → x ≡ done_in_row n d y
      place b = sym (row_is y x b.0 b.1)

      there : Border (2 ^ n) (done n d) (north_from (done_in_row n d y) (suc y))
      there = border-north (2 ^ n) (done n d) (done_in_row n d y) (suc y) (row_most y) (omega arith) (omega arith) (row_end y).0 (row_end y).1

  -- In each column exactly one eastward side is on the border: the one after the pixels done there.
  pub one_side_per_column : (x : ℕ) → x < 2 ^ n → (y : ℕ) → Border (2 ^ n) (done n d) (east_from x y) ↔ (y ≡ done_in_column n d x)
  one_side_per_column x inside y = (λ b. place (east_apart (2 ^ n) (done n d) (done_is_stairs n d) x y b), λ e. rw e there)
    where
      place : (done n d (suc x) y ≡ true) × (done n d (suc x) (suc y) ≡ false) → y ≡ done_in_column n d x
      place b = sym (column-is x y b.0 b.1)

      there : Border (2 ^ n) (done n d) (east_from x (done_in_column n d x))
      there = border_east (2 ^ n) (done n d) x (done_in_column n d x) inside (column_most x) (column_end x).0 (column_end x).1
