-- The block that comes next: how far the columns and rows that it spans are done before it, and after it.
use Rattle.std.specs.Prelude.{◌≡◌, refl, true, false, ℕ, zero, suc, ◌+◌, ◌%◌, ◌^◌, ◌≤◌, ◌<◌, ltb}
use Rattle.std.proofs.Common.{sym, ◌∙◌, arith, lt-ltb, le-ltb}
use Rattle.std.proofs.Math.Decide.{dec_lt}
use Rattle.sequences.specs.Powers.{pow2_pos}
use Rattle.interleaving.specs.Codes.{code, column, row}
use Rattle.interleaving.specs.Interleaving.{code_grows_in_x, code_grows_in_y, column-below, row_below}
use Rattle.location.specs.Squares.{block_is_square, pixel_in_block, square_in_image}
use Rattle.staircase.specs.Staircase.{done, done-west, done-north, done_east, done_south, done_pixel}
use Rattle.staircase.specs.Rows.{done_in_row, done_in_column, row_end, column_end, row_is, column-is}

-- x is one of the columns, y one of the rows, of the block of level l at the code d in an image of side 2^n: its northwest pixel is
-- (column n d, row n d).
pub record InColumns (n l d x : ℕ) : Type 0 where
  pub from_west : column n d ≤ x
  pub to_east : x < column n d + 2 ^ l

pub record InRows (n l d y : ℕ) : Type 0 where
  pub from_north : row n d ≤ y
  pub to_south : y < row n d + 2 ^ l

-- Where the pixels with codes below d are done, the next block has the code d.
module _ (n l d : ℕ) (level : l ≤ n) (room : d < 4 ^ n) (multiple : d % 4 ^ l ≡ 0) where
  -- Codes of the block and pixels of its square are one.
  in_square : (x y : ℕ) → InColumns n l d x → InRows n l d y → (d ≤ code n x y) × (code n x y < d + 4 ^ l)
  in_square x y c r = pixel_in_block n l d level room multiple x y c.from_west c.to_east r.from_north r.to_south

  off_square : (x y : ℕ) → x < 2 ^ n → y < 2 ^ n → ¬ (InColumns n l d x × InRows n l d y) → code n x y < d + 4 ^ l → code n x y < d
  off_square x y a b off h = pick (dec_lt (code n x y) d)
    where
      pick : Dec (code n x y < d) → code n x y < d
      pick (yes t) = t
      pick (no f) =
          let s = (block_is_square n l d level room multiple x y a b).0 (omega arith, h) in
          absurd (off (record { from_west = s.0; to_east = s.1 }, record { from_north = s.2; to_south = s.3 }))

  first-column : InColumns n l d (column n d)
  first-column = record { from_west = omega arith; to_east = omega (arith, pow2_pos l) }

  first-row : InRows n l d (row n d)
  first-row = record { from_north = omega arith; to_south = omega (arith, pow2_pos l) }

  column-inside : (x : ℕ) → InColumns n l d x → x < 2 ^ n
  column-inside x c = omega (arith, square_in_image n l d level room multiple)

  row_inside : (y : ℕ) → InRows n l d y → y < 2 ^ n
  row_inside y r = omega (arith, square_in_image n l d level room multiple)

  -- What lies straight north or west of the block is done, what lies straight south or east of it comes after it.
  pub done_north_of_block : (x y : ℕ) → InColumns n l d x → y < row n d → code n x y < d
  done_north_of_block x y c h =
      let top = in_square x (row n d) c first-row in
      let up : code n x y < code n x (row n d) = code_grows_in_y n x y (row n d) h (row_below n d) in
      off_square x y (column-inside x c) (omega (arith, row_below n d)) (λ s. omega (arith, s.1.from_north)) (omega arith)

  pub done_west_of_block : (x y : ℕ) → InRows n l d y → x < column n d → code n x y < d
  done_west_of_block x y r h =
      let top = in_square (column n d) y first-column r in
      let up : code n x y < code n (column n d) y = code_grows_in_x n x (column n d) y h (column-below n d) in
      off_square x y (omega (arith, column-below n d)) (row_inside y r) (λ s. omega (arith, s.0.from_west)) (omega arith)

  pub south_of_block_later : (x y : ℕ) → InColumns n l d x → row n d + 2 ^ l ≤ y → y < 2 ^ n → d + 4 ^ l ≤ code n x y
  south_of_block_later x y c h b = pick (dec_lt (code n x y) (d + 4 ^ l))
    where
      pick : Dec (code n x y < d + 4 ^ l) → d + 4 ^ l ≤ code n x y
      pick (no f) = omega arith
      pick (yes t) =
          let top = in_square x (row n d) c first-row in
          let down : code n x (row n d) < code n x y = code_grows_in_y n x (row n d) y (omega (arith, pow2_pos l)) b in
          absurd (omega (arith, off_square x y (column-inside x c) b (λ s. omega (arith, s.1.to_south)) t))

  pub east_of_block_later : (x y : ℕ) → InRows n l d y → column n d + 2 ^ l ≤ x → x < 2 ^ n → d + 4 ^ l ≤ code n x y
  east_of_block_later x y r h b = pick (dec_lt (code n x y) (d + 4 ^ l))
    where
      pick : Dec (code n x y < d + 4 ^ l) → d + 4 ^ l ≤ code n x y
      pick (no f) = omega arith
      pick (yes t) =
          let top = in_square (column n d) y first-column r in
          let on : code n (column n d) y < code n x y = code_grows_in_x n (column n d) x y (omega (arith, pow2_pos l)) b in
          absurd (omega (arith, off_square x y b (row_inside y r) (λ s. omega (arith, s.0.to_east)) t))

  -- Before the block its columns are done down to the row above it, and its rows up to the column before it.
  pub columns_before_block : (x : ℕ) → InColumns n l d x → done_in_column n d x ≡ row n d
  columns_before_block x c = column-is n d x (row n d) (above (row n d) refl) not_here
    where
      above : (r : ℕ) → row n d ≡ r → done n d (suc x) (row n d) ≡ true
      above zero e = rw e (done-north n d (suc x))
      above (suc y) e =
          rw e
          (done_pixel n d x y (column-inside x c) (omega (arith, row_below n d)) ∙ lt-ltb (code n x y) d (done_north_of_block x y c (omega arith)))

      not_here : done n d (suc x) (suc (row n d)) ≡ false
      not_here =
          done_pixel n d x (row n d) (column-inside x c) (row_below n d) ∙ le-ltb (code n x (row n d)) d (in_square x (row n d) c first-row).0

  pub rows-before-block : (y : ℕ) → InRows n l d y → done_in_row n d y ≡ column n d
  rows-before-block y r = row_is n d y (column n d) (before (column n d) refl) not_here
    where
      before : (c : ℕ) → column n d ≡ c → done n d (column n d) (suc y) ≡ true
      before zero e = rw e (done-west n d (suc y))
      before (suc x) e =
          rw e
          (done_pixel n d x y (omega (arith, column-below n d)) (row_inside y r) ∙ lt-ltb (code n x y) d (done_west_of_block x y r (omega arith)))

      not_here : done n d (suc (column n d)) (suc y) ≡ false
      not_here =
          done_pixel n d (column n d) y (column-below n d) (row_inside y r) ∙ le-ltb (code n (column n d) y) d (in_square (column n d) y first-column r).0

  -- After it they are done as far as it goes.
  pub columns_after_block : (x : ℕ) → InColumns n l d x → done_in_column n (d + 4 ^ l) x ≡ row n d + 2 ^ l
  columns_after_block x c = column-is n (d + 4 ^ l) x (row n d + 2 ^ l) (last (row n d + 2 ^ l) refl) (next (dec_lt (row n d + 2 ^ l) (2 ^ n)))
    where
      last : (r : ℕ) → row n d + 2 ^ l ≡ r → done n (d + 4 ^ l) (suc x) r ≡ true
      last zero e = done-north n (d + 4 ^ l) (suc x)
      last (suc y) e =
          let i : InRows n l d y = record { from_north = omega (arith, pow2_pos l); to_south = omega arith } in
          done_pixel n (d + 4 ^ l) x y (column-inside x c) (row_inside y i) ∙ lt-ltb (code n x y) (d + 4 ^ l) (in_square x y c i).1

      next : Dec (row n d + 2 ^ l < 2 ^ n) → done n (d + 4 ^ l) (suc x) (suc (row n d + 2 ^ l)) ≡ false
      next (yes b) =
          done_pixel n (d + 4 ^ l) x (row n d + 2 ^ l) (column-inside x c) b
          ∙ le-ltb (code n x (row n d + 2 ^ l)) (d + 4 ^ l) (south_of_block_later x (row n d + 2 ^ l) c (omega arith) b)
      next (no f) = done_south n (d + 4 ^ l) (suc x) (suc (row n d + 2 ^ l)) (omega arith) (omega arith)

  pub rows-after-block : (y : ℕ) → InRows n l d y → done_in_row n (d + 4 ^ l) y ≡ column n d + 2 ^ l
  rows-after-block y r = row_is n (d + 4 ^ l) y (column n d + 2 ^ l) (last (column n d + 2 ^ l) refl) (next (dec_lt (column n d + 2 ^ l) (2 ^ n)))
    where
      last : (c : ℕ) → column n d + 2 ^ l ≡ c → done n (d + 4 ^ l) c (suc y) ≡ true
      last zero e = done-west n (d + 4 ^ l) (suc y)
      last (suc x) e =
          let i : InColumns n l d x = record { from_west = omega (arith, pow2_pos l); to_east = omega arith } in
          done_pixel n (d + 4 ^ l) x y (column-inside x i) (row_inside y r) ∙ lt-ltb (code n x y) (d + 4 ^ l) (in_square x y i r).1

      next : Dec (column n d + 2 ^ l < 2 ^ n) → done n (d + 4 ^ l) (suc (column n d + 2 ^ l)) (suc y) ≡ false
      next (yes b) =
          done_pixel n (d + 4 ^ l) (column n d + 2 ^ l) y b (row_inside y r)
          ∙ le-ltb (code n (column n d + 2 ^ l) y) (d + 4 ^ l) (east_of_block_later (column n d + 2 ^ l) y r (omega arith) b)
      next (no f) = done_east n (d + 4 ^ l) (suc (column n d + 2 ^ l)) (suc y) (omega arith) (omega arith)

  -- No other pixel is done by it, so no other column or row goes further.
  pub done_off_block : (x y : ℕ) → x < 2 ^ n → y < 2 ^ n → ¬ (InColumns n l d x × InRows n l d y)
      → done n (d + 4 ^ l) (suc x) (suc y) ≡ done n d (suc x) (suc y)
  done_off_block x y a b off = done_pixel n (d + 4 ^ l) x y a b ∙ pick (dec_lt (code n x y) (d + 4 ^ l)) ∙ sym (done_pixel n d x y a b)
    where
      pick : Dec (code n x y < d + 4 ^ l) → ltb (code n x y) (d + 4 ^ l) ≡ ltb (code n x y) d
      pick (yes t) = lt-ltb (code n x y) (d + 4 ^ l) t ∙ sym (lt-ltb (code n x y) d (off_square x y a b off t))
      pick (no f) = le-ltb (code n x y) (d + 4 ^ l) (omega arith) ∙ sym (le-ltb (code n x y) d (omega arith))

  pub other_columns_stay : (x : ℕ) → x < 2 ^ n → ¬ InColumns n l d x → done_in_column n (d + 4 ^ l) x ≡ done_in_column n d x
  other_columns_stay x a off =
      column-is n (d + 4 ^ l) x (done_in_column n d x) (same (done_in_column n d x) ∙ (column_end n d x).0) (same (suc (done_in_column n d x)) ∙ (column_end n d x).1)
    where
      pick : (y : ℕ) → Dec (y < 2 ^ n) → done n (d + 4 ^ l) (suc x) (suc y) ≡ done n d (suc x) (suc y)
      pick y (yes b) = done_off_block x y a b (λ s. off s.0)
      pick y (no f) = done_south n (d + 4 ^ l) (suc x) (suc y) (omega arith) (omega arith) ∙ sym (done_south n d (suc x) (suc y) (omega arith) (omega arith))

      same : (r : ℕ) → done n (d + 4 ^ l) (suc x) r ≡ done n d (suc x) r
      same zero = done-north n (d + 4 ^ l) (suc x) ∙ sym (done-north n d (suc x))
      same (suc y) = pick y (dec_lt y (2 ^ n))

  pub other_rows_stay : (y : ℕ) → y < 2 ^ n → ¬ InRows n l d y → done_in_row n (d + 4 ^ l) y ≡ done_in_row n d y
  other_rows_stay y b off =
      row_is n (d + 4 ^ l) y (done_in_row n d y) (same (done_in_row n d y) ∙ (row_end n d y).0) (same (suc (done_in_row n d y)) ∙ (row_end n d y).1)
    where
      pick : (x : ℕ) → Dec (x < 2 ^ n) → done n (d + 4 ^ l) (suc x) (suc y) ≡ done n d (suc x) (suc y)
      pick x (yes a) = done_off_block x y a b (λ s. off s.1)
      pick x (no f) = done_east n (d + 4 ^ l) (suc x) (suc y) (omega arith) (omega arith) ∙ sym (done_east n d (suc x) (suc y) (omega arith) (omega arith))

      same : (c : ℕ) → done n (d + 4 ^ l) c (suc y) ≡ done n d c (suc y)
      same zero = done-west n (d + 4 ^ l) (suc y) ∙ sym (done-west n d (suc y))
      same (suc x) = pick x (dec_lt x (2 ^ n))
