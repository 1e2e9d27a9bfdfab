-- The border of the walk: for each column and each row the last block done in it.
use Rattle.std.specs.Prelude.{◌≡◌, refl, List, [], ◌∷◌, length, take}
use Rattle.std.proofs.Math.Path.{ap}
use Rattle.std.proofs.Common.{◌∙◌}
use Prim.Native.Nat.{ℕ, suc, ◌+◌, ◌-◌, ◌%◌, ◌^◌, ◌≤◌, ◌<◌}
use native.Mathlib.Omega.{arith}
use Rattle.sequences.specs.Powers.{pow2_pos}
use Rattle.interleaving.specs.Codes.{code, column, row}
use Rattle.location.specs.Squares.{block_is_square, square_in_image}
use Rattle.quadtree.specs.Blocks.{Block, blocks, pixels}
use Rattle.quadtree.specs.Number.{cover}
use Rattle.staircase.specs.Staircase.{done, done-inside}
use Rattle.staircase.specs.Edges.{east_from, north_from, Border}
use Rattle.staircase.specs.Rows.{count_true, done_in_row, done_in_column, row_end, column_end, one_side_per_row, one_side_per_column}
use Rattle.staircase.specs.NextBlock.{InColumns, InRows, done_north_of_block, done_west_of_block, columns_before_block, rows-before-block, columns_after_block, rows-after-block, other_columns_stay, other_rows_stay}
use Rattle.components.specs.Holders.{block_at, holder, HoldsAt, is_holder, held-before, placed, pixels_with, pixel_held, first_pixels_in_image}

-- The block that holds the done pixel beside the border in column x, and in row y, after the first k blocks: the last pixel done
-- there. Where none is done there yet, the border runs along the image's edge and the number says nothing.
unfoldable pub last_in_column : ℕ → List Block → ℕ → ℕ → ℕ
unfolding holder code done_in_column pixels
last_in_column n bs k x = holder bs (code n x (done_in_column n (pixels (take k bs)) x - 1))

unfoldable pub last_in_row : ℕ → List Block → ℕ → ℕ → ℕ
unfolding holder code done_in_row pixels
last_in_row n bs k y = holder bs (code n (done_in_row n (pixels (take k bs)) y - 1) y)

-- The first five blocks of dial 2 cover the two north rows: the last pixel done in column 1 is (1, 1), in row 1 it is (3, 1).
last_of_dial_2 : (last_in_column 2 (blocks (0 ∷ 1 ∷ 2 ∷ 3 ∷ 4 ∷ 8 ∷ 12 ∷ []) (0 ∷ 0 ∷ 0 ∷ 0 ∷ 1 ∷ 1 ∷ 1 ∷ []) (1 ∷ 1 ∷ 1 ∷ 2 ∷ 1 ∷ 1 ∷ 3 ∷ [])) 5 1 ≡ 3)
    × (last_in_row 2 (blocks (0 ∷ 1 ∷ 2 ∷ 3 ∷ 4 ∷ 8 ∷ 12 ∷ []) (0 ∷ 0 ∷ 0 ∷ 0 ∷ 1 ∷ 1 ∷ 1 ∷ []) (1 ∷ 1 ∷ 1 ∷ 2 ∷ 1 ∷ 1 ∷ 3 ∷ [])) 5 1 ≡ 4)
unfolding last_in_column last_in_row blocks count_true done
last_of_dial_2 = (refl, refl)

-- x is one of the columns, y one of the rows, of the block k.
abbrev pub ColumnOf : ℕ → List Block → ℕ → ℕ → Type 0
ColumnOf n bs k x = InColumns n (block_at bs k).level (pixels (take k bs)) x

abbrev pub RowOf : ℕ → List Block → ℕ → ℕ → Type 0
RowOf n bs k y = InRows n (block_at bs k).level (pixels (take k bs)) y

-- One of the first k blocks holds the pixel c.
pub record DoneBy (bs : List Block) (k i c : ℕ) : Type 0 where
  pub holds : HoldsAt bs i c
  pub done : i < k

module _ (n : ℕ) (bs : List Block) (covering : cover n 0 bs ≡ 0) where
  done_by : (k c : ℕ) → c < pixels (take k bs) → DoneBy bs k (holder bs c) c
  done_by k c l =
      let h = pixel_held n bs covering c (omega (arith, first_pixels_in_image n bs covering k)) in
      record { holds = h; done = (held-before bs (holder bs c) c k h).0 l }

  -- The border entry of a column or a row names the block that holds the done pixel beside the border: where the border's
  -- side in column x lies below the pixel (x, y), and so in a row.
  pub column-entry_names_done_block : (k x y : ℕ) → x < 2 ^ n → Border (2 ^ n) (done n (pixels (take k bs))) (east_from x (suc y))
      → DoneBy bs k (last_in_column n bs k x) (code n x y)
  unfolding last_in_column
  column-entry_names_done_block k x y inside side =
      let d : ℕ = pixels (take k bs) in
      let e : suc y ≡ done_in_column n d x = (one_side_per_column n d x inside (suc y)).0 side in
      let above : done_in_column n d x - 1 ≡ y = omega arith in
      let p = done-inside n d x y (rw (← e) at (column_end n d x).0) in
      rw above (done_by k (code n x y) p.below)

  pub row-entry_names_done_block : (k x y : ℕ) → y < 2 ^ n → Border (2 ^ n) (done n (pixels (take k bs))) (north_from (suc x) (suc y))
      → DoneBy bs k (last_in_row n bs k y) (code n x y)
  unfolding last_in_row
  row-entry_names_done_block k x y inside side =
      let d : ℕ = pixels (take k bs) in
      let e : suc x ≡ done_in_row n d y = (one_side_per_row n d y inside (suc x)).0 side in
      let before : done_in_row n d y - 1 ≡ x = omega arith in
      let p = done-inside n d x y (rw (← e) at (row_end n d y).0) in
      rw before (done_by k (code n x y) p.below)

  -- The block k comes next: its northwest pixel has the code `first`, its side is 2^level.
  module _ (k : ℕ) (place : k < length bs) where
    first : ℕ
    first = pixels (take k bs)

    level : ℕ
    level = (block_at bs k).level

    low : level ≤ n
    unfolding level
    low = (placed n bs covering k place).low

    room : first < 4 ^ n
    unfolding first
    room = (placed n bs covering k place).room

    multiple : first % 4 ^ level ≡ 0
    unfolding first level
    multiple = (placed n bs covering k place).multiple

    after : pixels (take (suc k) bs) ≡ first + 4 ^ level
    unfolding first level
    after = pixels_with n bs covering k place

    in_image : (column n first + 2 ^ level ≤ 2 ^ n) × (row n first + 2 ^ level ≤ 2 ^ n) × (first + 4 ^ level ≤ 4 ^ n)
    in_image = square_in_image n level first low room multiple

    -- It holds the pixels of its square.
    pub square-held : (x y : ℕ) → ColumnOf n bs k x → RowOf n bs k y → HoldsAt bs k (code n x y)
    unfolding first level
    square-held x y c r =
        let s = (block_is_square n level first low room multiple x y (omega (arith, in_image)) (omega (arith, in_image))).1 (c.from_west, c.to_east, r.from_north, r.to_south) in
        record { place = place; from = s.0; before = omega (arith, after) }

    pub held-square : (x y : ℕ) → x < 2 ^ n → y < 2 ^ n → HoldsAt bs k (code n x y) → ColumnOf n bs k x × RowOf n bs k y
    unfolding first level
    held-square x y a b h =
        let s = (block_is_square n level first low room multiple x y a b).0 (h.from, omega (arith, after, h.before)) in
        (record { from_west = s.0; to_east = s.1 }, record { from_north = s.2; to_south = s.3 })

    -- Before it, the entries of its columns name the blocks straight north of it, those of its rows the blocks straight west.
    pub north-entry : (x : ℕ) → ColumnOf n bs k x → 0 < row n (pixels (take k bs))
        → DoneBy bs k (last_in_column n bs k x) (code n x (row n (pixels (take k bs)) - 1))
    unfolding first level last_in_column
    north-entry x c p =
        let e : done_in_column n first x ≡ row n first = columns_before_block n level first low room multiple x c in
        let up : code n x (row n first - 1) < first = done_north_of_block n level first low room multiple x (row n first - 1) c (omega arith) in
        rw e (done_by k (code n x (row n first - 1)) up)

    pub west-entry : (y : ℕ) → RowOf n bs k y → 0 < column n (pixels (take k bs))
        → DoneBy bs k (last_in_row n bs k y) (code n (column n (pixels (take k bs)) - 1) y)
    unfolding first level last_in_row
    west-entry y r p =
        let e : done_in_row n first y ≡ column n first = rows-before-block n level first low room multiple y r in
        let up : code n (column n first - 1) y < first = done_west_of_block n level first low room multiple (column n first - 1) y r (omega arith) in
        rw e (done_by k (code n (column n first - 1) y) up)

    -- After it, the entries of its columns and rows name it, and the others are as they were.
    pub columns_written : (x : ℕ) → ColumnOf n bs k x → last_in_column n bs (suc k) x ≡ k
    unfolding first level last_in_column
    columns_written x c =
        let e : done_in_column n (pixels (take (suc k) bs)) x ≡ row n first + 2 ^ level =
        ap (λ (d : ℕ). done_in_column n d x) after ∙ columns_after_block n level first low room multiple x c in
        rw e
        (is_holder bs k (code n x (row n first + 2 ^ level - 1))
        (square-held x (row n first + 2 ^ level - 1) c (record { from_north = omega (arith, pow2_pos level); to_south = omega (arith, pow2_pos level) })))

    pub rows_written : (y : ℕ) → RowOf n bs k y → last_in_row n bs (suc k) y ≡ k
    unfolding first level last_in_row
    rows_written y r =
        let e : done_in_row n (pixels (take (suc k) bs)) y ≡ column n first + 2 ^ level =
        ap (λ (d : ℕ). done_in_row n d y) after ∙ rows-after-block n level first low room multiple y r in
        rw e
        (is_holder bs k (code n (column n first + 2 ^ level - 1) y)
        (square-held (column n first + 2 ^ level - 1) y (record { from_west = omega (arith, pow2_pos level); to_east = omega (arith, pow2_pos level) }) r))

    pub other_columns_kept : (x : ℕ) → x < 2 ^ n → ¬ ColumnOf n bs k x
        → (done_in_column n (pixels (take (suc k) bs)) x ≡ done_in_column n (pixels (take k bs)) x) × (last_in_column n bs (suc k) x ≡ last_in_column n bs k x)
    unfolding first level last_in_column
    other_columns_kept x a off =
        let e : done_in_column n (pixels (take (suc k) bs)) x ≡ done_in_column n first x =
        ap (λ (d : ℕ). done_in_column n d x) after ∙ other_columns_stay n level first low room multiple x a off in
        (e, ap (λ (y : ℕ). holder bs (code n x (y - 1))) e)

    pub other_rows_kept : (y : ℕ) → y < 2 ^ n → ¬ RowOf n bs k y
        → (done_in_row n (pixels (take (suc k) bs)) y ≡ done_in_row n (pixels (take k bs)) y) × (last_in_row n bs (suc k) y ≡ last_in_row n bs k y)
    unfolding first level last_in_row
    other_rows_kept y a off =
        let e : done_in_row n (pixels (take (suc k) bs)) y ≡ done_in_row n first y =
        ap (λ (d : ℕ). done_in_row n d y) after ∙ other_rows_stay n level first low room multiple y a off in
        (e, ap (λ (x : ℕ). holder bs (code n (x - 1) y)) e)
