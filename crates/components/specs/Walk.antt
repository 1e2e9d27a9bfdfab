-- The walk over the blocks of an accepted list: what holds after k blocks, that one block more keeps it, and what it comes to.
use Rattle.std.specs.Prelude.{◌≡◌, refl, ◌⊎◌, ℕ, zero, suc, ◌+◌, ◌-◌, ◌*◌, ◌^◌, ◌≤◌, ◌<◌, length, take}
use Rattle.std.proofs.Common.{sym, ap, ◌∙◌, inl, inr, eq-or-lt_of_le, arith}
use mathlib.Core.List.{List, [], ◌∷◌}
use Rattle.std.proofs.Math.ListN.{get_or}
use Rattle.sequences.specs.Fill.{fill}
use Rattle.sequences.specs.Ranges.{range, length-range}
use Rattle.interleaving.specs.Codes.{code, column, row}
use Rattle.interleaving.specs.Splitting.{column_wider, row_wider}
use Rattle.location.specs.Squares.{square_in_image}
use Rattle.quadtree.specs.Blocks.{Block, blocks, pixels}
use Rattle.quadtree.specs.Fields.{colours, colours_of_blocks, length-blocks}
use Rattle.quadtree.specs.Accepted.{Passes}
use Rattle.staircase.specs.Staircase.{done, done-inside}
use Rattle.staircase.specs.Rows.{done_in_row, done_in_column, row_end, column_end}
use Rattle.staircase.specs.NextBlock.{columns_before_block, rows-before-block}
use Rattle.unions.specs.Pairs.{Pair}
use Rattle.unions.specs.Representatives.{rep}
use Rattle.unions.specs.Counting.{below}
use Rattle.unions.specs.Roots.{Low, root, range_low, range_roots}
use Rattle.components.specs.Holders.{block_at, placed}
use Rattle.components.specs.LastBlocks.{last_in_column, last_in_row, ColumnOf, RowOf, north-entry, west-entry}
use Rattle.components.specs.BlockPairs.{span_pairs, unless_first, pairs_at_edge, span_same, north_pairs, west_pairs, block_pairs, no_pairs}
use Rattle.components.specs.Spans.{NamedSpan}

-- After the first k blocks: the roots of the parents p are the representatives of the pairs joined so far; the first 2^n entries of
-- the work list name the last block done in each column, the next 2^n the last block done in each row, wherever one is done; what
-- lies beyond these is as it was.
pub record Walking (n : ℕ) (cs ls ks work₀ : List ℕ) (k : ℕ) (work p : List ℕ) : Type 0 where
  pub place : k ≤ length cs
  pub low : Low p
  pub long : length p ≡ length cs
  pub roots : root p ≡ rep (block_pairs n (blocks cs ls ks) k)
  pub columns : (x : ℕ) → x < 2 ^ n → 0 < done_in_column n (pixels (take k (blocks cs ls ks))) x → get_or work x 0 ≡ last_in_column n (blocks cs ls ks) k x
  pub rows : (y : ℕ) → y < 2 ^ n → 0 < done_in_row n (pixels (take k (blocks cs ls ks))) y → get_or work (2 ^ n + y) 0 ≡ last_in_row n (blocks cs ls ks) k y
  pub same_length : length work ≡ length work₀
  pub room : 2 * 2 ^ n ≤ length work₀
  pub beyond : (i : ℕ) → 2 * 2 ^ n ≤ i → get_or work i 0 ≡ get_or work₀ i 0

-- What the code joins for the block k: the entries of its columns, and those of its rows, that name a block of its colour.
abbrev pub north_span : ℕ → List ℕ → List ℕ → List ℕ → ℕ → List ℕ → List Pair
north_span n cs ls ks k work = unless_first (row n (get_or cs k 0)) (span_pairs (λ x. get_or work x 0) ks k (column n (get_or cs k 0)) (2 ^ get_or ls k 0))

abbrev pub west_span : ℕ → List ℕ → List ℕ → List ℕ → ℕ → List ℕ → List Pair
west_span n cs ls ks k work = unless_first (column n (get_or cs k 0)) (span_pairs (λ x. get_or work x 0) ks k (2 ^ n + row n (get_or cs k 0)) (2 ^ get_or ls k 0))

-- What it stores: the block's place in the entries of its columns, then in those of its rows.
abbrev pub stored : ℕ → List ℕ → List ℕ → ℕ → List ℕ → List ℕ
stored n cs ls k work = fill (fill work (column n (get_or cs k 0)) (2 ^ get_or ls k 0) k) (2 ^ n + row n (get_or cs k 0)) (2 ^ get_or ls k 0) k

-- Block 1 of side 1 at (1, 0) in an image of side 2: the entry 1 for its column, the entry 2 for its row.
columns_then_rows : stored 1 (0 ∷ 1 ∷ []) (0 ∷ 0 ∷ []) 1 (9 ∷ 9 ∷ 9 ∷ 9 ∷ []) ≡ 9 ∷ 1 ∷ 1 ∷ 9 ∷ []
unfolding fill column row
columns_then_rows = refl

-- The block at the place k of three lists of equal length.
pub block_at_lem : (cs ls ks : List ℕ) → length cs ≡ length ls → length ls ≡ length ks → (k : ℕ) → k < length cs
    → block_at (blocks cs ls ks) k ≡ record { code = get_or cs k 0; level = get_or ls k 0; colour = get_or ks k 0 }
unfolding blocks
block_at_lem [] ls ks e f k h = absurd (omega arith)
block_at_lem (c ∷ cs) [] ks e f k h = absurd (omega arith)
block_at_lem (c ∷ cs) (l ∷ ls) [] e f k h = absurd (omega arith)
block_at_lem (c ∷ cs) (l ∷ ls) (v ∷ ks) e f zero h = refl
block_at_lem (c ∷ cs) (l ∷ ls) (v ∷ ks) e f (suc k) h = block_at_lem cs ls ks (omega arith) (omega arith) k (omega arith)

-- Before the first block nothing is done.
none_in_column : (n x : ℕ) → ¬ (0 < done_in_column n 0 x)
none_in_column n x p = pick (done_in_column n 0 x) refl p
  where
    pick : (r : ℕ) → done_in_column n 0 x ≡ r → 0 < r → ⊥
    pick zero e q = omega arith
    pick (suc y) e q = omega (arith, (done-inside n 0 x y (rw e at (column_end n 0 x).0)).below)

none_in_row : (n y : ℕ) → ¬ (0 < done_in_row n 0 y)
none_in_row n y p = pick (done_in_row n 0 y) refl p
  where
    pick : (r : ℕ) → done_in_row n 0 y ≡ r → 0 < r → ⊥
    pick zero e q = omega arith
    pick (suc x) e q = omega (arith, (done-inside n 0 x y (rw e at (row_end n 0 y).0)).below)

-- The walk begins with each block its own parent, and with any work list.
pub begin : (n : ℕ) (cs ls ks work : List ℕ) → 2 * 2 ^ n ≤ length work → Walking n cs ls ks work 0 work (range 0 (length cs))
unfolding pixels
begin n cs ls ks work room = record {
  place = omega arith;
  low = range_low (length cs);
  long = length-range 0 (length cs);
  roots = range_roots (length cs) ∙ sym (ap rep (no_pairs n (blocks cs ls ks)));
  columns = λ x a p. absurd (none_in_column n x p);
  rows = λ y a p. absurd (none_in_row n y p);
  same_length = refl;
  room = room;
  beyond = λ i h. refl;
}

module _ {n : ℕ} {cs ls ks : List ℕ} (passes : Passes n cs ls ks) where
  pub block-count : length (blocks cs ls ks) ≡ length cs
  block-count = length-blocks cs ls ks passes.equal_levels passes.equal_colours

  pub colour_list_lem : colours (blocks cs ls ks) ≡ ks
  colour_list_lem = colours_of_blocks cs ls ks passes.equal_levels passes.equal_colours

  -- ---- the block that comes next

  module _ (k : ℕ) (less : k < length cs) where
    pub inside : k < length (blocks cs ls ks)
    inside = omega (arith, block-count)

    pub code_is : (block_at (blocks cs ls ks) k).code ≡ get_or cs k 0
    code_is = ap (λ (b : Block). b.code) (block_at_lem cs ls ks passes.equal_levels passes.equal_colours k less)

    pub level_is : (block_at (blocks cs ls ks) k).level ≡ get_or ls k 0
    level_is = ap (λ (b : Block). b.level) (block_at_lem cs ls ks passes.equal_levels passes.equal_colours k less)

    pub first-is : pixels (take k (blocks cs ls ks)) ≡ get_or cs k 0
    first-is = sym (placed n (blocks cs ls ks) passes.covering k inside).here ∙ code_is

    pub level_at_most : get_or ls k 0 ≤ n
    level_at_most = omega (arith, level_is, (placed n (blocks cs ls ks) passes.covering k inside).low)

    pub code_in_image : get_or cs k 0 < 4 ^ n
    code_in_image = omega (arith, first-is, (placed n (blocks cs ls ks) passes.covering k inside).room)

    -- Its columns and rows lie within the image.
    pub block_in_image : (column n (get_or cs k 0) + 2 ^ get_or ls k 0 ≤ 2 ^ n) × (row n (get_or cs k 0) + 2 ^ get_or ls k 0 ≤ 2 ^ n)
    block_in_image =
        let p = placed n (blocks cs ls ks) passes.covering k inside in
        let s = square_in_image n (block_at (blocks cs ls ks) k).level (pixels (take k (blocks cs ls ks))) p.low p.room p.multiple in
        omega (arith, ap (column n) first-is, ap (row n) first-is, ap (λ (l : ℕ). 2 ^ l) level_is)

    -- Coordinates by 16 digits, as the code has them, are those by n.
    pub column_in_code : column 16 (get_or cs k 0) ≡ column n (get_or cs k 0)
    column_in_code = column_wider n 16 (get_or cs k 0) (omega (arith, passes.small)) code_in_image

    pub row_in_code : row 16 (get_or cs k 0) ≡ row n (get_or cs k 0)
    row_in_code = row_wider n 16 (get_or cs k 0) (omega (arith, passes.small)) code_in_image

    pub column_of : (x : ℕ) → column n (get_or cs k 0) ≤ x → x < column n (get_or cs k 0) + 2 ^ get_or ls k 0 → ColumnOf n (blocks cs ls ks) k x
    column_of x a b = record { from_west = omega (arith, ap (column n) first-is); to_east = omega (arith, ap (column n) first-is, ap (λ (l : ℕ). 2 ^ l) level_is) }

    pub row_of : (y : ℕ) → row n (get_or cs k 0) ≤ y → y < row n (get_or cs k 0) + 2 ^ get_or ls k 0 → RowOf n (blocks cs ls ks) k y
    row_of y a b = record { from_north = omega (arith, ap (row n) first-is); to_south = omega (arith, ap (row n) first-is, ap (λ (l : ℕ). 2 ^ l) level_is) }

    pub of_column : (x : ℕ) → ColumnOf n (blocks cs ls ks) k x → (column n (get_or cs k 0) ≤ x) × (x < column n (get_or cs k 0) + 2 ^ get_or ls k 0)
    of_column x c = omega (arith, c.from_west, c.to_east, ap (column n) first-is, ap (λ (l : ℕ). 2 ^ l) level_is)

    pub of_row : (y : ℕ) → RowOf n (blocks cs ls ks) k y → (row n (get_or cs k 0) ≤ y) × (y < row n (get_or cs k 0) + 2 ^ get_or ls k 0)
    of_row y r = omega (arith, r.from_north, r.to_south, ap (row n) first-is, ap (λ (l : ℕ). 2 ^ l) level_is)

    -- How far its columns and rows are done before it.
    columns_done : (x : ℕ) → ColumnOf n (blocks cs ls ks) k x → done_in_column n (pixels (take k (blocks cs ls ks))) x ≡ row n (get_or cs k 0)
    columns_done x c =
        let p = placed n (blocks cs ls ks) passes.covering k inside in
        columns_before_block n (block_at (blocks cs ls ks) k).level (pixels (take k (blocks cs ls ks))) p.low p.room p.multiple x c ∙ ap (row n) first-is

    rows-done : (y : ℕ) → RowOf n (blocks cs ls ks) k y → done_in_row n (pixels (take k (blocks cs ls ks))) y ≡ column n (get_or cs k 0)
    rows-done y r =
        let p = placed n (blocks cs ls ks) passes.covering k inside in
        rows-before-block n (block_at (blocks cs ls ks) k).level (pixels (take k (blocks cs ls ks))) p.low p.room p.multiple y r ∙ ap (column n) first-is

    module _ {work₀ work p : List ℕ} (w : Walking n cs ls ks work₀ k work p) where
      -- The entries of its columns are those of the border, where it does not begin in the first row; and so for its rows.
      north_read : (x : ℕ) → 0 < row n (get_or cs k 0) → ColumnOf n (blocks cs ls ks) k x → get_or work x 0 ≡ last_in_column n (blocks cs ls ks) k x
      north_read x positive c = w.columns x (omega (arith, of_column x c, block_in_image)) (omega (arith, columns_done x c))

      west_read : (y : ℕ) → 0 < column n (get_or cs k 0) → RowOf n (blocks cs ls ks) k y → get_or work (2 ^ n + y) 0 ≡ last_in_row n (blocks cs ls ks) k y
      west_read y positive r = w.rows y (omega (arith, of_row y r, block_in_image)) (omega (arith, rows-done y r))

      -- So they name earlier blocks.
      pub north-ready : 0 < row n (get_or cs k 0) → NamedSpan work (column n (get_or cs k 0)) (2 ^ get_or ls k 0) ks k p
      north-ready positive = record {
        inside = omega (arith, block_in_image, w.room, w.same_length);
        each = λ x a b. early x (column_of x a b);
        own = omega (arith, passes.equal_levels, passes.equal_colours);
        long = omega (arith, w.long, passes.equal_levels, passes.equal_colours);
        low = w.low;
      }
        where
          early : (x : ℕ) → ColumnOf n (blocks cs ls ks) k x → get_or work x 0 < length ks
          early x c =
              let e = north-entry n (blocks cs ls ks) passes.covering k inside x c (omega (arith, ap (row n) first-is)) in
              omega (arith, north_read x positive c, e.done, passes.equal_levels, passes.equal_colours)

      pub west-ready : {p₁ : List ℕ} → Low p₁ → length p₁ ≡ length p → 0 < column n (get_or cs k 0)
          → NamedSpan work (2 ^ n + row n (get_or cs k 0)) (2 ^ get_or ls k 0) ks k p₁
      west-ready {p₁} low₁ long₁ positive = record {
        inside = omega (arith, block_in_image, w.room, w.same_length);
        each = λ x a b. early x a b;
        own = omega (arith, passes.equal_levels, passes.equal_colours);
        long = omega (arith, w.long, passes.equal_levels, passes.equal_colours);
        low = low₁;
      }
        where
          early : (x : ℕ) → 2 ^ n + row n (get_or cs k 0) ≤ x → x < 2 ^ n + row n (get_or cs k 0) + 2 ^ get_or ls k 0 → get_or work x 0 < length ks
          early x a b =
              let y : ℕ = x - 2 ^ n in
              let at : x ≡ 2 ^ n + y = omega arith in
              let r : RowOf n (blocks cs ls ks) k y = row_of y (omega arith) (omega arith) in
              let e = west-entry n (blocks cs ls ks) passes.covering k inside y r (omega (arith, ap (column n) first-is)) in
              omega (arith, ap (λ (i : ℕ). get_or work i 0) at, west_read y positive r, e.done, passes.equal_levels, passes.equal_colours)

      -- The pairs that the code joins are the block's.
      pub north_span_lem : north_span n cs ls ks k work ≡ north_pairs n (blocks cs ls ks) k
      unfolding north_pairs
      north_span_lem = rw (code_is, level_is, colour_list_lem) (pick (eq-or-lt_of_le (omega arith)))
        where
          mine : List Pair
          mine = span_pairs (λ x. get_or work x 0) ks k (column n (get_or cs k 0)) (2 ^ get_or ls k 0)

          block : List Pair
          block = span_pairs (last_in_column n (blocks cs ls ks) k) ks k (column n (get_or cs k 0)) (2 ^ get_or ls k 0)

          pick : (0 ≡ row n (get_or cs k 0)) ⊎ (0 < row n (get_or cs k 0)) → unless_first (row n (get_or cs k 0)) mine ≡ unless_first (row n (get_or cs k 0)) block
          pick (inl z) = pairs_at_edge (row n (get_or cs k 0)) mine (sym z) ∙ sym (pairs_at_edge (row n (get_or cs k 0)) block (sym z))
          pick (inr positive) =
              ap (unless_first (row n (get_or cs k 0)))
              (span_same (λ x. get_or work x 0) (last_in_column n (blocks cs ls ks) k) ks k (column n (get_or cs k 0)) (column n (get_or cs k 0)) (2 ^ get_or ls k 0)
              (λ t l. north_read (column n (get_or cs k 0) + t) positive (column_of (column n (get_or cs k 0) + t) (omega arith) (omega arith))))

      pub west_span_lem : west_span n cs ls ks k work ≡ west_pairs n (blocks cs ls ks) k
      unfolding west_pairs
      west_span_lem = rw (code_is, level_is, colour_list_lem) (pick (eq-or-lt_of_le (omega arith)))
        where
          mine : List Pair
          mine = span_pairs (λ x. get_or work x 0) ks k (2 ^ n + row n (get_or cs k 0)) (2 ^ get_or ls k 0)

          block : List Pair
          block = span_pairs (last_in_row n (blocks cs ls ks) k) ks k (row n (get_or cs k 0)) (2 ^ get_or ls k 0)

          read : (t : ℕ) → t < 2 ^ get_or ls k 0 → 0 < column n (get_or cs k 0) → get_or work (2 ^ n + row n (get_or cs k 0) + t) 0 ≡ last_in_row n (blocks cs ls ks) k (row n (get_or cs k 0) + t)
          read t l positive =
              let at : 2 ^ n + row n (get_or cs k 0) + t ≡ 2 ^ n + (row n (get_or cs k 0) + t) = omega arith in
              ap (λ (i : ℕ). get_or work i 0) at ∙ west_read (row n (get_or cs k 0) + t) positive (row_of (row n (get_or cs k 0) + t) (omega arith) (omega arith))

          pick : (0 ≡ column n (get_or cs k 0)) ⊎ (0 < column n (get_or cs k 0)) → unless_first (column n (get_or cs k 0)) mine ≡ unless_first (column n (get_or cs k 0)) block
          pick (inl z) = pairs_at_edge (column n (get_or cs k 0)) mine (sym z) ∙ sym (pairs_at_edge (column n (get_or cs k 0)) block (sym z))
          pick (inr positive) =
              ap (unless_first (column n (get_or cs k 0)))
              (span_same (λ x. get_or work x 0) (last_in_row n (blocks cs ls ks) k) ks k (2 ^ n + row n (get_or cs k 0)) (row n (get_or cs k 0)) (2 ^ get_or ls k 0)
              (λ t l. read t l positive))
