-- The top row of a block: of a block's pixels only those of its top row can have a north side that is an edge.
use Rattle.std.specs.Prelude.{◌≡◌, refl, ◌≢◌, ◌⊎◌, List, [], ◌∷◌, ℕ, zero, suc, ◌+◌, ◌%◌, ◌^◌, ◌≤◌, ◌<◌, length, take, get_or}
use Rattle.std.proofs.Common.{sym, ap, ◌∙◌, inl, inr}
use Rattle.std.proofs.Math.Path.{subst}
use Rattle.std.proofs.Math.Decide.{ℕ_discrete}
use native.Mathlib.Omega.{arith}
use Rattle.sequences.specs.Powers.{pow2_pos}
use Rattle.interleaving.specs.Codes.{code, column, row}
use Rattle.interleaving.specs.Interleaving.{code_grows_in_x, column-below, row_below, code_of_coordinates}
use Rattle.location.specs.Squares.{square_in_image, block_is_square}
use Rattle.quadtree.specs.Blocks.{Block, pixels, paint}
use Rattle.quadtree.specs.Number.{cover}
use Rattle.staircase.specs.FirstBlocks.{Placed}
use Rattle.components.specs.Holders.{block_at, HoldsAt, held_colour, placed, pixels_with, held_in_image}
use Rattle.orbits.specs.Members.{In, Ordered, in_later, in_cases, in_none, ordered_cons}
use Rattle.grid.specs.Map.{region_at}
use Rattle.grid.specs.Margins.{region-inside}
use Rattle.grid.specs.Steps.{Edge}
use Rattle.grid.specs.Cycles.{north_side}
use Rattle.grid.specs.North.{corner-north, north-edge}

-- The codes of the k pixels of the row y from the column x on, from west to east.
unfoldable pub row_from : ℕ → ℕ → ℕ → ℕ → List ℕ
unfolding code
row_from n y x zero = []
row_from n y x (suc k) = code n x y ∷ row_from n y (suc x) k

-- The pixels of a block's top row.
unfoldable pub top_row : ℕ → Block → List ℕ
unfolding row_from column row
top_row n b = row_from n (row n b.code) (column n b.code) (2 ^ b.level)

-- ---- which pixels a row has, and in which order

pub record InRow (n y x k c : ℕ) : Type 0 where
  pub at : ℕ
  pub from : x ≤ at
  pub before : at < x + k
  pub is : code n at y ≡ c

pub in_row : (n y x k c : ℕ) → In c (row_from n y x k) → InRow n y x k c
unfolding row_from
in_row n y x zero c i = in_none c i
in_row n y x (suc k) c i = pick (in_cases c (code n x y) (row_from n y (suc x) k) i) (in_row n y (suc x) k c)
  where
    pick : (c ≡ code n x y) ⊎ In c (row_from n y (suc x) k) → (In c (row_from n y (suc x) k) → InRow n y (suc x) k c) → InRow n y x (suc k) c
    pick (inl e) ih = record { at = x; from = omega arith; before = omega arith; is = sym e }
    pick (inr j) ih = let w = ih j in record { at = w.at; from = omega (arith, w.from); before = omega (arith, w.before); is = w.is }

pub row_in : (n y x k z : ℕ) → x ≤ z → z < x + k → In (code n z y) (row_from n y x k)
unfolding row_from
row_in n y x zero z a b = absurd (omega arith)
row_in n y x (suc k) z a b = pick (ℕ_discrete x z) (row_in n y (suc x) k z)
  where
    pick : Dec (x ≡ z) → (suc x ≤ z → z < suc x + k → In (code n z y) (row_from n y (suc x) k)) → In (code n z y) (row_from n y x (suc k))
    pick (yes e) ih = (0, omega arith, ap (λ (v : ℕ). code n v y) e)
    pick (no d) ih = in_later (code n z y) (code n x y) (row_from n y (suc x) k) (ih (omega arith) (omega arith))

pub row_rises : (n y x k : ℕ) → x + k ≤ 2 ^ n → Ordered ◌<◌ (row_from n y x k)
unfolding row_from
row_rises n y x zero h = λ i j a b. let z : ⊥ = omega arith in absurd z
row_rises n y x (suc k) h =
    ordered_cons ◌<◌ (code n x y) (row_from n y (suc x) k)
    (λ c i. let w = in_row n y (suc x) k c i in
    subst (λ v. code n x y < v) w.is (code_grows_in_x n x w.at y (omega (arith, w.from)) (omega (arith, w.before))))
    (row_rises n y (suc x) k (omega arith))

-- ---- in a list that covers the image

module _ (n : ℕ) (bs : List Block) (covering : cover n 0 bs ≡ 0) where
  -- The square of the block at the place i: the pixels that it holds.
  module _ (i : ℕ) (place : i < length bs) where
    at : Placed n (pixels (take i bs)) (block_at bs i)
    at = placed n bs covering i place

    pub block_level : (block_at bs i).level ≤ n
    block_level = at.low

    pub block_inside : (block_at bs i).code < 4 ^ n
    block_inside = omega (arith, at.here, at.room)

    pub block_multiple : (block_at bs i).code % 4 ^ (block_at bs i).level ≡ 0
    block_multiple = ap (λ (c : ℕ). c % 4 ^ (block_at bs i).level) at.here ∙ at.multiple

    pub block-square : (column n (block_at bs i).code + 2 ^ (block_at bs i).level ≤ 2 ^ n) × (row n (block_at bs i).code + 2 ^ (block_at bs i).level ≤ 2 ^ n)
    block-square = let s = square_in_image n (block_at bs i).level (block_at bs i).code block_level block_inside block_multiple in (s.0, s.1)

    pub square-held : (x y : ℕ)
        → (column n (block_at bs i).code ≤ x) × (x < column n (block_at bs i).code + 2 ^ (block_at bs i).level)
        × (row n (block_at bs i).code ≤ y) × (y < row n (block_at bs i).code + 2 ^ (block_at bs i).level)
        → HoldsAt bs i (code n x y)
    square-held x y h =
        let s = block-square in
        let w = (block_is_square n (block_at bs i).level (block_at bs i).code block_level block_inside block_multiple x y (omega arith) (omega arith)).1 h in
        record { place = place; from = omega (arith, at.here, w.0); before = omega (arith, at.here, w.1, pixels_with n bs covering i place) }

    -- A pixel of the top row is one of the block's.
    pub top-row-held : (c : ℕ) → In c (top_row n (block_at bs i)) → HoldsAt bs i c
    unfolding top_row
    top-row-held c k =
        let w = in_row n (row n (block_at bs i).code) (column n (block_at bs i).code) (2 ^ (block_at bs i).level) c k in
        subst (HoldsAt bs i) w.is
        (square-held w.at (row n (block_at bs i).code) (w.from, w.before, omega arith, omega (arith, pow2_pos (block_at bs i).level)))

    pub top-row_rises : Ordered ◌<◌ (top_row n (block_at bs i))
    unfolding top_row
    top-row_rises = row_rises n (row n (block_at bs i).code) (column n (block_at bs i).code) (2 ^ (block_at bs i).level) block-square.0

  -- The pixels of a block lie in its square.
  pub held_in_square : (i c : ℕ) → HoldsAt bs i c
      → (column n (block_at bs i).code ≤ column n c) × (column n c < column n (block_at bs i).code + 2 ^ (block_at bs i).level)
      × (row n (block_at bs i).code ≤ row n c) × (row n c < row n (block_at bs i).code + 2 ^ (block_at bs i).level)
  held_in_square i c h =
      let e : code n (column n c) (row n c) ≡ c = code_of_coordinates n c (held_in_image n bs covering i c h) in
      let at = placed n bs covering i h.place in
      (block_is_square n (block_at bs i).level (block_at bs i).code (block_level i h.place) (block_inside i h.place) (block_multiple i h.place)
      (column n c) (row n c) (column-below n c) (row_below n c)).0
      (omega (arith, e, at.here, h.from), omega (arith, e, at.here, h.before, pixels_with n bs covering i h.place))

  -- Below the top row the pixel to the north is in the same block.
  north-held : (i c y : ℕ) → HoldsAt bs i c → row n c ≡ suc y → row n (block_at bs i).code ≢ row n c → HoldsAt bs i (code n (column n c) y)
  north-held i c y h e d = let s = held_in_square i c h in square-held i h.place (column n c) y (s.0, s.1, omega arith, omega arith)

  -- Where the colours are the region numbers, only a pixel of the top row can have a north side that is an edge.
  pub edge_in_top_row : n ≤ 8 → (i c : ℕ) → HoldsAt bs i c → Edge (region_at n (paint bs)) (suc (get_or (paint bs) c 0)) (north_side n c) → In c (top_row n (block_at bs i))
  unfolding top_row
  edge_in_top_row small i c h e = pick (ℕ_discrete (row n (block_at bs i).code) (row n c))
    where
      s : (column n (block_at bs i).code ≤ column n c) × (column n c < column n (block_at bs i).code + 2 ^ (block_at bs i).level)
          × (row n (block_at bs i).code ≤ row n c) × (row n c < row n (block_at bs i).code + 2 ^ (block_at bs i).level)
      s = held_in_square i c h

      l : c < 4 ^ n
      l = held_in_image n bs covering i c h

      north_same : row n (block_at bs i).code ≢ row n c → (Y : ℕ) → row n c ≡ Y → region_at n (paint bs) (suc (column n c)) Y ≡ suc (get_or (paint bs) c 0)
      north_same d zero q = absurd (omega (arith, s.2))
      north_same d (suc y) q =
          region-inside n (paint bs) (column n c) y (column-below n c) (omega (arith, row_below n c))
          ∙ ap suc (held_colour bs i (code n (column n c) y) (north-held i c y h q d) ∙ sym (held_colour bs i c h))

      pick : Dec (row n (block_at bs i).code ≡ row n c) → In c (row_from n (row n (block_at bs i).code) (column n (block_at bs i).code) (2 ^ (block_at bs i).level))
      pick (yes q) =
          subst (λ (v : ℕ). In v (row_from n (row n (block_at bs i).code) (column n (block_at bs i).code) (2 ^ (block_at bs i).level)))
          (ap (code n (column n c)) q ∙ code_of_coordinates n c l)
          (row_in n (row n (block_at bs i).code) (column n (block_at bs i).code) (2 ^ (block_at bs i).level) (column n c) s.0 s.1)
      pick (no d) =
          absurd ((north-edge n (paint bs) small c l).0 e (corner-north n (paint bs) small c ∙ north_same d (row n c) refl))
