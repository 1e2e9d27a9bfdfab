-- One block of the listing: its top row as the code finds it from the block's code and level.
use Rattle.std.specs.Prelude.{◌≡◌, List, ℕ, ◌%◌, ◌^◌, ◌≤◌, ◌<◌}
use Rattle.std.proofs.Common.{◌∙◌, arith}
use Rattle.sequences.specs.Powers.{pow2_mono}
use Rattle.interleaving.specs.Codes.{column, row}
use Rattle.interleaving.specs.Interleaving.{row_below}
use Rattle.location.specs.Levels.{side_of, side_is_power}
use Rattle.interleaving.specs.Splitting.{column_wider, row_wider}
use Rattle.location.specs.Squares.{square_in_image}
use Rattle.links.specs.TopRows.{row_from}
use Rattle.starts.specs.Progress.{State, PixelsNext, StartsListed}
use Rattle.starts.specs.Rows.{RowNext}

-- The pixels of the top row of the block with the code c and the level l.
abbrev pub top_of : ℕ → ℕ → ℕ → List ℕ
top_of n c l = row_from n (row n c) (column n c) (2 ^ l)

-- The code c and the level l are those of a block of the image.
pub record BlockInside (n c l : ℕ) : Type 0 where
  pub level : l ≤ n
  pub inside : c < 4 ^ n
  pub multiple : c % 4 ^ l ≡ 0

-- A block of the image comes next.
pub record BlockNext (n c l : ℕ) (s : State) : Type 0 where
  pub block : BlockInside n c l
  pub next : PixelsNext n (top_of n c l) s

module _ {n c l : ℕ} {s : State} (ok : BlockNext n c l s) where
  small : n ≤ 8
  small = ok.next.room.small

  module _ {x y w : ℕ} (ex : x ≡ column 16 c) (ey : y ≡ row 16 c) (ew : w ≡ side_of l) where
    wide : w ≡ 2 ^ l
    wide = ew ∙ side_is_power l (omega (arith, ok.block.level, small))

    x-is : x ≡ column n c
    x-is = ex ∙ column_wider n 16 c (omega (arith, small)) ok.block.inside

    y_is : y ≡ row n c
    y_is = ey ∙ row_wider n 16 c (omega (arith, small)) ok.block.inside

    pub top-row-next : RowNext n x y w s
    top-row-next = rw (x-is, y_is, wide) (record {
      x_inside = (square_in_image n l c ok.block.level ok.block.inside ok.block.multiple).0;
      y_inside = row_below n c;
      next = ok.next;
    })

    pub top-row_listed : {s₁ : State} → StartsListed n (row_from n y x w) s s₁ → StartsListed n (top_of n c l) s s₁
    top-row_listed t = rw (x-is, y_is, wide) at t

  pub side_low : side_of l ≤ 256
  side_low =
      let e : side_of l ≡ 2 ^ l = side_is_power l (omega (arith, ok.block.level, small)) in
      let low : l ≤ 8 = omega (arith, ok.block.level, small) in
      let k : 2 ^ l ≤ 2 ^ 8 = pow2_mono low in
      omega arith
