-- The two ways between the orders of a raster, and where each entry goes.
use Rattle.std.specs.Prelude.{◌≡◌, refl, List, ℕ, ◌+◌, ◌*◌, ◌/◌, ◌%◌, ◌^◌, ◌<◌, length, get_or}
use Rattle.std.proofs.Common.{sym, ap, ◌∙◌, arith}
use Rattle.std.proofs.Math.Path.{ap₂}
use Rattle.std.proofs.Math.Arith.{digits_lt, digits_div, digits_mod}
use Rattle.sequences.specs.Powers.{square_of_side}
use Rattle.interleaving.specs.Codes.{code}
use Rattle.interleaving.specs.Interleaving.{code_below}
use Rattle.quadtree.specs.Raster.{place, in_code_order, in_rows}
use Rattle.quadtree.specs.Orders.{place_in, place_of_pixel, code_of_place, length_in_code_order, length_in_rows, in_code_order_at, in_rows_at, rows-after-code_order, code_order_after_rows}

-- "Rearrange a row-by-row raster into rising location code, and rearrange it back" (document 02, e). Rising location code is block order.
pub data Way : Type 0 where
  to_block_order : Way
  to_rows : Way

-- The way back.
abbrev pub back : Way → Way
back to_block_order = to_rows
back to_rows = to_block_order

-- What a raster becomes, for every n.
unfoldable pub rearranged : Way → ℕ → List ℕ → List ℕ
unfolding in_code_order in_rows
rearranged to_block_order n source = in_code_order n source
rearranged to_rows n source = in_rows n source

-- The code of the pixel at the place i of a raster.
unfoldable pub code_at : ℕ → ℕ → ℕ
unfolding code
code_at n i = code n (i % 2 ^ n) (i / 2 ^ n)

pub code_at_inside : (n i : ℕ) → code_at n i < 4 ^ n
unfolding code_at
code_at_inside n i = code_below n (i % 2 ^ n) (i / 2 ^ n)

-- That pixel's place in the source, and in the target.
unfoldable pub source_place : Way → ℕ → ℕ → ℕ
unfolding code_at
source_place to_block_order n i = i
source_place to_rows n i = code_at n i

unfoldable pub target_place : Way → ℕ → ℕ → ℕ
unfolding code_at
target_place to_block_order n i = code_at n i
target_place to_rows n i = i

-- Of a pixel's place in the rows and its code: where it is read, and where it is written.
abbrev pub read_at : Way → ℕ → ℕ → ℕ
read_at to_block_order at code = at
read_at to_rows at code = code

abbrev pub written_at : Way → ℕ → ℕ → ℕ
written_at to_block_order at code = code
written_at to_rows at code = at

-- Either way and then back gives the first raster.
pub back_again : (way : Way) (n : ℕ) (first : List ℕ) → length first ≡ 4 ^ n → rearranged (back way) n (rearranged way n first) ≡ first
unfolding rearranged
back_again to_block_order n first long = rows-after-code_order n first long
back_again to_rows n first long = code_order_after_rows n first long

pub length-rearranged : (way : Way) (n : ℕ) (source : List ℕ) → length (rearranged way n source) ≡ 4 ^ n
unfolding rearranged
length-rearranged to_block_order n source = length_in_code_order n source
length-rearranged to_rows n source = length_in_rows n source

-- Each entry goes to its place, no two go to one, and each place of the target is taken.
pub entry_there : (way : Way) (n : ℕ) (source : List ℕ) (i : ℕ) → i < 4 ^ n → get_or (rearranged way n source) (target_place way n i) 0 ≡ get_or source (source_place way n i) 0
unfolding rearranged target_place source_place code_at
entry_there to_block_order n source i h =
    in_code_order_at n source (code_at n i) (code_at_inside n i) ∙ ap (λ (j : ℕ). get_or source j 0) (place_of_pixel n i h)
entry_there to_rows n source i h = in_rows_at n source i h

pub target_inside : (way : Way) (n i : ℕ) → i < 4 ^ n → target_place way n i < 4 ^ n
unfolding target_place code_at
target_inside to_block_order n i h = code_at_inside n i
target_inside to_rows n i h = h

pub target_apart : (way : Way) (n i j : ℕ) → i < 4 ^ n → j < 4 ^ n → target_place way n i ≡ target_place way n j → i ≡ j
unfolding target_place code_at
target_apart to_block_order n i j a b e = sym (place_of_pixel n i a) ∙ ap (place n) e ∙ place_of_pixel n j b
target_apart to_rows n i j a b e = e

pub target_taken : (way : Way) (n c : ℕ) → c < 4 ^ n → (i : ℕ) × (i < 4 ^ n) × (target_place way n i ≡ c)
unfolding target_place code_at
target_taken to_block_order n c h = (place n c, place_in n c, code_of_place n c h)
target_taken to_rows n c h = (c, h, refl)

-- The pixel (x, y) stands at y times 2^n plus x in the rows, and at its location code in block order.
module _ (n : ℕ) {x y : ℕ} (in_row : x < 2 ^ n) (in_image : y < 2 ^ n) where
  pub pixel_inside : y * 2 ^ n + x < 4 ^ n
  pixel_inside = omega (arith, digits_lt in_image in_row, square_of_side n)

  pub code_of_pixel : code_at n (y * 2 ^ n + x) ≡ code n x y
  unfolding code_at
  code_of_pixel = ap₂ (code n) (digits_mod y in_row) (digits_div y in_row)
