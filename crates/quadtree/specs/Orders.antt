-- The two orders of a raster undo each other, for every n.
use Rattle.std.specs.Prelude.{◌≡◌, List, ℕ, ◌+◌, ◌*◌, ◌/◌, ◌%◌, ◌^◌, ◌≤◌, ◌<◌, length, get_or}
use Rattle.std.proofs.Common.{sym, ap, ap₂, ◌∙◌, div-add-mod', mod-lt, div-lt_iff_lt-mul, arith}
use Rattle.std.proofs.Math.Arith.{digits_lt, digits_div, digits_mod}
use Rattle.sequences.specs.Powers.{pow2_pos, square_of_side}
use Rattle.sequences.specs.Ranges.{length-tabulate, tabulate_at, tabulate_from}
use Rattle.interleaving.specs.Codes.{code, row}
use Rattle.interleaving.specs.Interleaving.{code_below, column-below, row_below, column_of_code, row_of_code, code_of_coordinates}
use Rattle.location.specs.Places.{place_of, place_in_image}
use Rattle.quadtree.specs.Raster.{place, in_code_order, in_rows}

-- The pixel at the place i of a raster: its column and row lie in the image.
pub column_in : (n i : ℕ) → i % 2 ^ n < 2 ^ n
column_in n i = mod-lt i (pow2_pos n)

pub row_in : (n i : ℕ) → i < 4 ^ n → i / 2 ^ n < 2 ^ n
row_in n i h = (div-lt_iff_lt-mul (pow2_pos n)).1 (omega (arith, square_of_side n))

-- The place of a pixel's code is its place.
pub place_of_code : (n x y : ℕ) → x < 2 ^ n → y < 2 ^ n → place n (code n x y) ≡ y * 2 ^ n + x
unfolding place
place_of_code n x y hx hy = ap₂ (λ (a b : ℕ). a * 2 ^ n + b) (row_of_code n x y hy) (column_of_code n x y hx)

-- The location crate works it out from the code.
pub place_worked_out : (n c : ℕ) → n ≤ 16 → c < 4 ^ n → place_of n c ≡ place n c
unfolding place
place_worked_out n c small inside = place_in_image n c small inside

pub place_in : (n c : ℕ) → place n c < 4 ^ n
unfolding place
place_in n c = omega (arith, digits_lt (row_below n c) (column-below n c), square_of_side n)

-- The code of the pixel at a code's place is that code.
pub code_of_place : (n c : ℕ) → c < 4 ^ n → code n (place n c % 2 ^ n) (place n c / 2 ^ n) ≡ c
unfolding place
code_of_place n c h =
    ap₂ (code n) (digits_mod (row n c) (column-below n c)) (digits_div (row n c) (column-below n c)) ∙ code_of_coordinates n c h

-- The place of the code of the pixel at i is i.
pub place_of_pixel : (n i : ℕ) → i < 4 ^ n → place n (code n (i % 2 ^ n) (i / 2 ^ n)) ≡ i
place_of_pixel n i h = place_of_code n (i % 2 ^ n) (i / 2 ^ n) (column_in n i) (row_in n i h) ∙ div-add-mod' i (2 ^ n)

pub length_in_code_order : (n : ℕ) (raster : List ℕ) → length (in_code_order n raster) ≡ 4 ^ n
unfolding in_code_order
length_in_code_order n raster = length-tabulate (4 ^ n) (λ c. get_or raster (place n c) 0)

pub length_in_rows : (n : ℕ) (px : List ℕ) → length (in_rows n px) ≡ 4 ^ n
unfolding in_rows
length_in_rows n px = length-tabulate (4 ^ n) (λ i. get_or px (code n (i % 2 ^ n) (i / 2 ^ n)) 0)

pub in_code_order_at : (n : ℕ) (raster : List ℕ) (c : ℕ) → c < 4 ^ n → get_or (in_code_order n raster) c 0 ≡ get_or raster (place n c) 0
unfolding in_code_order
in_code_order_at n raster c h = tabulate_at (4 ^ n) (λ d. get_or raster (place n d) 0) c h

pub in_rows_at : (n : ℕ) (px : List ℕ) (i : ℕ) → i < 4 ^ n → get_or (in_rows n px) i 0 ≡ get_or px (code n (i % 2 ^ n) (i / 2 ^ n)) 0
unfolding in_rows
in_rows_at n px i h = tabulate_at (4 ^ n) (λ j. get_or px (code n (j % 2 ^ n) (j / 2 ^ n)) 0) i h

-- Row by row, after code order.
pub rows-after-code_order : (n : ℕ) (raster : List ℕ) → length raster ≡ 4 ^ n → in_rows n (in_code_order n raster) ≡ raster
unfolding in_rows
rows-after-code_order n raster long =
    sym (tabulate_from (4 ^ n) (λ i. get_or (in_code_order n raster) (code n (i % 2 ^ n) (i / 2 ^ n)) 0) raster long (λ i h.
    sym (in_code_order_at n raster (code n (i % 2 ^ n) (i / 2 ^ n)) (code_below n (i % 2 ^ n) (i / 2 ^ n))
    ∙ ap (λ (j : ℕ). get_or raster j 0) (place_of_pixel n i h))))

-- Code order, after row by row.
pub code_order_after_rows : (n : ℕ) (px : List ℕ) → length px ≡ 4 ^ n → in_code_order n (in_rows n px) ≡ px
unfolding in_code_order
code_order_after_rows n px long =
    sym (tabulate_from (4 ^ n) (λ c. get_or (in_rows n px) (place n c) 0) px long (λ c h.
    sym (in_rows_at n px (place n c) (place_in n c) ∙ ap (λ (d : ℕ). get_or px d 0) (code_of_place n c h))))
