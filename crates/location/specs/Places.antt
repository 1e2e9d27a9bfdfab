-- Where the pixel with a code stands in a list that holds an image row by row.
use Rattle.std.specs.Prelude.{◌≡◌, true, false, ℕ, ◌+◌, ◌*◌, ◌^◌, ◌≤◌, ◌<◌, ltb}
use Rattle.std.proofs.Common.{sym, ap₂, ◌∙◌, mul-le-mul, arith, lt-ltb, le-ltb}
use Rattle.sequences.specs.Powers.{pow2_mono}
use Rattle.interleaving.specs.Codes.{column, row}
use Rattle.interleaving.specs.Interleaving.{row_below}
use Rattle.location.specs.Levels.{side_of, side_is_power}
use Rattle.interleaving.specs.Splitting.{column_wider, row_wider}

-- The place of the pixel with the code c in a raster of side 2^n "(row by row, north row first)" (document 01, "The dial as
-- blocks"), for n up to 16: a code of 32 bits has 16 digits of x and of y. 0 above.
unfoldable pub place_of : ℕ → ℕ → ℕ
unfolding row column side_of
place_of n c = elim (ltb 16 n) [ true ↦ 0 | false ↦ row 16 c * side_of n + column 16 c ]

pub place_above : (n c : ℕ) → 16 < n → place_of n c ≡ 0
unfolding place_of
place_above n c h = rw (lt-ltb 16 n h, place_of)

pub place_up_to : (n c : ℕ) → n ≤ 16 → place_of n c ≡ row 16 c * side_of n + column 16 c
unfolding place_of
place_up_to n c h = rw (le-ltb 16 n h, place_of)

-- The same from the row y and the column x, worked out apart.
module _ (n c : ℕ) {y w : ℕ} (small : n ≤ 16) (in_row : y ≡ row 16 c) (wide : w ≡ side_of n) where
  pub rows_before : y * w ≤ 2 ^ 32
  rows_before =
      let low : y ≤ 65536 = omega (arith, row_below 16 c) in
      let narrow : w ≤ 65536 = omega (arith, side_is_power n (omega arith), pow2_mono small) in
      mul-le-mul low narrow

  pub place_is : {x : ℕ} → x ≡ column 16 c → y * w + x ≡ place_of n c
  place_is in_column_dec = ap₂ (λ (a b : ℕ). a + b) (ap₂ (λ (a b : ℕ). a * b) in_row wide) in_column_dec ∙ sym (place_up_to n c small)

-- Where the image has the code, its first n digits say all.
pub place_in_image : (n c : ℕ) → n ≤ 16 → c < 4 ^ n → place_of n c ≡ row n c * 2 ^ n + column n c
place_in_image n c small inside =
    place_up_to n c small
    ∙ ap₂ (λ (a b : ℕ). a + b) (ap₂ (λ (a b : ℕ). a * b) (row_wider n 16 c small inside) (side_is_power n (omega arith))) (column_wider n 16 c small inside)
