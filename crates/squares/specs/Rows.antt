-- Rows of a raster: which stretches of rows lie within it.
use Rattle.std.specs.Prelude.{ℕ, suc, ◌+◌, ◌*◌, ◌%◌, ◌^◌, ◌≤◌, ◌<◌, ◌≡◌}
use Rattle.std.proofs.Common.{add-mul, mul-le-mul_right, arith}
use Rattle.sequences.specs.Powers.{square_of_side}
use Rattle.interleaving.specs.Codes.{row}
use Rattle.location.specs.Squares.{square_in_image}
use Rattle.quadtree.specs.Raster.{place}

-- k rows of s entries from the place `at` on, w apart, lie within a list of length `size`.
abbrev pub RowsFit : ℕ → ℕ → ℕ → ℕ → ℕ → Type 0
RowsFit size w at s k = (j : ℕ) → j < k → at + j * w + s ≤ size

pub rows_fit_next : (size w at s k : ℕ) → RowsFit size w at s (suc k) → RowsFit size w (at + w) s k
rows_fit_next size w at s k fit j h = omega (arith, fit (suc j) (omega arith), add-mul j 1 w)

-- A block's square lies within the raster.
pub square_fits : (n l c : ℕ) → l ≤ n → c < 4 ^ n → c % 4 ^ l ≡ 0 → RowsFit (4 ^ n) (2 ^ n) (place n c) (2 ^ l) (2 ^ l)
unfolding place
square_fits n l c level inside multiple j h =
    let s = square_in_image n l c level inside multiple in
    let below : suc (row n c + j) * 2 ^ n ≤ 2 ^ n * 2 ^ n = mul-le-mul_right (2 ^ n) (omega arith) in
    omega (arith, s, below, square_of_side n, add-mul (row n c + j) 1 (2 ^ n), add-mul (row n c) j (2 ^ n))
