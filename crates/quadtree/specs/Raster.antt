-- Rasters: the same colours row by row and in rising location code.
use Rattle.std.specs.Prelude.{List, ℕ, ◌+◌, ◌*◌, ◌/◌, ◌%◌, ◌^◌, get_or}
use Rattle.sequences.specs.Ranges.{tabulate}
use Rattle.interleaving.specs.Codes.{code, column, row}

-- The place of the pixel with the code c in a raster "row by row, north row first" (document 01).
unfoldable pub place : ℕ → ℕ → ℕ
unfolding column row
place n c = row n c * 2 ^ n + column n c

-- The colours of a raster of side 2^n in rising location code.
unfoldable pub in_code_order : ℕ → List ℕ → List ℕ
unfolding tabulate place
in_code_order n raster = tabulate (4 ^ n) (λ c. get_or raster (place n c) 0)

-- The raster of an image whose colours stand in rising location code.
unfoldable pub in_rows : ℕ → List ℕ → List ℕ
unfolding tabulate code
in_rows n px = tabulate (4 ^ n) (λ i. get_or px (code n (i % 2 ^ n) (i / 2 ^ n)) 0)
