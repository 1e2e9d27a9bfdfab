-- South sides of pixels: the westward edges.
use Rattle.std.specs.Prelude.{ℕ}
use Rattle.interleaving.specs.Codes.{column, row}
use Rattle.grid.specs.Sides.{side_at}

-- The south side of the pixel with the code q, walked westward (document 01, "Outlines").
unfoldable pub south_side : ℕ → ℕ → ℕ
unfolding side_at column row
south_side n q = side_at (column n q) (row n q) 2
