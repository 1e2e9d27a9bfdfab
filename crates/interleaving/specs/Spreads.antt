-- Spread numbers, and the table of them.
use Rattle.std.specs.Prelude.{List, ℕ, zero, suc, ◌+◌, ◌*◌, ◌/◌, ◌%◌}
use Rattle.sequences.specs.Ranges.{tabulate}

-- The number i of k binary digits "with a zero digit put above each of its binary digits" (document 02, g): the lowest of them, a zero
-- above it, then the others.
unfoldable pub spread : ℕ → ℕ → ℕ
spread zero i = 0
spread (suc k) i = i % 2 + 4 * spread k (i / 2)

-- "a table of 256 spread numbers" (document 02, g): entry i is i, of 8 binary digits, spread.
unfoldable pub spreads : List ℕ
spreads = tabulate 256 (spread 8)
