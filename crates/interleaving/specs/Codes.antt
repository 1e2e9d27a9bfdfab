-- Location codes: what the numbers mean.
use Rattle.std.specs.Prelude.{ℕ, zero, suc, ◌+◌, ◌*◌, ◌/◌, ◌%◌}

-- The location code of the pixel (x, y), of k binary digits each: "interleaves the binary digits of y and x. The lowest
-- digit of x is worth 1, the lowest of y 2, the next of x 4, the next of y 8, and so on" (document 01, "The dial as blocks").
unfoldable pub code : ℕ → ℕ → ℕ → ℕ
code zero x y = 0
code (suc k) x y = x % 2 + 2 * (y % 2) + 4 * code k (x / 2) (y / 2)

-- x and y of a location code of k digit pairs: its digits in even and in odd places.
unfoldable pub column : ℕ → ℕ → ℕ
column zero c = 0
column (suc k) c = c % 2 + 2 * column k (c / 4)

unfoldable pub row : ℕ → ℕ → ℕ
row zero c = 0
row (suc k) c = c / 2 % 2 + 2 * row k (c / 4)
