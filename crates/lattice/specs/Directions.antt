-- Lattice points and directions.
use Rattle.std.specs.Prelude.{ℕ, zero, suc, ◌+◌, ◌-◌, ◌*◌, ◌/◌, ◌%◌}

-- "A corner is kept as y times 512 plus x in 32 bits" (document 01, "Outlines"); so is every lattice point.
unfoldable pub point : ℕ → ℕ → ℕ
point x y = 512 * y + x

unfoldable pub x_of : ℕ → ℕ
x_of p = p % 512

unfoldable pub y_of : ℕ → ℕ
y_of p = p / 512

-- "Digits for directions are 0 east, 1 north, 2 west, 3 south (001)". The point one unit on from p with the digit d.
unfoldable pub move : ℕ → ℕ → ℕ
move zero p = p + 1
move (suc zero) p = p - 512
move (suc (suc zero)) p = p - 1
move (suc (suc (suc d))) p = p + 512

-- "a right turn takes one from the digit, and from 0 it goes to 3"; a left turn undoes it.
unfoldable pub right_of : ℕ → ℕ
right_of d = (d + 3) % 4

unfoldable pub left_of : ℕ → ℕ
left_of d = (d + 1) % 4

unfoldable pub opposite : ℕ → ℕ
opposite d = (d + 2) % 4

-- A unit edge is one number: 4 times its tail plus its digit.
unfoldable pub edge : ℕ → ℕ → ℕ
edge p d = 4 * p + d

unfoldable pub tail : ℕ → ℕ
tail e = e / 4

unfoldable pub digit : ℕ → ℕ
digit e = e % 4

unfoldable pub head : ℕ → ℕ
unfolding move tail digit
head e = move (digit e) (tail e)
