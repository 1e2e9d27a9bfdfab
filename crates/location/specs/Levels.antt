-- Levels: the side and the pixels of a block, and the largest level that a code leaves open.
use Rattle.std.specs.Prelude.{◌≡◌, true, false, ℕ, ◌/◌, ◌^◌, ◌≤◌, ◌<◌, eqb, ltb}
use Rattle.std.specs.Int.Count.{count_trailing_zeros}
use Rattle.std.proofs.Common.{lt-ltb, le-ltb}

-- The side of a block, 2^level, where it is below 2^64; 0 above.
unfoldable pub side_of : ℕ → ℕ
side_of l = elim (ltb l 64) [ true ↦ 2 ^ l | false ↦ 0 ]

pub side_is_power : (l : ℕ) → l < 64 → side_of l ≡ 2 ^ l
unfolding side_of
side_is_power l h = rw (lt-ltb l 64 h, side_of)

pub side_above_lem : (l : ℕ) → 64 ≤ l → side_of l ≡ 0
unfolding side_of
side_above_lem l h = rw (le-ltb l 64 h, side_of)

-- The pixels of a block, 4^level, where they are below 2^64; 0 above.
unfoldable pub pixels_of : ℕ → ℕ
pixels_of l = elim (ltb l 32) [ true ↦ 4 ^ l | false ↦ 0 ]

pub pixels_are_power : (l : ℕ) → l < 32 → pixels_of l ≡ 4 ^ l
unfolding pixels_of
pixels_are_power l h = rw (lt-ltb l 32 h, pixels_of)

pub pixels_above : (l : ℕ) → 32 ≤ l → pixels_of l ≡ 0
unfolding pixels_of
pixels_above l h = rw (le-ltb l 32 h, pixels_of)

-- Half the number of the binary zeros that end a code, rounded down; 32 zeros end code 0.
unfoldable pub alignment : ℕ → ℕ
unfolding count_trailing_zeros
alignment c = count_trailing_zeros 32 c / 2

-- "the largest block that may start at a code is told by the binary zeros that end it: level is half their number, rounded
-- down, and n for code 0" (document 01, "The dial as blocks").
unfoldable pub top_level : ℕ → ℕ → ℕ
unfolding alignment
top_level n c = elim (eqb c 0) [ true ↦ n | false ↦ alignment c ]
