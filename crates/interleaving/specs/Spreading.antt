-- Laws of spread numbers: codes from the spread numbers of x and of y, and from the table of them.
use Rattle.std.specs.Prelude.{◌≡◌, refl, List, ℕ, zero, suc, ◌+◌, ◌*◌, ◌/◌, ◌%◌, ◌^◌, ◌<◌, get_or}
use Rattle.std.proofs.Common.{sym, ap, ap₂, ◌∙◌, arith}
use Rattle.std.proofs.Math.Nat.{zero-div, zero-mod}
use Rattle.sequences.specs.Powers.{pow2_pos}
use Rattle.sequences.specs.Ranges.{tabulate_at}
use Rattle.interleaving.specs.Codes.{code, column, row}
use Rattle.interleaving.specs.Interleaving.{column_of_code, row_of_code}
use Rattle.interleaving.specs.Splitting.{code_split, code_low}
use Rattle.interleaving.specs.Spreads.{spread, spreads}

-- The code of (x, y) is x spread to the even places and y to the odd ones.
pub code_from_spreads : (k x y : ℕ) → code k x y ≡ spread k x + 2 * spread k y
unfolding code spread
code_from_spreads zero x y = refl
code_from_spreads (suc k) x y = omega (arith, code_from_spreads k (x / 2) (y / 2))

-- So a spread number is the code of a pixel of the north row, and what holds of codes holds of it.
spread_is_code : (k x : ℕ) → spread k x ≡ code k x 0
unfolding code spread
spread_is_code zero x = refl
spread_is_code (suc k) x = omega (arith, spread_is_code k (x / 2))

-- It has the digits of its number in the even places, and zeros in the odd ones.
pub digits_of_spread : (k i : ℕ) → i < 2 ^ k → (column k (spread k i) ≡ i) × (row k (spread k i) ≡ 0)
digits_of_spread k i h = rw (spread_is_code k i) (column_of_code k i 0 h, row_of_code k i 0 (pow2_pos k))

-- A spread number leaves room for another in the odd places.
pub spread-below : (k x : ℕ) → 3 * spread k x < 4 ^ k
unfolding spread
spread-below zero x = omega arith
spread-below (suc k) x = omega (arith, spread-below k (x / 2))

-- Only its l low digits count among l digits.
pub spread_low : (l x : ℕ) → spread l (x % 2 ^ l) ≡ spread l x
spread_low l x =
    spread_is_code l (x % 2 ^ l) ∙ ap (code l (x % 2 ^ l)) (sym (zero-mod (2 ^ l))) ∙ code_low l x 0 ∙ sym (spread_is_code l x)

-- More digits are spread in two parts.
pub spread_split : (l m x : ℕ) → spread (l + m) x ≡ spread l x + 4 ^ l * spread m (x / 2 ^ l)
spread_split l m x =
    spread_is_code (l + m) x ∙ code_split l m x 0
    ∙ ap₂ (λ (a b : ℕ). a + 4 ^ l * b) (sym (spread_is_code l x)) (ap (code m (x / 2 ^ l)) (zero-div (2 ^ l)) ∙ sym (spread_is_code m (x / 2 ^ l)))

-- "entry i being i with a zero digit put above each of its binary digits" (document 02, g): the rule of the whole table, carried to
-- each entry by its index.
pub entry_is_spread : (table : List ℕ) → table ≡ spreads → (i : ℕ) → i < 256 → get_or table i 0 ≡ spread 8 i
unfolding spreads
entry_is_spread table rule i h = ap (λ (l : List ℕ). get_or l i 0) rule ∙ tabulate_at 256 (spread 8) i h

-- The code of two numbers of two bytes each, from those of their low and of their high bytes.
pub code_of_bytes : (x y : ℕ) → code 16 x y ≡ code 8 (x % 256) (y % 256) + 65536 * code 8 (x / 256) (y / 256)
code_of_bytes x y = omega (arith, code_split 8 8 x y, code_low 8 x y)
