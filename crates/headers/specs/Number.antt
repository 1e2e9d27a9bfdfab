-- Numbers of a PGM header: "A number has 1 to 5 digits" (document 01), decimal, leading zeros allowed.
use Rattle.std.specs.Prelude.{true, false, ◌&&◌, List, [], ◌∷◌, ℕ, leb, length}
unfoldable pub use Rattle.decimals.specs.Decimal.{is_digit, decimal_value}
use Rattle.headers.specs.Parser.{got, bad, Parser}

-- All the digits at the front, and what stands behind them.
unfoldable pub digits : List ℕ → List ℕ
unfolding is_digit
digits [] = []
digits (b ∷ bytes) = elim (is_digit b) [ true ↦ b ∷ digits bytes | false ↦ [] ]

unfoldable pub behind : List ℕ → List ℕ
unfolding is_digit
behind [] = []
behind (b ∷ bytes) = elim (is_digit b) [ true ↦ behind bytes | false ↦ b ∷ bytes ]

-- A number has 1 to 5 digits: a sixth makes a bad header.
unfoldable pub number : Parser ℕ
unfolding digits behind decimal_value
number bytes =
    elim (leb 1 (length (digits bytes)) && leb (length (digits bytes)) 5) [ true ↦ got (decimal_value 0 (digits bytes)) (behind bytes) | false ↦ bad ]
