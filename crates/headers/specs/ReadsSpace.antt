-- What the laws of headers need of a parser of white space.
use Rattle.std.specs.Prelude.{◌≡◌, List, ◌++◌, ℕ}
use Rattle.headers.specs.Parser.{got, Parser}
use Rattle.headers.specs.Number.{is_digit}
use Rattle.headers.specs.Layout.{Starts, Stops}
use Rattle.headers.specs.Refusing.{Refuses10}

-- It takes exactly the white space before a digit, which no digit begins, and refuses with 10 alone.
pub record ReadsSpace (white : Parser (Unit {0})) (White : List ℕ → Type 0) : Type 0 where
  pub taken : (bytes rest : List ℕ) → white bytes ≡ got tt rest → (s : List ℕ) × White s × (bytes ≡ s ++ rest)
  pub takes : (s rest : List ℕ) → White s → Starts is_digit rest → white (s ++ rest) ≡ got tt rest
  pub begins : (s rest : List ℕ) → White s → Stops is_digit (s ++ rest)
  pub refuses : Refuses10 white
