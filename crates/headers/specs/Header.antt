-- The header: "P5, white space, width, white space, height, white space, maxval, one white space byte" (document 01).
use Rattle.std.specs.Prelude.{ℕ, eqb}
use Rattle.headers.specs.Parser.{Parser, byte, next, give, ◌>>=◌, ◌>>◌}
use Rattle.headers.specs.Space.{space, spaces}
use Rattle.headers.specs.Number.{number}

pub record Fields : Type 0 where
  pub width : ℕ
  pub height : ℕ
  pub maxval : ℕ

-- The bytes of P and 5.
unfoldable pub magic : Parser (Unit {0})
unfolding byte next
magic = do
  byte (λ b. eqb b 80)
  byte (λ b. eqb b 53)

-- White space, as a parser of it has it, then a number.
unfoldable pub field_over : Parser (Unit {0}) → Parser ℕ
unfolding number next
field_over white = do
  white
  number

unfoldable pub header_over : Parser (Unit {0}) → Parser Fields
unfolding magic field_over space next
header_over white = do
  magic
  w ← field_over white
  h ← field_over white
  m ← field_over white
  space
  give (record { width = w; height = h; maxval = m })

-- The header, with the white space of document 02, a.
abbrev pub field : Parser ℕ
field = field_over spaces

abbrev pub header : Parser Fields
header = header_over spaces
