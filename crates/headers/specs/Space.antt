-- White space of a header: "one or more of blank, tab, LF, CR" (document 01), and remarks: "From a number sign up to and including the next
-- LF or CR, header bytes before the end of maxval now count as white space" (document 02, a).
use Rattle.std.specs.Prelude.{Bool, true, false, not, ◌||◌, [], ◌∷◌, ℕ, eqb}
use Rattle.headers.specs.Parser.{got, bad, Parser, byte}

-- Blank, tab, LF, CR.
unfoldable pub is_space : ℕ → Bool
is_space b = eqb b 32 || (eqb b 9 || (eqb b 10 || eqb b 13))

-- The number sign, which begins a remark.
unfoldable pub is_sign : ℕ → Bool
is_sign b = eqb b 35

-- LF or CR, which end it.
unfoldable pub is_end : ℕ → Bool
is_end b = eqb b 10 || eqb b 13

-- The first byte of white space.
unfoldable pub is_white : ℕ → Bool
unfolding is_space is_sign
is_white b = is_space b || is_sign b

-- Past the white space at the front, if any; `inside` a remark, past its end first. "A remark that never ends is a bad header."
unfoldable pub skip : Bool → Parser (Unit {0})
unfolding is_sign is_end is_white
skip true [] = bad
skip false [] = got tt []
skip true (b ∷ bytes) = skip (not (is_end b)) bytes
skip false (b ∷ bytes) = elim (is_white b) [ true ↦ skip (is_sign b) bytes | false ↦ got tt (b ∷ bytes) ]

-- White space: there is some.
unfoldable pub spaces : Parser (Unit {0})
unfolding is_sign is_white skip
spaces [] = bad
spaces (b ∷ bytes) = elim (is_white b) [ true ↦ skip (is_sign b) bytes | false ↦ bad ]

-- "The single byte after maxval stays plain white space" (document 02, a).
unfoldable pub space : Parser (Unit {0})
unfolding is_space byte
space = byte is_space
