-- A file by its layout: "P5, white space, width, white space, height, white space, maxval, one white space byte" and what follows.
use Rattle.std.specs.Prelude.{◌≡◌, Bool, true, not, List, [], ◌∷◌, ◌++◌, ℕ, ◌≤◌, length}
use Rattle.headers.specs.Space.{is_space, is_end}
use Rattle.headers.specs.Number.{is_digit, decimal_value}
use Rattle.headers.specs.Header.{Fields}

-- Each byte of a list passes a test.
pub data Each (test : ℕ → Bool) : List ℕ → Type 0 where
  none : Each test []
  more : {b : ℕ} {bytes : List ℕ} → test b ≡ true → Each test bytes → Each test (b ∷ bytes)

-- "White space is one or more of blank, tab, LF, CR", as document 01 had it.
pub record PlainWhite (bytes : List ℕ) : Type 0 where
  pub some : 1 ≤ length bytes
  pub each : Each is_space bytes

-- What stands in a remark: no LF and no CR.
abbrev pub Text : List ℕ → Type 0
Text = Each (λ b. not (is_end b))

-- A piece of white space: one of those bytes, or a remark, "From a number sign up to and including the next LF or CR" (document 02, a).
pub data Piece : List ℕ → Type 0 where
  plain : (b : ℕ) → is_space b ≡ true → Piece (b ∷ [])
  remark : (text : List ℕ) (last : ℕ) → Text text → is_end last ≡ true → Piece (35 ∷ (text ++ (last ∷ [])))

-- Pieces one after the other; one or more make white space.
pub data Pieces : List ℕ → Type 0 where
  empty : Pieces []
  follows : {piece rest : List ℕ} → Piece piece → Pieces rest → Pieces (piece ++ rest)

pub record White (bytes : List ℕ) : Type 0 where
  pub some : 1 ≤ length bytes
  pub pieces : Pieces bytes

-- "A number has 1 to 5 digits."
pub record Numeral (bytes : List ℕ) (value : ℕ) : Type 0 where
  pub some : 1 ≤ length bytes
  pub few : length bytes ≤ 5
  pub each : Each is_digit bytes
  pub worth : decimal_value 0 bytes ≡ value

-- The layout, with white space of a kind before each number.
pub record FileOver (White : List ℕ → Type 0) (bytes : List ℕ) (f : Fields) (raster : List ℕ) : Type 0 where
  pub white1 : List ℕ
  pub width : List ℕ
  pub white2 : List ℕ
  pub height : List ℕ
  pub white3 : List ℕ
  pub maxval : List ℕ
  pub last : ℕ
  pub layout : bytes ≡ 80 ∷ 53 ∷ (white1 ++ (width ++ (white2 ++ (height ++ (white3 ++ (maxval ++ (last ∷ raster)))))))
  pub white_before_width : White white1
  pub width_is : Numeral width f.width
  pub white_before_height : White white2
  pub height_is : Numeral height f.height
  pub white_before_maxval : White white3
  pub maxval_is : Numeral maxval f.maxval
  pub white_after_maxval : is_space last ≡ true

abbrev pub File : List ℕ → Fields → List ℕ → Type 0
File = FileOver White

-- A file without remarks: the layout of document 01.
abbrev pub PlainFile : List ℕ → Fields → List ℕ → Type 0
PlainFile = FileOver PlainWhite
