-- What the answers of the code say: for each case document 01's number, or the values and the bytes from the next place on.
use Rattle.std.specs.Prelude.{◌≡◌, cond, List, ℕ, ◌≤◌, eqb, length, drop, Option, None, Some}
use Rattle.headers.specs.Parser.{Parsed, refused, got}
use Rattle.headers.specs.Header.{Fields}
use Rattle.headers.specs.declared.step.Cursor.{Cursor}
use Rattle.headers.specs.declared.Header.{Header}

-- Bytes that had to be there: a bad header (10), or the bytes past them.
abbrev pub past : List ℕ → Option Cursor → Parsed (Unit {0})
past bytes None = refused 10
past bytes (Some c) = got tt (drop c.at bytes)

-- A number: a bad header (10), or its value and the bytes past it.
abbrev pub numbered : List ℕ → Option (ℕ × Cursor) → Parsed ℕ
numbered bytes None = refused 10
numbered bytes (Some (v, c)) = got v (drop c.at bytes)

-- A number whose digits end at a place: it has at least one.
abbrev pub stopped : ℕ → ℕ → ℕ → Option (ℕ × Cursor)
stopped count value at = cond (eqb count 0) None (Some (value, record { at = at }))

-- A header: a bad one (10), or its fields and the raster.
abbrev pub headed : List ℕ → Option Header → Parsed Fields
headed bytes None = refused 10
headed bytes (Some h) = got (record { width = h.width; height = h.height; maxval = h.maxval }) (drop h.raster.at bytes)

-- The place that a step ends at, 0 where it refuses.
abbrev pub past_end : Option Cursor → ℕ
past_end None = 0
past_end (Some c) = c.at

abbrev pub number_end : Option (ℕ × Cursor) → ℕ
number_end None = 0
number_end (Some (v, c)) = c.at

abbrev pub header_end : Option Header → ℕ
header_end None = 0
header_end (Some h) = h.raster.at

-- The promises of the steps: the answer says what the parser finds, and no place lies past the end of the bytes.
pub record Passes (bytes : List ℕ) (found : Parsed (Unit {0})) (r : Option Cursor) : Type 0 where
  pub says : past bytes r ≡ found
  pub inside : past_end r ≤ length bytes

pub record Numbers (bytes : List ℕ) (found : Parsed ℕ) (r : Option (ℕ × Cursor)) : Type 0 where
  pub says : numbered bytes r ≡ found
  pub inside : number_end r ≤ length bytes

pub record Heads (bytes : List ℕ) (found : Parsed Fields) (r : Option Header) : Type 0 where
  pub says : headed bytes r ≡ found
  pub inside : header_end r ≤ length bytes
