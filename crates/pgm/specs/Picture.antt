-- The causes 10 to 14 in their order, and what a file holds.
use Rattle.std.specs.Prelude.{Bool, not, ◌&&◌, ◌||◌, List, [], ℕ, ◌*◌, ltb, eqb, length}
use Rattle.headers.specs.Parser.{Parsed, refused, got, Parser, next, demand, ◌>>=◌}
use Rattle.headers.specs.Header.{Fields, header_over, header}
use Rattle.headers.specs.Space.{spaces}
use Rattle.pgm.specs.Exponent.{exponent, side_number, side_n}
use Rattle.pgm.specs.Samples.{is_wide, sample_bytes, samples_of, any_above}

-- Width and height equal, and a power of two from 1 to 256.
unfoldable pub square : Fields → Bool
unfolding exponent
square f = eqb f.width f.height && eqb (side_number (exponent f.width)) 0

-- "12 now means a maxval outside 1 to 65,535" (document 02, i).
unfoldable pub outside : Fields → Bool
outside f = ltb f.maxval 1 || ltb 65535 f.maxval

-- "13 counts bytes at the sample's width" (document 02, i): exactly those of width times height samples.
unfoldable pub filled : Fields → ℕ → Bool
unfolding is_wide sample_bytes
filled f size = eqb size (sample_bytes (is_wide f.maxval) * (f.width * f.height))

-- The samples, width times height of them, row by row.
unfoldable pub samples : Fields → List ℕ → List ℕ
unfolding is_wide samples_of
samples f rest = samples_of (is_wide f.maxval) (f.width * f.height) rest

-- The causes 11 to 14 in rising order, asked of what a whole header leaves.
unfoldable pub judged : Fields → Parser Fields
unfolding square outside filled samples any_above demand
judged f rest = demand 11 (square f) (demand 12 (not (outside f)) (demand 13 (filled f (length rest)) (demand 14 (not (any_above f.maxval (samples f rest))) (got f rest))))

-- "PGM: rising" (document 01, the order of the checks): the whole header is judged before 11.
unfoldable pub picture : Parser Fields
unfolding header_over spaces judged next
picture = do
  f ← header
  judged f

-- What a file holds: number 0 with n, maxval and the samples, or the number of a refusal from 10 to 14 with zeros and no sample.
pub record Scan : Type 0 where
  pub number : ℕ
  pub n : ℕ
  pub maxval : ℕ
  pub raster : List ℕ

-- A refused file.
unfoldable pub nothing : ℕ → Scan
nothing k = record { number = k; n = 0; maxval = 0; raster = [] }

-- What is said of the fields and the bytes behind the header.
unfoldable pub said : Parsed Fields → Scan
unfolding nothing exponent samples
said (refused k) = nothing k
said (got f rest) = record { number = 0; n = side_n (exponent f.width); maxval = f.maxval; raster = samples f rest }

-- What the bytes of a file hold.
unfoldable pub scan : List ℕ → Scan
unfolding said picture
scan bytes = said (picture bytes)
