-- The causes 11 to 13 by themselves: the shape of a picture, by the fields of its header and how many bytes follow it.
use Rattle.std.specs.Prelude.{◌≡◌, Result, Ok, Err, Bool, not, List, ℕ, ◌*◌, length}
use Rattle.std.proofs.Math.Path.{refl}
use Rattle.std.proofs.Math.Bool.{true, false}
use Rattle.headers.specs.Parser.{Parsed, refused, got, demand}
use Rattle.headers.specs.Header.{Fields}
use Rattle.pgm.specs.Exponent.{exponent, side_n}
use Rattle.pgm.specs.Samples.{is_wide, samples_of, any_above}
use Rattle.pgm.specs.Picture.{square, outside, filled, samples, judged}
use Rattle.answers.specs.declared.cause.Cause.{Cause}
use Rattle.answers.specs.Causes.{number_of}
use Rattle.pgm.specs.declared.shape.Shape.{Shape}

-- What follows where a test passes, and a refusal with a cause where it fails.
unfoldable pub demand_shape : Cause → Bool → Result Shape Cause → Result Shape Cause
demand_shape cause true more = more
demand_shape cause false more = Err cause

unfoldable pub shaped : Fields → ℕ → Result Shape Cause
unfolding demand_shape square outside filled is_wide exponent
shaped f size =
    demand_shape Cause.SidesUnfit (square f)
    (demand_shape Cause.MaxvalOutOfRange (not (outside f))
    (demand_shape Cause.BytesNotSamples (filled f size)
    (Ok (record { n = side_n (exponent f.width); count = f.width * f.height; wide = is_wide f.maxval }))))

-- Document 01's number for each case of a shape, and the values of one that passed.
abbrev pub shape_number : Result Shape Cause → ℕ
shape_number (Err cause) = number_of cause
shape_number (Ok s) = 0

abbrev pub shape_n : Result Shape Cause → ℕ
shape_n (Err cause) = 0
shape_n (Ok s) = s.n

abbrev pub shape_count : Result Shape Cause → ℕ
shape_count (Err cause) = 0
shape_count (Ok s) = s.count

abbrev pub shape_wide : Result Shape Cause → Bool
shape_wide (Err cause) = false
shape_wide (Ok s) = s.wide

abbrev pub is_passed : Result Shape Cause → Bool
is_passed (Err cause) = false
is_passed (Ok s) = true

-- What was refused keeps its number, and samples are asked for 14.
unfoldable pub judged_from : Fields → List ℕ → Result Shape Cause → Parsed Fields
unfolding demand any_above samples_of
judged_from f rest (Err cause) = refused (number_of cause)
judged_from f rest (Ok s) = demand 14 (not (any_above f.maxval (samples_of s.wide s.count rest))) (got f rest)

-- The causes 11 to 14 are those of the shape, then 14.
module _ (f : Fields) (rest : List ℕ) where
  shape_demanded : (cause : Cause) (t : Bool) (s : Result Shape Cause) {p : Parsed Fields} → p ≡ judged_from f rest s
      → demand (number_of cause) t p ≡ judged_from f rest (demand_shape cause t s)
  unfolding demand demand_shape judged_from
  shape_demanded cause true s e = e
  shape_demanded cause false s e = refl

  pub judged_by_shape : judged f rest ≡ judged_from f rest (shaped f (length rest))
  unfolding judged shaped judged_from samples
  judged_by_shape =
      shape_demanded Cause.SidesUnfit (square f) _
      (shape_demanded Cause.MaxvalOutOfRange (not (outside f)) _ (shape_demanded Cause.BytesNotSamples (filled f (length rest)) _ refl))
