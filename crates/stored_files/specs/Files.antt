-- A file in block order with its samples put into rows.
use Rattle.std.specs.Prelude.{Result, Ok, Err, true, false, List, ◌++◌, ℕ, ◌+◌, ◌-◌, ◌*◌, ◌/◌, ◌%◌, ◌^◌, ltb, length, take, get_or}
use Rattle.sequences.specs.Ranges.{tabulate}
use Rattle.headers.specs.Parser.{Parsed, refused, got, next}
use Rattle.headers.specs.Header.{Fields, header_over, header}
use Rattle.headers.specs.Space.{spaces}
use Rattle.pgm.specs.Samples.{sample_bytes}
use Rattle.pgm.specs.Shaped.{shaped}
use Rattle.answers.specs.declared.cause.Cause.{Cause}
use Rattle.pgm.specs.declared.shape.Shape.{Shape}
use Rattle.rearranging.specs.Ways.{code_at}
use Rattle.printing.specs.Printed.{input_limit}

-- Behind the header of "a P5 file whose samples stand in block order" (document 02, e) stand samples of `size` bytes each. Their byte j once the
-- samples are put into rows: the same byte of the sample at the code of the pixel that it belongs to.
unfoldable pub byte_in_rows : ℕ → ℕ → List ℕ → ℕ → ℕ
unfolding code_at
byte_in_rows n size rest j = get_or rest (size * code_at n (j / size) + j % size) 0

-- All of them, for 4^n samples.
unfoldable pub bytes_in_rows : ℕ → ℕ → List ℕ → List ℕ
unfolding tabulate byte_in_rows
bytes_in_rows n size rest = tabulate (size * 4 ^ n) (byte_in_rows n size rest)

-- The file with its samples put into rows, by the shape of the picture that its header leaves: refused with 11 to 13 it stays as it stands.
unfoldable pub in_rows_by_shape : List ℕ → List ℕ → Result Shape Cause → List ℕ
unfolding bytes_in_rows sample_bytes
in_rows_by_shape bytes rest (Err cause) = bytes
in_rows_by_shape bytes rest (Ok s) = take (length bytes - length rest) bytes ++ bytes_in_rows s.n (sample_bytes s.wide) rest

-- By its header: refused with 10 it stays as it stands.
unfoldable pub in_rows_by_header : List ℕ → Parsed Fields → List ℕ
unfolding in_rows_by_shape shaped
in_rows_by_header bytes (refused k) = bytes
in_rows_by_header bytes (got f rest) = in_rows_by_shape bytes rest (shaped f (length rest))

-- By its length: refused with 15 it stays as it stands. So `outlines` gets the file that `outlines-stored` gets, but for the order of the samples.
unfoldable pub file_in_rows : List ℕ → List ℕ
unfolding in_rows_by_header header_over spaces next
file_in_rows bytes = elim (ltb input_limit (length bytes)) [ true ↦ bytes | false ↦ in_rows_by_header bytes (header bytes) ]
