-- Putting the samples of a file into rows keeps its number, and rearranges the raster of an accepted picture.
use Rattle.std.specs.Prelude.{Result, Ok, Err, ◌≡◌, Bool, ℕ, ◌+◌, ◌-◌, ◌*◌, ◌/◌, ◌%◌, ◌^◌, ◌≤◌, ◌<◌, length, take, get_or}
use Rattle.std.proofs.Math.Path.{refl, sym, ap}
use Rattle.std.proofs.Common.{ap₂, ◌∙◌, true≢false, arith, length-append, length-take, lt-ltb, le-ltb}
use Rattle.std.proofs.Math.Bool.{true, false}
use mathlib.Core.List.{List, ◌++◌}
use Rattle.sequences.specs.Ranges.{length-tabulate, tabulate_at, tabulate_same}
use Rattle.quadtree.specs.Raster.{place, in_rows}
use Rattle.quadtree.specs.Orders.{place_in, code_of_place, length_in_rows, in_rows_at}
use Rattle.headers.specs.Parser.{Parsed, refused, got}
use Rattle.headers.specs.Header.{Fields, header}
use Rattle.headers.specs.File.{File}
use Rattle.headers.specs.FileLaws.{header_is_file, header_10, raster_short, raster_replaced}
use Rattle.pgm.specs.Samples.{sample_bytes, sample_at, samples_of, any_above, length-samples, samples_at, each_at_most, none_above}
use Rattle.pgm.specs.Picture.{Scan, scan, nothing, said, judged}
use Rattle.pgm.specs.Shaped.{shaped}
use Rattle.pgm.specs.ShapeLaws.{refused_11_to_13}
use Rattle.pgm.specs.Scans.{shape_scan, facts, above_scan, held-scan}
use Rattle.pgm.specs.Accepted.{file_scan, bad-scan}
use Rattle.answers.specs.declared.cause.Cause.{Cause}
use Rattle.pgm.specs.declared.shape.Shape.{Shape}
use Rattle.rearranging.specs.Ways.{code_at, code_at_inside}
use Rattle.printing.specs.Printed.{input_limit}
use Rattle.stored_files.specs.Files.{byte_in_rows, bytes_in_rows, in_rows_by_shape, in_rows_by_header, file_in_rows}

-- ---- the samples

length_bytes : (n size : ℕ) (rest : List ℕ) → length (bytes_in_rows n size rest) ≡ size * 4 ^ n
unfolding bytes_in_rows
length_bytes n size rest = length-tabulate (size * 4 ^ n) (byte_in_rows n size rest)

-- One byte, and one sample, at its width.
byte_in_rows_lem : (n size : ℕ) (rest : List ℕ) (j : ℕ) → j < size * 4 ^ n → get_or (bytes_in_rows n size rest) j 0 ≡ byte_in_rows n size rest j
unfolding bytes_in_rows
byte_in_rows_lem n size rest j h = tabulate_at (size * 4 ^ n) (byte_in_rows n size rest) j h

sample_in_rows : (wide : Bool) (n : ℕ) (rest : List ℕ) (i : ℕ) → i < 4 ^ n → sample_at wide (bytes_in_rows n (sample_bytes wide) rest) i ≡ sample_at wide rest (code_at n i)
unfolding byte_in_rows sample_at sample_bytes
sample_in_rows false n rest i h =
    let whole : i / 1 ≡ i = omega arith in
    let place : 1 * code_at n i + i % 1 ≡ code_at n i = omega arith in
    byte_in_rows_lem n 1 rest i (omega arith) ∙ ap (λ (k : ℕ). get_or rest (1 * code_at n k + i % 1) 0) whole ∙ ap (λ (k : ℕ). get_or rest k 0) place
sample_in_rows true n rest i h =
    let high_of : 2 * i / 2 ≡ i = omega arith in
    let low_of : (2 * i + 1) / 2 ≡ i = omega arith in
    let high_place : 2 * code_at n i + 2 * i % 2 ≡ 2 * code_at n i = omega arith in
    let low_place : 2 * code_at n i + (2 * i + 1) % 2 ≡ 2 * code_at n i + 1 = omega arith in
    let high : get_or (bytes_in_rows n 2 rest) (2 * i) 0 ≡ get_or rest (2 * code_at n i) 0 =
    byte_in_rows_lem n 2 rest (2 * i) (omega arith) ∙ ap (λ (k : ℕ). get_or rest (2 * code_at n k + 2 * i % 2) 0) high_of ∙ ap (λ (k : ℕ). get_or rest k 0) high_place in
    let low : get_or (bytes_in_rows n 2 rest) (2 * i + 1) 0 ≡ get_or rest (2 * code_at n i + 1) 0 =
    byte_in_rows_lem n 2 rest (2 * i + 1) (omega arith) ∙ ap (λ (k : ℕ). get_or rest (2 * code_at n k + (2 * i + 1) % 2) 0) low_of ∙ ap (λ (k : ℕ). get_or rest k 0) low_place in
    ap₂ (λ (j k : ℕ). 256 * j + k) high low

-- All of them.
samples_in_rows : (wide : Bool) (n : ℕ) (rest : List ℕ) → samples_of wide (4 ^ n) (bytes_in_rows n (sample_bytes wide) rest) ≡ in_rows n (samples_of wide (4 ^ n) rest)
unfolding samples_of in_rows code_at
samples_in_rows wide n rest =
    tabulate_same (4 ^ n) (sample_at wide (bytes_in_rows n (sample_bytes wide) rest)) (λ i. get_or (samples_of wide (4 ^ n) rest) (code_at n i) 0)
    (λ i h. sample_in_rows wide n rest i h ∙ sym (samples_at wide (4 ^ n) rest (code_at n i) (code_at_inside n i)))

-- One is above maxval in the one order where one is in the other.
same_above : (n maxval : ℕ) (values : List ℕ) → length values ≡ 4 ^ n → any_above maxval (in_rows n values) ≡ any_above maxval values
unfolding code_at
same_above n maxval values long = pick (any_above maxval (in_rows n values)) (any_above maxval values) refl refl
  where
    none_before : any_above maxval (in_rows n values) ≡ false → any_above maxval values ≡ false
    none_before e =
        none_above maxval values (λ c h.
        let inside : c < 4 ^ n = omega (arith, long) in
        let there : get_or (in_rows n values) (place n c) 0 ≡ get_or values c 0 = in_rows_at n values (place n c) (place_in n c) ∙ ap (λ (d : ℕ). get_or values d 0) (code_of_place n c inside) in
        omega (arith, there, each_at_most maxval (in_rows n values) e (place n c) (omega (arith, length_in_rows n values, place_in n c))))

    none_after : any_above maxval values ≡ false → any_above maxval (in_rows n values) ≡ false
    none_after e =
        none_above maxval (in_rows n values) (λ i h.
        let there : get_or (in_rows n values) i 0 ≡ get_or values (code_at n i) 0 = in_rows_at n values i (omega (arith, length_in_rows n values)) in
        omega (arith, there, each_at_most maxval values e (code_at n i) (omega (arith, long, code_at_inside n i))))

    pick : (a b : Bool) → any_above maxval (in_rows n values) ≡ a → any_above maxval values ≡ b → any_above maxval (in_rows n values) ≡ any_above maxval values
    pick true true p q = p ∙ sym q
    pick false b p q = p ∙ sym (none_before p)
    pick true false p q = absurd (true≢false (sym p ∙ none_after q))

-- ---- the file

-- What becomes of a file within the limit: refused with 10 to 13 it stays as it stands; its length and number stay; and an accepted picture
-- keeps n and maxval and has its raster put into rows.
pub record PutIntoRows (bytes rows : List ℕ) : Type 0 where
  pub refused_stands : 10 ≤ (scan bytes).number → (scan bytes).number ≤ 13 → rows ≡ bytes
  pub length_same : length rows ≡ length bytes
  pub number_same : (scan rows).number ≡ (scan bytes).number
  pub accepted_same : (scan bytes).number ≡ 0
      → scan rows ≡ record { number = 0; n = (scan bytes).n; maxval = (scan bytes).maxval; raster = in_rows (scan bytes).n (scan bytes).raster }

-- One that is refused as it stands.
stands : {bytes : List ℕ} {k : ℕ} → 0 < k → scan bytes ≡ nothing k → PutIntoRows bytes bytes
unfolding nothing
stands some e = record { refused_stands = λ a b. refl; length_same = refl; number_same = refl; accepted_same = λ z. absurd (omega (arith, z, ap (λ (s : Scan). s.number) e)) }

-- A file of a header and as many bytes as its samples take.
module _ (bytes rest : List ℕ) (f : Fields) (x : File bytes f rest) {n count : ℕ} {wide : Bool} (e : shaped f (length rest) ≡ Ok (record { n = n; count = count; wide = wide })) where
  other : List ℕ
  other = bytes_in_rows n (sample_bytes wide) rest

  same_size : length other ≡ length rest
  unfolding other
  same_size =
      length_bytes n (sample_bytes wide) rest ∙ sym ((facts f rest e).full ∙ ap (λ (k : ℕ). sample_bytes wide * k) (facts f rest e).square_is)

  same_shape : shaped f (length other) ≡ Ok (record { n = n; count = count; wide = wide })
  same_shape = ap (shaped f) same_size ∙ e

  values : List ℕ
  values = samples_of wide count rest

  values_in_rows : samples_of wide count other ≡ in_rows n values
  unfolding other values
  values_in_rows =
      let size : count ≡ 4 ^ n = (facts f rest e).square_is in
      ap (λ (k : ℕ). samples_of wide k (bytes_in_rows n (sample_bytes wide) rest)) size
      ∙ samples_in_rows wide n rest
      ∙ ap (λ (k : ℕ). in_rows n (samples_of wide k rest)) (sym size)

  above_same : any_above f.maxval (samples_of wide count other) ≡ any_above f.maxval values
  unfolding values
  above_same = ap (any_above f.maxval) values_in_rows ∙ same_above n f.maxval values (length-samples wide count rest ∙ (facts f rest e).square_is)

  abbrev rows : List ℕ
  rows = take (length bytes - length rest) bytes ++ other

  rows-scan : scan rows ≡ said (judged f other)
  rows-scan = file_scan rows other f (raster_replaced bytes rest f x other)

  rows-length : length rows ≡ length bytes
  rows-length =
      omega (arith, length-append (take (length bytes - length rest) bytes) other, length-take (length bytes - length rest) bytes, same_size, raster_short bytes rest f x)

  rearranged_file : PutIntoRows bytes rows
  unfolding values nothing
  rearranged_file = pick (any_above f.maxval values) refl
    where
      pick : (t : Bool) → any_above f.maxval values ≡ t → PutIntoRows bytes rows
      pick true h =
          let before : scan bytes ≡ nothing 14 = file_scan bytes rest f x ∙ above_scan f rest e h in
          let after : scan rows ≡ nothing 14 = rows-scan ∙ above_scan f other same_shape (above_same ∙ h) in
          record {
            refused_stands = λ a b. absurd (omega (arith, a, b, ap (λ (s : Scan). s.number) before));
            length_same = rows-length;
            number_same = ap (λ (s : Scan). s.number) (after ∙ sym before);
            accepted_same = λ z. absurd (omega (arith, z, ap (λ (s : Scan). s.number) before));
          }
      pick false h =
          let before : scan bytes ≡ record { number = 0; n = n; maxval = f.maxval; raster = values } = file_scan bytes rest f x ∙ held-scan f rest e h in
          let after : scan rows ≡ record { number = 0; n = n; maxval = f.maxval; raster = in_rows n values } =
          rows-scan ∙ held-scan f other same_shape (above_same ∙ h) ∙ ap (λ (l : List ℕ). record { number = 0; n = n; maxval = f.maxval; raster = l }) values_in_rows in
          record {
            refused_stands = λ a b. absurd (omega (arith, a, b, ap (λ (s : Scan). s.number) before));
            length_same = rows-length;
            number_same = ap (λ (s : Scan). s.number) after ∙ sym (ap (λ (s : Scan). s.number) before);
            accepted_same = λ z. after ∙ sym (ap (λ (s : Scan). record { number = 0; n = s.n; maxval = s.maxval; raster = in_rows s.n s.raster }) before);
          }

-- Any file within the limit.
module _ (bytes : List ℕ) where
  by_shape : (rest : List ℕ) (f : Fields) → File bytes f rest → (s : Result Shape Cause) → shaped f (length rest) ≡ s → PutIntoRows bytes (in_rows_by_shape bytes rest s)
  unfolding in_rows_by_shape other
  by_shape rest f x (Err cause) e = stands (omega (arith, (refused_11_to_13 f (length rest) e).0)) (file_scan bytes rest f x ∙ shape_scan f rest e)
  by_shape rest f x (Ok s) e = rearranged_file bytes rest f x e

  by_header : (p : Parsed Fields) → header bytes ≡ p → PutIntoRows bytes (in_rows_by_header bytes p)
  unfolding in_rows_by_header
  by_header (refused k) e = stands {k = 10} (omega arith) (bad-scan bytes (e ∙ ap refused (header_10 bytes k e)))
  by_header (got f rest) e = by_shape rest f (header_is_file bytes rest f e) (shaped f (length rest)) refl

  pub put_into_rows : length bytes ≤ input_limit → PutIntoRows bytes (file_in_rows bytes)
  unfolding file_in_rows
  put_into_rows h = rw (le-ltb input_limit (length bytes) h, file_in_rows) (by_header (header bytes) refl)

  -- 15: it stays as it stands.
  pub long_stands : input_limit < length bytes → file_in_rows bytes ≡ bytes
  unfolding file_in_rows
  long_stands h = rw (lt-ltb input_limit (length bytes) h, file_in_rows) refl
