-- Where a caller stands: which number a file gets, cause by cause.
use Rattle.std.specs.Prelude.{◌≡◌, Ok, Bool, ◌⊎◌, List, ℕ, ◌*◌, ◌^◌, ◌≤◌, ◌<◌, length, get_or}
use Rattle.std.proofs.Common.{sym, ap, ◌∙◌, arith}
use Rattle.headers.specs.Header.{Fields}
use Rattle.headers.specs.File.{File}
use Rattle.headers.specs.FileLaws.{bad_header_exactly}
use Rattle.pgm.specs.Samples.{is_wide, sample_bytes, sample_at, samples_of, length-samples, samples_at, some_above, none_above}
use Rattle.pgm.specs.Picture.{Scan}
use Rattle.pgm.specs.Shaped.{shaped}
use Rattle.pgm.specs.ShapeLaws.{not_square, outside_shape, unfilled_shape, filled_shape}
use Rattle.pgm.specs.Scans.{shape_scan, above_scan, held-scan}
use Rattle.pgm.specs.Reading.{refusal, Reading}
use Rattle.pgm.specs.Accepted.{file_scan}
use Rattle.pgm.specs.Callers.{refused_with, bad-header_read, raster_too_short}
use Rattle.pgm.specs.declared.Picture.{Picture}

-- A refusal: the number with zeros, and the raster as it was.
abbrev RefusedWith : ℕ → Picture → List ℕ → List ℕ → Type 0
RefusedWith k r lent lent' = (r ≡ refusal k) × (lent' ≡ lent)

-- What is no file is 10, and one whose width and height are not one power of two from 1 to 256 is 11.
pub ten : {bytes lent bytes' lent' : List ℕ} {r : Picture} → Reading bytes lent bytes' lent' r → ((f : Fields) (rest : List ℕ) → File bytes f rest → ⊥) → RefusedWith 10 r lent lent'
ten {bytes} p none = bad-header_read p ((bad_header_exactly bytes).1 none)

pub eleven : {bytes rest lent bytes' lent' : List ℕ} {f : Fields} {r : Picture} → File bytes f rest → Reading bytes lent bytes' lent' r
    → ((n : ℕ) → n ≤ 8 → f.width ≡ 2 ^ n → f.height ≡ 2 ^ n → ⊥) → RefusedWith 11 r lent lent'
eleven {bytes} {rest} {f = f} x p none =
    refused_with p (omega arith) (file_scan bytes rest f x ∙ shape_scan f rest (sym (not_square f (length rest) none)))

-- A file whose width and height pass 11, and a call of `read`.
module _ {bytes rest lent bytes' lent' : List ℕ} {f : Fields} {n : ℕ} {r : Picture} (x : File bytes f rest) (width : f.width ≡ 2 ^ n) (height : f.height ≡ 2 ^ n)
    (side : n ≤ 8) (p : Reading bytes lent bytes' lent' r) where
  -- "12 now means a maxval outside 1 to 65,535".
  pub twelve : (f.maxval < 1) ⊎ (65535 < f.maxval) → RefusedWith 12 r lent lent'
  twelve h = refused_with p (omega arith) (file_scan bytes rest f x ∙ shape_scan f rest (outside_shape f (length rest) width height side h))

  module _ (low : 1 ≤ f.maxval) (high : f.maxval ≤ 65535) where
    -- Whether a sample is two bytes, and the samples.
    abbrev pub wide : Bool
    wide = is_wide f.maxval

    abbrev values : List ℕ
    values = samples_of wide (4 ^ n) rest

    -- "13 counts bytes at the sample's width".
    pub thirteen : (length rest ≡ sample_bytes wide * 4 ^ n → ⊥) → RefusedWith 13 r lent lent'
    thirteen d = refused_with p (omega arith) (file_scan bytes rest f x ∙ shape_scan f rest (unfilled_shape f (length rest) width height side low high d))

    module _ (full : length rest ≡ sample_bytes wide * 4 ^ n) where
      shape : shaped f (length rest) ≡ Ok (record { n = n; count = 4 ^ n; wide = wide })
      shape = filled_shape f (length rest) width height side low high full

      -- 14 is a sample above maxval, at its width.
      pub fourteen : (i : ℕ) → i < 4 ^ n → f.maxval < sample_at wide rest i → RefusedWith 14 r lent lent'
      fourteen i h above =
          let found = some_above f.maxval values i (omega (arith, length-samples wide (4 ^ n) rest)) (omega (arith, samples_at wide (4 ^ n) rest i h)) in
          refused_with p (omega arith) (file_scan bytes rest f x ∙ above_scan f rest shape found)

      -- "8 for the raster comes after 14".
      pub eight : ((i : ℕ) → i < 4 ^ n → sample_at wide rest i ≤ f.maxval) → length lent < 4 ^ n → RefusedWith 8 r lent lent'
      eight each short =
          let low_at : (i : ℕ) → i < length values → get_or values i 0 ≤ f.maxval =
          λ i h. let l : i < 4 ^ n = omega (arith, length-samples wide (4 ^ n) rest) in omega (arith, each i l, samples_at wide (4 ^ n) rest i l) in
          let held = file_scan bytes rest f x ∙ held-scan f rest shape (none_above f.maxval values low_at) in
          raster_too_short p (ap (λ (s : Scan). s.number) held) (omega (arith, ap (λ (s : Scan). 4 ^ s.n) held))
