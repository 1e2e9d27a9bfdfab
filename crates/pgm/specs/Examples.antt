-- Files to try, with what the definition answers and writes: dial 2 of document 01, both widths of samples, one for each cause, and the places
-- where a reader may go wrong.
use Rattle.std.specs.Prelude.{◌≡◌, refl, List, [], ◌∷◌, map, ℕ}
use Rattle.pgm.specs.Picture.{nothing, scan}
use Rattle.pgm.specs.Reading.{refusal, answer, samples_written}
use Rattle.pgm.specs.Remarks.{plain_scan}
use Rattle.pgm.specs.declared.Picture.{Picture}

-- A file, how many entries its raster is lent, the answer and the samples written.
pub record Example : Type 0 where
  pub bytes : List ℕ
  pub room : ℕ
  pub answered : Picture
  pub written : List ℕ

accepted : ℕ → ℕ → ℕ → List ℕ → List ℕ → Example
accepted n maxval count written bytes = record { bytes = bytes; room = count; answered = record { number = 0; n = n; maxval = maxval; count = count }; written = written }

-- A refusal, with room for one sample or with none.
refused : ℕ → ℕ → List ℕ → Example
refused room number bytes = record { bytes = bytes; room = room; answered = refusal number; written = [] }

-- P5, LF.
p5 : List ℕ → List ℕ
p5 rest = 80 ∷ 53 ∷ 10 ∷ rest

-- A remark straight after P5, ended by LF, and one that ends the number before it: "1#x", CR, "1" are the numbers 1 and 1. The CR ends the
-- remark, so that the LF behind it is plain. The number sign past the byte after maxval is the sample.
abbrev pub remarked : List ℕ
remarked = 80 ∷ 53 ∷ 35 ∷ 80 ∷ 10 ∷ 49 ∷ 35 ∷ 120 ∷ 13 ∷ 10 ∷ 49 ∷ 32 ∷ 57 ∷ 57 ∷ 32 ∷ 35 ∷ []

-- "1 1", a blank.
one : List ℕ → List ℕ
one rest = p5 (49 ∷ 32 ∷ 49 ∷ 32 ∷ rest)

pub examples : List Example
examples =
    -- Dial 2: P5, LF, "4 4", LF, 255, LF and sixteen bytes.
    accepted 2 255 16 (1 ∷ 1 ∷ 1 ∷ 1 ∷ 1 ∷ 2 ∷ 1 ∷ 1 ∷ 1 ∷ 1 ∷ 3 ∷ 3 ∷ 1 ∷ 1 ∷ 3 ∷ 3 ∷ [])
    (p5 (52 ∷ 32 ∷ 52 ∷ 10 ∷ 50 ∷ 53 ∷ 53 ∷ 10 ∷ 1 ∷ 1 ∷ 1 ∷ 1 ∷ 1 ∷ 2 ∷ 1 ∷ 1 ∷ 1 ∷ 1 ∷ 3 ∷ 3 ∷ 1 ∷ 1 ∷ 3 ∷ 3 ∷ []))
    -- One pixel, its sample equal to maxval; blank, tab, LF and CR are white space; leading zeros.
    ∷ accepted 0 7 1 (7 ∷ []) (80 ∷ 53 ∷ 32 ∷ 9 ∷ 10 ∷ 13 ∷ 48 ∷ 48 ∷ 48 ∷ 48 ∷ 49 ∷ 13 ∷ 49 ∷ 9 ∷ 55 ∷ 32 ∷ 7 ∷ [])
    -- One white space byte after maxval: the LF after CR is the sample.
    ∷ accepted 0 99 1 (10 ∷ []) (one (57 ∷ 57 ∷ 13 ∷ 10 ∷ []))
    ∷ accepted 0 99 1 (35 ∷ []) remarked
    -- Two bytes a sample, the most significant first: maxval 256 with sample 256, maxval 65535 with sample 65534, four samples of maxval 1000.
    ∷ accepted 0 256 1 (256 ∷ []) (one (50 ∷ 53 ∷ 54 ∷ 32 ∷ 1 ∷ 0 ∷ []))
    ∷ accepted 0 65535 1 (65534 ∷ []) (one (54 ∷ 53 ∷ 53 ∷ 51 ∷ 53 ∷ 32 ∷ 255 ∷ 254 ∷ []))
    ∷ accepted 1 1000 4 (1 ∷ 256 ∷ 1000 ∷ 767 ∷ []) (p5 (50 ∷ 32 ∷ 50 ∷ 32 ∷ 49 ∷ 48 ∷ 48 ∷ 48 ∷ 32 ∷ 0 ∷ 1 ∷ 1 ∷ 0 ∷ 3 ∷ 232 ∷ 2 ∷ 255 ∷ []))
    -- One byte a sample at maxval 255.
    ∷ accepted 0 255 1 (255 ∷ []) (one (50 ∷ 53 ∷ 53 ∷ 32 ∷ 255 ∷ []))
    -- 10: a remark inside P5; one that never ends; a number sign straight after maxval.
    ∷ refused 1 10 (80 ∷ 35 ∷ 10 ∷ 53 ∷ 10 ∷ 49 ∷ 32 ∷ 49 ∷ 32 ∷ 57 ∷ 32 ∷ 1 ∷ [])
    ∷ refused 1 10 (one (35 ∷ 57 ∷ 32 ∷ 1 ∷ []))
    ∷ refused 1 10 (one (57 ∷ 35 ∷ 10 ∷ 1 ∷ []))
    -- 10: nothing; no white space after P5; six digits; maxval with nothing after it.
    ∷ refused 1 10 []
    ∷ refused 1 10 (80 ∷ 53 ∷ 49 ∷ 32 ∷ 49 ∷ 32 ∷ 57 ∷ 32 ∷ 1 ∷ [])
    ∷ refused 1 10 (p5 (48 ∷ 48 ∷ 48 ∷ 48 ∷ 48 ∷ 49 ∷ 32 ∷ 49 ∷ 32 ∷ 57 ∷ 32 ∷ 1 ∷ []))
    ∷ refused 1 10 (one (57 ∷ []))
    -- A header that breaks off is 10 even though the width is 3.
    ∷ refused 1 10 (p5 (51 ∷ 32 ∷ 51 ∷ 32 ∷ []))
    -- 11: side 3; side 0; width 1 and height 2; 11 before 12.
    ∷ refused 1 11 (p5 (51 ∷ 32 ∷ 51 ∷ 32 ∷ 57 ∷ 32 ∷ 1 ∷ 1 ∷ 1 ∷ 1 ∷ 1 ∷ 1 ∷ 1 ∷ 1 ∷ 1 ∷ []))
    ∷ refused 1 11 (p5 (48 ∷ 32 ∷ 48 ∷ 32 ∷ 57 ∷ 32 ∷ []))
    ∷ refused 1 11 (p5 (49 ∷ 32 ∷ 50 ∷ 32 ∷ 57 ∷ 32 ∷ 1 ∷ 1 ∷ []))
    ∷ refused 1 11 (p5 (53 ∷ 49 ∷ 50 ∷ 32 ∷ 53 ∷ 49 ∷ 50 ∷ 32 ∷ 48 ∷ 32 ∷ []))
    -- 12: maxval 0; maxval 65536; 12 before 13.
    ∷ refused 1 12 (one (48 ∷ 32 ∷ 0 ∷ []))
    ∷ refused 1 12 (one (54 ∷ 53 ∷ 53 ∷ 51 ∷ 54 ∷ 32 ∷ 0 ∷ 0 ∷ []))
    ∷ refused 1 12 (one (57 ∷ 57 ∷ 57 ∷ 57 ∷ 57 ∷ 32 ∷ []))
    -- 13: one byte too few, one too many; one byte at maxval 256, two at 255, an odd number of bytes; 13 before 14.
    ∷ refused 1 13 (one (57 ∷ 32 ∷ []))
    ∷ refused 1 13 (one (57 ∷ 32 ∷ 10 ∷ 1 ∷ []))
    ∷ refused 1 13 (one (50 ∷ 53 ∷ 54 ∷ 32 ∷ 1 ∷ []))
    ∷ refused 1 13 (one (50 ∷ 53 ∷ 53 ∷ 32 ∷ 0 ∷ 1 ∷ []))
    ∷ refused 1 13 (one (50 ∷ 53 ∷ 54 ∷ 32 ∷ 255 ∷ 255 ∷ 255 ∷ []))
    -- 14: a sample one above maxval, of one byte and of two; 14 before 8.
    ∷ refused 1 14 (one (57 ∷ 32 ∷ 10 ∷ []))
    ∷ refused 1 14 (one (50 ∷ 53 ∷ 54 ∷ 32 ∷ 1 ∷ 1 ∷ []))
    ∷ refused 0 14 (one (57 ∷ 32 ∷ 10 ∷ []))
    -- 8: a raster of 0 entries.
    ∷ refused 0 8 (one (57 ∷ 32 ∷ 9 ∷ []))
    ∷ []

-- Each example is answered as it says, and writes what it says.
pub examples_answered : map (λ e. answer (scan e.bytes) e.room) examples ≡ map (λ e. e.answered) examples
unfolding examples p5 one accepted refused refusal answer scan
examples_answered = refl

pub examples_written : map (λ e. samples_written (scan e.bytes) e.room) examples ≡ map (λ e. e.written) examples
unfolding examples p5 one accepted refused samples_written scan
examples_written = refl

-- The one with remarks was 10.
pub remarked_was_10 : plain_scan remarked ≡ nothing 10
unfolding nothing plain_scan
remarked_was_10 = refl
