-- Laws for callers: what the promise of `read` says of an accepted picture and of a refused one.
use Rattle.std.specs.Prelude.{◌≡◌, Bool, ◌⊎◌, List, ℕ, ◌+◌, ◌*◌, ◌-◌, ◌^◌, ◌≤◌, ◌<◌, take}
use Rattle.std.proofs.Math.Path.{refl, sym, ap, ap₂}
use Rattle.std.proofs.Common.{◌∙◌, get_or-take, get_or-drop}
use Rattle.std.proofs.Math.Bool.{true, false}
use Rattle.std.proofs.Math.Logic.{inl, inr}
use Rattle.std.proofs.Math.Decide.{ℕ_discrete, dec_lt}
use native.Mathlib.Omega.{arith}
use Rattle.std.proofs.Math.ListN.{length, get_or}
use borrow.Author.Tests.{le-ltb, lt-ltb}
use Rattle.sequences.specs.Over.{over, take_over, over_beyond, length_over}
use Rattle.headers.specs.Parser.{bad}
use Rattle.headers.specs.Header.{header}
use Rattle.headers.specs.FileLaws.{raster_at_end}
use Rattle.pgm.specs.Samples.{is_wide, sample_bytes, sample_at, samples_at, one_byte, two_bytes}
use Rattle.pgm.specs.Picture.{Scan, nothing, scan}
use Rattle.pgm.specs.Reading.{refusal, answer_with, Answered, Reading, cause_answered, short_answered, stored_answered}
use Rattle.pgm.specs.Judging.{nothing_answered}
use Rattle.pgm.specs.Accepted.{AcceptedPicture, bad-scan, accepted_scan, zero_accepted, refused_number, raster_is_square}
use Rattle.pgm.specs.declared.Picture.{Picture}

-- What a caller of `read` knows of its answer and of the raster.
module _ {bytes lent bytes' lent' : List ℕ} {r : Picture} (p : Reading bytes lent bytes' lent' r) where
  -- The answers: one of 10 to 14, then 8, then acceptance.
  module _ {raster'' : List ℕ} {q : Picture} (b : Answered (scan bytes) lent raster'' q) where
    same_answer : r ≡ q
    same_answer = p.answered.answer_is ∙ sym b.answer_is

    same_raster : lent' ≡ raster''
    same_raster = p.answered.in_raster ∙ sym b.in_raster

  -- A file that is refused: its number, zeros, and the raster as it was, however long it is.
  pub file_refused : ((scan bytes).number ≡ 0 → ⊥) → (r ≡ refusal (scan bytes).number) × (lent' ≡ lent)
  file_refused d =
      let n = refused_number bytes d in
      let b = cause_answered (scan bytes) lent {k = (scan bytes).number} (omega (arith, n.0)) refl in
      (same_answer b, same_raster b)

  -- A file that holds nothing but a number.
  pub refused_with : {k : ℕ} → 0 < k → scan bytes ≡ nothing k → (r ≡ refusal k) × (lent' ≡ lent)
  refused_with some e = let b = nothing_answered lent e some in (same_answer b, same_raster b)

  -- "PGM header not as above" (10).
  pub bad-header_read : header bytes ≡ bad → (r ≡ refusal 10) × (lent' ≡ lent)
  bad-header_read e = refused_with (omega arith) (bad-scan bytes e)

  module _ (z : (scan bytes).number ≡ 0) where
    -- "8 for the raster comes after 14": a picture, and a raster of fewer than 4^n entries.
    pub raster_too_short : length lent < 4 ^ (scan bytes).n → (r ≡ refusal 8) × (lent' ≡ lent)
    raster_too_short h = let b = short_answered (scan bytes) lent z h in (same_answer b, same_raster b)

    -- "The reader now writes its samples into a lent raster of 4^n entries".
    pub samples_written_lem : 4 ^ (scan bytes).n ≤ length lent
        → (r ≡ record { number = 0; n = (scan bytes).n; maxval = (scan bytes).maxval; count = 4 ^ (scan bytes).n }) × (lent' ≡ over (scan bytes).raster lent)
    unfolding answer_with
    samples_written_lem h =
        let b = stored_answered (scan bytes) lent z h {raster' = over (scan bytes).raster lent} refl in (
          same_answer b ∙ ap (λ (k : ℕ). record { number = 0; n = (scan bytes).n; maxval = (scan bytes).maxval; count = k }) (raster_is_square bytes z),
          same_raster b,
        )

  -- Which of them it is, is told by the file and by the length of the raster.
  data Case : Type 0 where
    refused : ((scan bytes).number ≡ 0 → ⊥) → Case
    short : (scan bytes).number ≡ 0 → length lent < 4 ^ (scan bytes).n → Case
    written : (scan bytes).number ≡ 0 → 4 ^ (scan bytes).n ≤ length lent → Case

  which : Case
  which = go (ℕ_discrete (scan bytes).number 0) (dec_lt (length lent) (4 ^ (scan bytes).n))
    where
      go : Dec ((scan bytes).number ≡ 0) → Dec (length lent < 4 ^ (scan bytes).n) → Case
      go (no d) t = refused d
      go (yes z) (yes h) = short z h
      go (yes z) (no h) = written z (omega arith)

  number_of : {q : Picture} → r ≡ q → r.number ≡ q.number
  number_of e = ap (λ (x : Picture). x.number) e

  -- A raster that is long enough for any picture in the file leaves the file's own number.
  pub number_of_file : ((scan bytes).number ≡ 0 → 4 ^ (scan bytes).n ≤ length lent) → r.number ≡ (scan bytes).number
  unfolding refusal
  number_of_file enough = go which
    where
      go : Case → r.number ≡ (scan bytes).number
      go (refused e) = number_of (file_refused e).0
      go (short z h) = absurd (omega (arith, enough z))
      go (written z h) = number_of (samples_written_lem z h).0 ∙ sym z

  -- A refusal: its number with zeros, the raster as it was, and the number is 8 or one of 10 to 14.
  module _ (d : r.number ≡ 0 → ⊥) where
    pub refusal_leaves_raster : (r ≡ refusal r.number) × (lent' ≡ lent)
    unfolding refusal
    refusal_leaves_raster = go which
      where
        told : {k : ℕ} → (r ≡ refusal k) × (lent' ≡ lent) → (r ≡ refusal r.number) × (lent' ≡ lent)
        told x = (x.0 ∙ ap refusal (sym (number_of x.0)), x.1)

        go : Case → (r ≡ refusal r.number) × (lent' ≡ lent)
        go (refused e) = told (file_refused e)
        go (short z h) = told (raster_too_short z h)
        go (written z h) = absurd (d (number_of (samples_written_lem z h).0))

    pub refusal-numbers : (r.number ≡ 8) ⊎ (10 ≤ r.number) × (r.number ≤ 14)
    unfolding refusal
    refusal-numbers = go which
      where
        go : Case → (r.number ≡ 8) ⊎ (10 ≤ r.number) × (r.number ≤ 14)
        go (refused e) = let n = number_of (file_refused e).0 in let s = refused_number bytes e in inr (omega (arith, n, s.0), omega (arith, n, s.1))
        go (short z h) = inl (number_of (raster_too_short z h).0)
        go (written z h) = absurd (d (number_of (samples_written_lem z h).0))

  -- An accepted picture: the samples stand at the front of the raster, and what lies beyond them is unchanged.
  module _ (z : r.number ≡ 0) where
    fits : ((scan bytes).number ≡ 0) × (4 ^ (scan bytes).n ≤ length lent)
    unfolding refusal
    fits = go which
      where
        go : Case → ((scan bytes).number ≡ 0) × (4 ^ (scan bytes).n ≤ length lent)
        go (refused e) = absurd (e (sym (number_of (file_refused e).0) ∙ z))
        go (short y h) = absurd (omega (arith, z, number_of (raster_too_short y h).0))
        go (written y h) = (y, h)

    answer_is : r ≡ record { number = 0; n = (scan bytes).n; maxval = (scan bytes).maxval; count = 4 ^ (scan bytes).n }
    answer_is = (samples_written_lem fits.0 fits.1).0

    pub n-is : r.n ≡ (scan bytes).n
    n-is = ap (λ (q : Picture). q.n) answer_is

    pub front_is : take r.count lent' ≡ (scan bytes).raster
    front_is =
        ap₂ take (ap (λ (q : Picture). q.count) answer_is ∙ sym (raster_is_square bytes fits.0)) (samples_written_lem fits.0 fits.1).1
        ∙ take_over (scan bytes).raster lent

    pub accepted : AcceptedPicture bytes r.n r.maxval (take r.count lent')
    accepted = rw (front_is, answer_is) (zero_accepted bytes fits.0)

    pub side_at_most_8 : r.n ≤ 8
    side_at_most_8 = accepted.side

    pub maxval_in_range : (1 ≤ r.maxval) × (r.maxval ≤ 65535)
    maxval_in_range = (accepted.low, accepted.high)

    pub count_is_square : r.count ≡ 4 ^ r.n
    count_is_square = rw answer_is refl

    pub raster_long_enough : 4 ^ r.n ≤ length lent
    raster_long_enough = rw answer_is fits.1

    entry_is : (i : ℕ) → i < 4 ^ r.n → get_or lent' i 0 ≡ sample_at (is_wide r.maxval) accepted.rest i
    entry_is i h =
        let many : i < r.count = omega (arith, count_is_square) in
        sym (get_or-take r.count lent' i 0 many)
        ∙ ap (λ (l : List ℕ). get_or l i 0) accepted.samples
        ∙ samples_at (is_wide r.maxval) (4 ^ r.n) accepted.rest i h

    -- The bytes behind the header are the last ones of the file.
    rest_at : (k : ℕ) → get_or accepted.rest k 0 ≡ get_or bytes (length bytes - sample_bytes (is_wide r.maxval) * 4 ^ r.n + k) 0
    rest_at k =
        ap (λ (l : List ℕ). get_or l k 0) (sym (raster_at_end bytes accepted.rest _ accepted.file))
        ∙ get_or-drop (length bytes - length accepted.rest) bytes k 0
        ∙ ap (λ (size : ℕ). get_or bytes (length bytes - size + k) 0) accepted.full

    -- Up to a maxval of 255 a sample is one byte.
    pub one_byte_samples : r.maxval ≤ 255 → (i : ℕ) → i < 4 ^ r.n → get_or lent' i 0 ≡ get_or bytes (length bytes - 4 ^ r.n + i) 0
    unfolding is_wide sample_at
    one_byte_samples low i h =
        let narrow : is_wide r.maxval ≡ false = le-ltb 255 r.maxval low in
        let size : sample_bytes (is_wide r.maxval) * 4 ^ r.n ≡ 4 ^ r.n = ap (λ (k : ℕ). k * 4 ^ r.n) (one_byte narrow) ∙ omega arith in
        entry_is i h ∙ ap (λ (t : Bool). sample_at t accepted.rest i) narrow ∙ rest_at i ∙ ap (λ (s : ℕ). get_or bytes (length bytes - s + i) 0) size

    -- "For maxval above 255 a sample is two bytes, the most significant first".
    pub two_byte_samples : 255 < r.maxval → (i : ℕ) → i < 4 ^ r.n
        → let start = length bytes - 2 * 4 ^ r.n in get_or lent' i 0 ≡ 256 * get_or bytes (start + 2 * i) 0 + get_or bytes (start + (2 * i + 1)) 0
    unfolding is_wide sample_at
    two_byte_samples above i h =
        let wide : is_wide r.maxval ≡ true = lt-ltb 255 r.maxval above in
        let size : sample_bytes (is_wide r.maxval) * 4 ^ r.n ≡ 2 * 4 ^ r.n = ap (λ (k : ℕ). k * 4 ^ r.n) (two_bytes wide) in
        entry_is i h
        ∙ ap (λ (t : Bool). sample_at t accepted.rest i) wide
        ∙ ap₂ (λ (a b : ℕ). 256 * a + b) (rest_at (2 * i)) (rest_at (2 * i + 1))
        ∙ ap (λ (s : ℕ). 256 * get_or bytes (length bytes - s + 2 * i) 0 + get_or bytes (length bytes - s + (2 * i + 1)) 0) size

    pub samples_at_most_maxval : (i : ℕ) → i < 4 ^ r.n → get_or lent' i 0 ≤ r.maxval
    samples_at_most_maxval i h = let many : i < r.count = omega (arith, count_is_square) in omega (arith, accepted.at_most i h, get_or-take r.count lent' i 0 many)

    pub beyond_unchanged : (i : ℕ) → 4 ^ r.n ≤ i → get_or lent' i 0 ≡ get_or lent i 0
    beyond_unchanged i h =
        let w = samples_written_lem fits.0 fits.1 in
        ap (λ (l : List ℕ). get_or l i 0) w.1
        ∙ over_beyond (scan bytes).raster lent i (omega (arith, raster_is_square bytes fits.0, ap (λ (q : Picture). 4 ^ q.n) w.0))

    pub length_unchanged : length lent' ≡ length lent
    length_unchanged =
        let w = samples_written_lem fits.0 fits.1 in
        ap length w.1 ∙ length_over (scan bytes).raster lent (omega (arith, raster_is_square bytes fits.0, fits.1))

  -- No picture without a cause is refused.
  pub accepted_picture_read : {n maxval : ℕ} {raster : List ℕ} → AcceptedPicture bytes n maxval raster → 4 ^ n ≤ length lent
      → (r ≡ record { number = 0; n = n; maxval = maxval; count = 4 ^ n }) × (lent' ≡ over raster lent)
  accepted_picture_read {n} {maxval} {raster} x h =
      let e = accepted_scan bytes raster n maxval x in
      let w = samples_written_lem (ap (λ (s : Scan). s.number) e) (omega (arith, ap (λ (s : Scan). 4 ^ s.n) e)) in (
        w.0 ∙ ap (λ (s : Scan). record { number = 0; n = s.n; maxval = s.maxval; count = 4 ^ s.n }) e,
        w.1 ∙ ap (λ (s : Scan). over s.raster lent) e,
      )
