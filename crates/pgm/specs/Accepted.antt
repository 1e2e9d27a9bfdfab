-- Accepted pictures: what number 0 says of a file, and the other way round; and what a refusal says.
use Rattle.std.specs.Prelude.{◌≡◌, Result, Ok, Err, refl, Bool, true, false, ◌⊎◌, ◌↔◌, List, ℕ, ◌*◌, ◌^◌, ◌≤◌, ◌<◌, length, get_or}
use Rattle.std.proofs.Common.{sym, ap, ap₂, ◌∙◌, subst, inl, inr, arith}
use Rattle.std.proofs.Math.Logic.{⊎_elim}
use Rattle.std.proofs.Math.Decide.{ℕ_discrete}
use Rattle.headers.specs.Parser.{Parsed, refused, got, next}
use Rattle.headers.specs.Header.{Fields, header}
use Rattle.headers.specs.File.{File}
use Rattle.headers.specs.Layout.{next_on}
use Rattle.headers.specs.FileLaws.{header_is_file, file_is_header, header_10, raster_short}
use Rattle.pgm.specs.Samples.{is_wide, sample_bytes, samples_of, any_above, length-samples, bytes_at_least, each_at_most, none_above}
use Rattle.pgm.specs.Picture.{judged, picture, Scan, nothing, said, scan}
use Rattle.pgm.specs.Shaped.{shaped}
use Rattle.pgm.specs.ShapeLaws.{filled_shape, refused_11_to_13}
use Rattle.pgm.specs.Scans.{refused_scan, shape_scan, facts, above_scan, held-scan}
use Rattle.answers.specs.declared.cause.Cause.{Cause}
use Rattle.pgm.specs.declared.shape.Shape.{Shape}

-- A file of side 2^n, n from 0 to 8, with maxval from 1 to 65,535. Behind the header stand the bytes of 4^n samples, at their width, and
-- nothing else. The raster is these samples, and none is above maxval.
pub record AcceptedPicture (bytes : List ℕ) (n maxval : ℕ) (raster : List ℕ) : Type 0 where
  pub rest : List ℕ
  pub file : File bytes (record { width = 2 ^ n; height = 2 ^ n; maxval = maxval }) rest
  pub side : n ≤ 8
  pub low : 1 ≤ maxval
  pub high : maxval ≤ 65535
  pub full : length rest ≡ sample_bytes (is_wide maxval) * 4 ^ n
  pub samples : raster ≡ samples_of (is_wide maxval) (4 ^ n) rest
  pub at_most : (i : ℕ) → i < 4 ^ n → get_or raster i 0 ≤ maxval

-- What a file holds.
pub file_scan : (bytes rest : List ℕ) (f : Fields) → File bytes f rest → scan bytes ≡ said (judged f rest)
unfolding scan picture
file_scan bytes rest f x = ap said (next_on (file_is_header bytes rest f x) judged)

-- A bad header.
pub bad-scan : (bytes : List ℕ) → header bytes ≡ refused 10 → scan bytes ≡ nothing 10
unfolding scan picture next
bad-scan bytes e = refused_scan (ap (λ (p : Parsed Fields). next p judged) e)

-- An accepted picture holds n, maxval and the samples.
pub accepted_scan : (bytes raster : List ℕ) (n maxval : ℕ) → AcceptedPicture bytes n maxval raster
    → scan bytes ≡ record { number = 0; n = n; maxval = maxval; raster = raster }
accepted_scan bytes raster n maxval a =
    let f : Fields = record { width = 2 ^ n; height = 2 ^ n; maxval = maxval } in
    let long : length raster ≡ 4 ^ n = ap length a.samples ∙ length-samples (is_wide maxval) (4 ^ n) a.rest in
    let none : any_above maxval raster ≡ false = none_above maxval raster (λ i h. a.at_most i (omega (arith, long))) in
    file_scan bytes a.rest f a.file
    ∙ held-scan f a.rest (filled_shape f (length a.rest) refl refl a.side a.low a.high a.full) (ap (any_above maxval) (sym a.samples) ∙ none)
    ∙ ap (λ (l : List ℕ). record { number = 0; n = n; maxval = maxval; raster = l }) (sym a.samples)

-- Each list of bytes is an accepted picture or is refused by a cause of the table, 10 to 14.
pub record Refused (bytes : List ℕ) : Type 0 where
  pub number : ℕ
  pub least : 10 ≤ number
  pub most : number ≤ 14
  pub says : scan bytes ≡ nothing number

pub record Passed (bytes : List ℕ) : Type 0 where
  pub n : ℕ
  pub maxval : ℕ
  pub raster : List ℕ
  pub accepted : AcceptedPicture bytes n maxval raster

module _ (bytes rest : List ℕ) (f : Fields) (x : File bytes f rest) where
  -- What passes 11 to 14 is accepted.
  passed : {n count : ℕ} {wide : Bool} → shaped f (length rest) ≡ Ok (record { n = n; count = count; wide = wide }) → any_above f.maxval (samples_of wide count rest) ≡ false → Passed bytes
  passed {n} {count} {wide} e none =
      let s = facts f rest e in
      let same : samples_of wide count rest ≡ samples_of (is_wide f.maxval) (4 ^ n) rest = ap₂ (λ (t : Bool) (k : ℕ). samples_of t k rest) s.wide_is s.square_is in
      let at : ◌≡◌ {A = Fields} f (record { width = 2 ^ n; height = 2 ^ n; maxval = f.maxval }) = λ i. record { width = s.width_is i; height = s.height_is i; maxval = f.maxval } in
      record {
        n = n;
        maxval = f.maxval;
        raster = samples_of wide count rest;
        accepted = record {
          rest = rest;
          file = subst (λ (g : Fields). File bytes g rest) at x;
          side = s.side;
          low = s.low;
          high = s.high;
          full = s.full ∙ ap₂ (λ (t : Bool) (k : ℕ). sample_bytes t * k) s.wide_is s.square_is;
          samples = same;
          at_most = λ i h. each_at_most f.maxval (samples_of wide count rest) none i (omega (arith, length-samples wide count rest, s.square_is));
        };
      }

  refused_as : {k : ℕ} → (10 ≤ k) × (k ≤ 14) → said (judged f rest) ≡ nothing k → Refused bytes
  refused_as {k} range e = record { number = k; least = range.0; most = range.1; says = file_scan bytes rest f x ∙ e }

  by_shape : Passed bytes ⊎ Refused bytes
  by_shape = go (shaped f (length rest)) refl
    where
      go : (s : Result Shape Cause) → shaped f (length rest) ≡ s → Passed bytes ⊎ Refused bytes
      go (Err cause) e =
          let r = refused_11_to_13 f (length rest) e in
          inr (refused_as (omega (arith, r.0), omega (arith, r.1)) (shape_scan f rest e))
      go (Ok s) e = pick (any_above f.maxval (samples_of s.wide s.count rest)) refl
        where
          pick : (t : Bool) → any_above f.maxval (samples_of s.wide s.count rest) ≡ t → Passed bytes ⊎ Refused bytes
          pick true h = inr (refused_as (omega arith, omega arith) (above_scan f rest e h))
          pick false h = inl (passed e h)

pub accepted_or_refused : (bytes : List ℕ) → Passed bytes ⊎ Refused bytes
accepted_or_refused bytes = go (header bytes) refl
  where
    go : (p : Parsed Fields) → header bytes ≡ p → Passed bytes ⊎ Refused bytes
    go (refused k) e = inr (record { number = 10; least = omega arith; most = omega arith; says = bad-scan bytes (e ∙ ap refused (header_10 bytes k e)) })
    go (got f rest) e = by_shape bytes rest f (header_is_file bytes rest f e)

-- What a file holds, by its number.
module _ (bytes : List ℕ) where
  -- Number 0 is said of accepted pictures alone.
  pub zero_accepted : (scan bytes).number ≡ 0 → AcceptedPicture bytes (scan bytes).n (scan bytes).maxval (scan bytes).raster
  unfolding nothing
  zero_accepted z = ⊎_elim passed refused (accepted_or_refused bytes)
    where
      passed : Passed bytes → AcceptedPicture bytes (scan bytes).n (scan bytes).maxval (scan bytes).raster
      passed p = rw (accepted_scan bytes p.raster p.n p.maxval p.accepted) p.accepted

      refused : Refused bytes → AcceptedPicture bytes (scan bytes).n (scan bytes).maxval (scan bytes).raster
      refused r = absurd (omega (arith, z, ap (λ (s : Scan). s.number) r.says, r.least))

  pub zero_exactly : (scan bytes).number ≡ 0 ↔ Passed bytes
  zero_exactly = (
    λ z. record { n = (scan bytes).n; maxval = (scan bytes).maxval; raster = (scan bytes).raster; accepted = zero_accepted z },
    λ p. ap (λ (s : Scan). s.number) (accepted_scan bytes p.raster p.n p.maxval p.accepted),
  )

  -- Any other number is a refusal by one of the causes 10 to 14.
  pub refused_number : ((scan bytes).number ≡ 0 → ⊥) → (10 ≤ (scan bytes).number) × ((scan bytes).number ≤ 14)
  unfolding nothing
  refused_number d = ⊎_elim passed refused (accepted_or_refused bytes)
    where
      passed : Passed bytes → (10 ≤ (scan bytes).number) × ((scan bytes).number ≤ 14)
      passed p = absurd (d (zero_exactly.1 p))

      refused : Refused bytes → (10 ≤ (scan bytes).number) × ((scan bytes).number ≤ 14)
      refused r = rw r.says (r.least, r.most)

  pub number_low : (scan bytes).number ≤ 14
  number_low = pick (ℕ_discrete (scan bytes).number 0)
    where
      pick : Dec ((scan bytes).number ≡ 0) → (scan bytes).number ≤ 14
      pick (yes z) = omega (arith, z)
      pick (no d) = (refused_number d).1

  -- An accepted picture has 4^n samples.
  pub raster_is_square : (scan bytes).number ≡ 0 → length (scan bytes).raster ≡ 4 ^ (scan bytes).n
  raster_is_square z = let a = zero_accepted z in ap length a.samples ∙ length-samples (is_wide (scan bytes).maxval) (4 ^ (scan bytes).n) a.rest

  -- Behind a header they take at least a byte each.
  pub longer_than_samples : (scan bytes).number ≡ 0 → 4 ^ (scan bytes).n < length bytes
  longer_than_samples z =
      let a = zero_accepted z in
      omega (arith, raster_short bytes a.rest _ a.file, a.full, bytes_at_least (is_wide (scan bytes).maxval) (4 ^ (scan bytes).n))
