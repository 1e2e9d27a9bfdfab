-- The answers of `judge` in the order of its tests.
use Rattle.std.proofs.Math.Path.{◌≡◌, refl, ap, subst⁻¹}
use Rattle.std.proofs.Common.{subst, arith}
use Rattle.std.specs.Prelude.{Ok, Err, Bool, true, false, List, ℕ, ◌≤◌, ◌<◌, length}
use Rattle.sequences.specs.Over.{over}
use Rattle.headers.specs.Parser.{Parsed}
use Rattle.headers.specs.Header.{Fields}
use Rattle.pgm.specs.Samples.{samples_of, any_above, length-samples}
use Rattle.pgm.specs.Picture.{judged, Scan, nothing, said}
use Rattle.pgm.specs.Shaped.{shaped}
use Rattle.pgm.specs.ShapeLaws.{refused_11_to_13}
use Rattle.pgm.specs.Scans.{shape_scan, facts, above_scan, held-scan}
use Rattle.pgm.specs.Reading.{refusal, answer_with, Answered, cause_answered, short_answered, stored_answered}
use Rattle.pgm.specs.declared.Picture.{Picture}
use Rattle.answers.specs.declared.cause.Cause.{Cause}
use Rattle.answers.specs.Causes.{number_of}

-- What is answered of the fields and the bytes behind them is answered of the file.
pub file_answered : {p q : Parsed Fields} {lent lent' : List ℕ} {r : Picture} → p ≡ q → Answered (said q) lent lent' r → Answered (said p) lent lent' r
file_answered {p} {q} {lent} {lent'} {r} e a = subst⁻¹ (λ (x : Parsed Fields). Answered (said x) lent lent' r) e a

-- One of the causes 10 to 14.
pub nothing_answered : {s : Scan} {k : ℕ} (lent : List ℕ) → s ≡ nothing k → 0 < k → Answered s lent lent (refusal k)
unfolding nothing
nothing_answered {s} {k} lent e some = cause_answered s lent some (ap (λ (t : Scan). t.number) e)

-- The fields of a header, the bytes behind it, and the lent raster.
module _ (f : Fields) (rest lent : List ℕ) where
  pub shape_answered : {cause : Cause} → shaped f (length rest) ≡ Err cause → Answered (said (judged f rest)) lent lent (refusal (number_of cause))
  shape_answered e = nothing_answered lent (shape_scan f rest e) (omega (arith, (refused_11_to_13 f (length rest) e).0))

  module _ {n count : ℕ} {wide : Bool} (e : shaped f (length rest) ≡ Ok (record { n = n; count = count; wide = wide })) where
    pub above_answered : any_above f.maxval (samples_of wide count rest) ≡ true → Answered (said (judged f rest)) lent lent (refusal 14)
    above_answered h = nothing_answered lent (above_scan f rest e h) (omega arith)

    -- No sample is above maxval.
    module _ (none : any_above f.maxval (samples_of wide count rest) ≡ false) where
      abbrev held : Scan
      held = record { number = 0; n = n; maxval = f.maxval; raster = samples_of wide count rest }

      by_held : {lent' : List ℕ} {r : Picture} → Answered held lent lent' r → Answered (said (judged f rest)) lent lent' r
      by_held {lent'} {r} a = subst⁻¹ (λ (s : Scan). Answered s lent lent' r) (held-scan f rest e none) a

      pub short_judged : length lent < count → Answered (said (judged f rest)) lent lent (refusal 8)
      short_judged h = by_held (short_answered held lent refl (omega (arith, (facts f rest e).square_is)))

      pub stored-judged : {lent' : List ℕ} → count ≤ length lent → lent' ≡ over (samples_of wide count rest) lent
          → Answered (said (judged f rest)) lent lent' (record { number = 0; n = n; maxval = f.maxval; count = count })
      unfolding answer_with
      stored-judged {lent'} h stored =
          let same : ◌≡◌ {A = Picture} (answer_with 0 held) (record { number = 0; n = n; maxval = f.maxval; count = count }) =
          ap (λ (k : ℕ). record { number = 0; n = n; maxval = f.maxval; count = k }) (length-samples wide count rest) in
          by_held (subst (λ (r : Picture). Answered held lent lent' r) same (stored_answered held lent refl (omega (arith, (facts f rest e).square_is)) stored))
