-- What a file holds, cause by cause, told by the shape of its picture.
use Rattle.std.specs.Prelude.{◌≡◌, Ok, Err, Bool, true, false, not, List, ℕ, length}
use Rattle.std.proofs.Math.Path.{refl, ap}
use Rattle.std.proofs.Common.{◌∙◌}
use Rattle.headers.specs.Parser.{Parsed, refused, got, demand}
use Rattle.headers.specs.Header.{Fields}
use Rattle.pgm.specs.Samples.{samples_of, any_above}
use Rattle.pgm.specs.Picture.{samples, judged, nothing, said}
use Rattle.pgm.specs.Shaped.{shaped, judged_from, judged_by_shape}
use Rattle.pgm.specs.ShapeLaws.{ShapeFacts, shape_facts}
use Rattle.answers.specs.declared.cause.Cause.{Cause}
use Rattle.answers.specs.Causes.{number_of}

-- The number of a refusal from 10 to 14.
pub refused_scan : {p : Parsed Fields} {k : ℕ} → p ≡ refused k → said p ≡ nothing k
unfolding said
refused_scan e = ap said e

-- The fields of a header, and the bytes behind it.
module _ (f : Fields) (rest : List ℕ) where
  pub shape_scan : {cause : Cause} → shaped f (length rest) ≡ Err cause → said (judged f rest) ≡ nothing (number_of cause)
  unfolding judged_from
  shape_scan e = refused_scan (judged_by_shape f rest ∙ ap (judged_from f rest) e)

  module _ {n count : ℕ} {wide : Bool} (e : shaped f (length rest) ≡ Ok (record { n = n; count = count; wide = wide })) where
    pub facts : ShapeFacts f (length rest) n count wide
    facts = shape_facts f (length rest) e

    then_14 : judged f rest ≡ demand 14 (not (any_above f.maxval (samples_of wide count rest))) (got f rest)
    unfolding judged_from
    then_14 = judged_by_shape f rest ∙ ap (judged_from f rest) e

    pub above_scan : any_above f.maxval (samples_of wide count rest) ≡ true → said (judged f rest) ≡ nothing 14
    unfolding demand
    above_scan h = refused_scan (then_14 ∙ rw h refl)

    pub held-scan : any_above f.maxval (samples_of wide count rest) ≡ false
        → said (judged f rest) ≡ record { number = 0; n = n; maxval = f.maxval; raster = samples_of wide count rest }
    unfolding demand said samples
    held-scan none =
        let passed : judged f rest ≡ got f rest = then_14 ∙ rw none refl in
        ap said passed ∙ rw (facts.n-is, facts.whole, facts.wide_is) refl
