-- What the tracing answers, as the document's numbers.
use Rattle.std.specs.Prelude.{◌≡◌, Result, Ok, Err, IsErrAnd}
use Rattle.std.proofs.Common.{ap}
use Rattle.std.proofs.lemmas.Result.{err_from_is_err_and}
use Rattle.answers.specs.declared.cause.Cause.{Cause}
use Rattle.answers.specs.Causes.{number_of}
use Rattle.tracing.specs.declared.Listed.{Listed}
use Rattle.tracing.specs.declared.Traced.{Traced}

-- 0 and the counts, or the number of the cause and counts 0.
abbrev pub traced : Result Listed Cause → Traced
traced (Ok listed) = record { number = 0; regions = listed.regions; cycles = listed.cycles; corners = listed.corners }
traced (Err cause) = record { number = number_of cause; regions = 0; cycles = 0; corners = 0 }

-- What a `?` hands on.
pub traced_on : (result : Result Listed Cause) (cause : Cause) → IsErrAnd result (λ e. e ≡ cause)
    → traced result ≡ record { number = number_of cause; regions = 0; cycles = 0; corners = 0 }
traced_on result cause h =
    let p = err_from_is_err_and result h in
    rw p.1 (ap (λ e. record { number = number_of e; regions = 0; cycles = 0; corners = 0 }) p.2)
