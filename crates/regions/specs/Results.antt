-- What the numbering answers, as the document's numbers.
use Rattle.std.specs.Prelude.{◌≡◌, ℕ, Result, Ok, Err, IsErrAnd}
use Rattle.std.proofs.Common.{ap}
use Rattle.std.proofs.lemmas.Result.{err_from_is_err_and}
use Rattle.answers.specs.declared.cause.Cause.{Cause}
use Rattle.answers.specs.Causes.{number_of}
use Rattle.regions.specs.declared.Numbered.{Numbered}

-- 0 and the count of regions, or the number of the cause and 0.
abbrev pub numbered : Result ℕ Cause → Numbered
numbered (Ok count) = record { number = 0; regions = count }
numbered (Err cause) = record { number = number_of cause; regions = 0 }

-- What a `?` hands on.
pub numbered_on : (result : Result ℕ Cause) (cause : Cause) → IsErrAnd result (λ e. e ≡ cause) → numbered result ≡ record { number = number_of cause; regions = 0 }
numbered_on result cause h = let p = err_from_is_err_and result h in rw p.1 (ap (λ e. record { number = number_of e; regions = 0 }) p.2)
