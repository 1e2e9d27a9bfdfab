-- Results as the documents' numbers: 0 for acceptance, else the number of the cause; and, of a writer, how many entries were written.
use Rattle.std.specs.Prelude.{◌≡◌, ℕ, Result, Ok, Err, IsErrAnd}
use Rattle.std.proofs.Common.{ap}
use Rattle.std.proofs.lemmas.Result.{err_from_is_err_and}
use Rattle.answers.specs.declared.cause.Cause.{Cause}
use Rattle.answers.specs.declared.Written.{Written}
use Rattle.answers.specs.Causes.{number_of}

-- The number of a result of any kind.
abbrev pub said : {A : Type 0} → Result A Cause → ℕ
said (Ok value) = 0
said (Err cause) = number_of cause

-- What a writer answers: 0 and the count, or the number of the cause and 0.
abbrev pub written : Result ℕ Cause → Written
written (Ok count) = record { number = 0; count = count }
written (Err cause) = record { number = number_of cause; count = 0 }

-- What a `?` hands on says what the call said.
pub said_on : {A : Type 0} (result : Result A Cause) (cause : Cause) → IsErrAnd result (λ e. e ≡ cause) → said result ≡ number_of cause
said_on result cause h = let p = err_from_is_err_and result h in rw p.1 (ap number_of p.2)

pub written_on : (result : Result ℕ Cause) (cause : Cause) → IsErrAnd result (λ e. e ≡ cause) → written result ≡ record { number = number_of cause; count = 0 }
written_on result cause h = let p = err_from_is_err_and result h in rw p.1 (ap (λ e. record { number = number_of e; count = 0 }) p.2)
