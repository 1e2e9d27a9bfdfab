-- What `print` answers, as a number and how many bytes were written.
use Rattle.std.specs.Prelude.{ℕ, Result, Ok, Err}
use Rattle.answers.specs.Causes.{number_of}
use Rattle.answers.specs.declared.Written.{Written}
use Rattle.printing.specs.declared.Refused.{Refused}

-- 0, or the number of the cause; and the count.
abbrev pub told : Result ℕ Refused → Written
told (Ok count) = record { number = 0; count = count }
told (Err refused) = record { number = number_of refused.cause; count = refused.count }
