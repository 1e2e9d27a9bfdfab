-- What the reader answers C.
use Rattle.std.specs.Prelude.{Result, Ok, Err}
use Rattle.answers.specs.declared.cause.Cause.{Cause}
use Rattle.answers.specs.Causes.{number_of}
use Rattle.pgm.specs.declared.Picture.{Picture}
use Rattle.pgm.specs.declared.Stored.{Stored}

-- 0 with n, maxval and the count, or the number of the cause with zeros.
abbrev pub picture : Result Stored Cause → Picture
picture (Ok stored) = record { number = 0; n = stored.n; maxval = stored.maxval; count = stored.count }
picture (Err cause) = record { number = number_of cause; n = 0; maxval = 0; count = 0 }
