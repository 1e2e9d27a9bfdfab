-- What C is answered, by the outcome of a call and the state before it.
use Rattle.std.specs.Prelude.{true, false, replicate, Option, Some, None, Result, Ok, Err}
use Rattle.answers.specs.declared.cause.Cause.{Cause}
use Rattle.answers.specs.Causes.{number_of}
use Rattle.serving.specs.declared.State.{State}
use Rattle.serving.specs.declared.Opened.{Opened}
use Rattle.serving.specs.declared.Served.{Served}
use Rattle.serving.specs.declared.Turned.{Turned}

-- 0 and the new state, or the number of the cause and the state as it was.
abbrev pub opening_answer : State → Result State Cause → Opened
opening_answer s (Ok new) = record { number = 0; state = new }
opening_answer s (Err cause) = record { number = number_of cause; state = s }

-- The turn, or none served.
abbrev pub turn_answer : State → Option Served → Turned
turn_answer s (Some t) = record { served = true; count = t.count; cycle = t.cycle; places = t.places; state = t.state }
turn_answer s None = record { served = false; count = 0; cycle = 0; places = replicate 16 0; state = s }
