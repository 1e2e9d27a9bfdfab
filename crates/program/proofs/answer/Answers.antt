-- The part that is printed is what was read, and a list of `text_room` bytes takes the whole text of any bytes.
use Rattle.printing.specs.Callers.{count_within, whole_text_put}
use Rattle.program.proofs.answer.Goals as goal

pub returns-in-Ok : goal.returns-in-Ok
returns-in-Ok c = let p = c.in-Ok.ensures in record { put = whole_text_put p c.requires.1; within = count_within p }

pub returns-in-Err : goal.returns-in-Err
returns-in-Err c = let p = c.in-Err.ensures in record { put = whole_text_put p c.requires.1; within = count_within p }
