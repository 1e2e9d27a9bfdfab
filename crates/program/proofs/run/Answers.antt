-- What was read stands at the front of the buffer, and its text was put at the front of the text list; writing alters neither.
use Rattle.program.proofs.run.Goals as goal

pub returns-then-is_err : goal.returns-then-is_err
returns-then-is_err c = record { read = c.read_full-read.result; inside = c.read_full-read.ensures; in_text = c.answer-count.ensures.put.list }

pub returns-else-is_err : goal.returns-else-is_err
returns-else-is_err c = record { read = c.read_full-read.result; inside = c.read_full-read.ensures; in_text = c.answer-count.ensures.put.list }
