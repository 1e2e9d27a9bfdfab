-- The corners are a cycle form and the text has room, so path data is written; LF then has room in the byte after it.
use Rattle.std.proofs.Common.{◌≡◌, refl, ◌∙◌, ℕ, Result, Ok, Err, arith}
use Rattle.std.specs.Result.{result_unwrap_or}
use Rattle.answers.specs.declared.cause.Cause.{Cause}
use Rattle.answers.specs.Results.{written}
use Rattle.lines.specs.Writing.{end_room, put_plain, put_ended}
use Rattle.lines.proofs.put_cycle.Goals as goal

-- How many bytes were written, none on a refusal.
count_is : (r : Result ℕ Cause) → result_unwrap_or r 0 ≡ (written r).count
count_is (Ok count) = refl
count_is (Err cause) = refl

pub bounds-text-n : goal.bounds-text-n
bounds-text-n c = omega (arith, end_room c.requires c.svg.ensures, c.svg.auto.text, c.unwrap_or-n.ensures ∙ count_is c.svg.result)

pub overflow_add-result : goal.overflow_add-result
overflow_add-result c = omega (arith, end_room c.requires c.svg.ensures, c.well_formed, c.unwrap_or-n.ensures ∙ count_is c.svg.result)

pub returns-then-last : goal.returns-then-last
returns-then-last c = rw (c.unwrap_or-n.ensures ∙ count_is c.svg.result) (put_ended c.requires c.svg.ensures c.if-last.true)

pub returns : goal.returns
returns c = rw (c.unwrap_or-n.ensures ∙ count_is c.svg.result) (put_plain c.requires c.svg.ensures c.if-last.false)
