-- White space, then a number, whose place lies inside the bytes.
use Rattle.std.proofs.Common.{sym, arith}
use Rattle.headers.specs.Header.{field_over}
use Rattle.headers.specs.Sequence.{past-bad, past_on, past-inside}
use Rattle.headers.proofs.field.Goals as goal

pub returns-in_err-next : goal.returns-in_err-next
unfolding field_over
returns-in_err-next c = rw c.from_residual.ensures (record { says = sym (past-bad c.spaces.ensures c.in_err-next.was _); inside = omega arith })

pub parse-requires : goal.parse-requires
parse-requires c = past-inside c.spaces.ensures c.in_ok-next.was

pub returns : goal.returns
unfolding field_over
returns c = rw (past_on c.spaces.ensures c.in_ok-next.was) c.parse.ensures
