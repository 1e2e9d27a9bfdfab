-- P, then 5: a refused step refuses the rest, and a passed one leaves the rest to the next.
use Rattle.std.proofs.Common.{sym, arith}
use Rattle.headers.specs.Header.{magic}
use Rattle.headers.specs.Sequence.{past-bad, past_on}
use Rattle.headers.proofs.magic.Goals as goal

pub returns-in_err-c : goal.returns-in_err-c
unfolding magic
returns-in_err-c c = rw c.from_residual.ensures (record { says = sym (past-bad c.exact.ensures c.in_err-c.was _); inside = omega arith })

pub returns : goal.returns
unfolding magic
returns c = rw (past_on c.exact.ensures c.in_ok-c.was) c.exact-2.ensures
