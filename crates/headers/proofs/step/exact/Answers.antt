-- Where the bytes end there is none to take; else the byte at the place is the wanted one or not.
use Rattle.std.proofs.Common.{sym, arith, eq-eqb, ne_eqb}
use Rattle.headers.proofs.Places.{byte-end, byte-yes, byte-no}
use Rattle.headers.proofs.step.exact.Goals as goal
use Rattle.headers.proofs.step.exact.Goals.{else-at-bytes-via-else-at-bytes, else-at-bytes-via-then-at-bytes+else-bytes-at}

pub returns-then-bytes-at : goal.returns-then-bytes-at
returns-then-bytes-at c =
    record {
      says = sym (byte-yes _ _ c.if-at-bytes.true _ (eq-eqb _ _ c.if-bytes-at.true));
      inside = omega arith;
    }

pub returns-else-at-bytes : goal.returns-else-at-bytes
returns-else-at-bytes c =
    elim c.else-at-bytes.branch [
      | else-at-bytes-via-then-at-bytes+else-bytes-at w ↦ record { says = sym (byte-no _ _ w.if-at-bytes.true _ (ne_eqb _ _ w.if-bytes-at.false)); inside = omega arith }
      | else-at-bytes-via-else-at-bytes w ↦ record { says = sym (byte-end _ _ w.if-at-bytes.false _); inside = omega arith }
    ]
