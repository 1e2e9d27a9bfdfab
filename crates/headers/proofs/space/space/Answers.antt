-- Where the bytes end there is none to take; else the byte at the place is white space or not.
use Rattle.std.proofs.Common.{sym, ◌∙◌, arith}
use Rattle.headers.specs.Space.{space}
use Rattle.headers.proofs.Places.{byte-end, byte-yes, byte-no}
use Rattle.headers.proofs.space.space.Goals as goal
use Rattle.headers.proofs.space.space.Goals.{else-at-bytes-via-then-at-bytes+else-is_space, else-at-bytes-via-else-at-bytes}

pub returns-then-is_space : goal.returns-then-is_space
unfolding space
returns-then-is_space c =
    record {
      says = sym (byte-yes _ _ c.if-at-bytes.true _ (sym c.is_space.ensures ∙ c.if-is_space.true));
      inside = omega arith;
    }

pub returns-else-at-bytes : goal.returns-else-at-bytes
unfolding space
returns-else-at-bytes c =
    elim c.else-at-bytes.branch [
      | else-at-bytes-via-then-at-bytes+else-is_space w ↦ record { says = sym (byte-no _ _ w.if-at-bytes.true _ (sym w.is_space.ensures ∙ w.if-is_space.false)); inside = omega arith }
      | else-at-bytes-via-else-at-bytes w ↦ record { says = sym (byte-end _ _ w.if-at-bytes.false _); inside = omega arith }
    ]
