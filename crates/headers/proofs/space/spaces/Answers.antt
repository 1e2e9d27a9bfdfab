-- The first byte must be white; the rest is skipped with it.
use Rattle.std.proofs.Common.{sym, ◌∙◌, arith}
use Rattle.headers.proofs.Places.{spaces-end, spaces-yes, spaces-no}
use Rattle.headers.proofs.space.spaces.Goals as goal
use Rattle.headers.proofs.space.spaces.Goals.{then-bytes-at-via-then-bytes-at, then-bytes-at-via-else-bytes-at+then-not-is_white}

pub returns-then-bytes-at : goal.returns-then-bytes-at
returns-then-bytes-at c =
    elim c.then-bytes-at.branch [
      | then-bytes-at-via-then-bytes-at w ↦ record { says = sym (spaces-end _ _ w.if-bytes-at.true); inside = omega arith }
      | then-bytes-at-via-else-bytes-at+then-not-is_white w ↦ record { says = sym (spaces-no _ _ w.if-bytes-at.false (sym w.is_white.ensures ∙ w.if-not-is_white.true)); inside = omega arith }
    ]

pub skip-requires : goal.skip-requires
skip-requires c = omega (arith, c.if-bytes-at.false)

pub returns : goal.returns
returns c =
    let white = sym c.is_white.ensures ∙ c.if-not-is_white.false in
    let p = c.skip.ensures in
    record { says = p.says ∙ sym (spaces-yes _ _ c.if-bytes-at.false white); inside = p.inside }
