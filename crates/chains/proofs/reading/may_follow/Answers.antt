-- A digit, not two right turns from the one before, and a unit that stays within.
use mathlib.Core.Path.{◌≡◌, sym, ap, ◌∙◌}
use mathlib.Core.Bool.{true, not}
use Prim.Native.Nat.{◌-◌}
use borrow.Author.Tests.{eq-eqb, ne_eqb, le-leb, lt-leb}
use Rattle.lattice.specs.Directions.{right_of, opposite}
use Rattle.chains.specs.ChainForm.{allowed, is_direction, digit_of}
use Rattle.chains.specs.Bytes.{two_right}
use Rattle.chains.proofs.reading.may_follow.Goals as goal
use Rattle.chains.proofs.reading.may_follow.Goals.{then-b-lt48-via-then-b-lt48, then-b-lt48-via-else-b-lt48+then-b-gt51}

pub returns-then-b-lt48 : goal.returns-then-b-lt48
unfolding allowed is_direction
returns-then-b-lt48 c =
    elim c.then-b-lt48.branch [
      | then-b-lt48-via-then-b-lt48 w ↦ simp (lt-leb 48 c.args.b w.if-b-lt48.true)
      | then-b-lt48-via-else-b-lt48+then-b-gt51 w ↦ simp (le-leb 48 c.args.b w.if-b-lt48.false, lt-leb c.args.b 51 w.if-b-gt51.true)
    ]

pub returns-else-b-back : goal.returns-else-b-back
unfolding allowed digit_of is_direction
returns-else-b-back c =
    let back : c.right-back.result ≡ opposite (c.args.d) = c.right-back.ensures ∙ ap right_of c.right.ensures ∙ two_right (c.args.d) c.requires in
    let within : is_direction (c.args.b) ≡ true = simp (le-leb 48 (c.args.b) c.if-b-lt48.false, le-leb (c.args.b) 51 c.if-b-gt51.false) in
    simp (within, eq-eqb ((c.args.b) - 48) (opposite (c.args.d)) (c.if-b-back.false ∙ back)) (ap not (eq-eqb _ _ c.if-b-back.false))

pub returns-then-b-back : goal.returns-then-b-back
unfolding allowed digit_of is_direction
returns-then-b-back c =
    let back : c.right-back.result ≡ opposite (c.args.d) = c.right-back.ensures ∙ ap right_of c.right.ensures ∙ two_right (c.args.d) c.requires in
    let within : is_direction (c.args.b) ≡ true = simp (le-leb 48 (c.args.b) c.if-b-lt48.false, le-leb (c.args.b) 51 c.if-b-gt51.false) in
    simp (within, ne_eqb ((c.args.b) - 48) (opposite (c.args.d)) (λ same. c.if-b-back.true (same ∙ sym back))) c.is_free.ensures
