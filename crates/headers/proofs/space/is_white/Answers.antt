-- Inside a remark each byte counts; else the four plain ones and the number sign, in the definition's order.
use Rattle.std.proofs.Common.{sym, ◌∙◌}
use Rattle.headers.specs.Space.{is_white, is_sign}
use Rattle.headers.proofs.space.is_white.Goals as goal
use Rattle.headers.proofs.space.is_white.Goals.{then-inside, else-inside}

pub returns-then-is_space : goal.returns-then-is_space
unfolding is_white
returns-then-is_space c =
    elim c.if-inside.branch [
      | then-inside w ↦ simp (w.value-is, w.if-inside.true)
      | else-inside w ↦ simp (c.if-is_space.true, w.if-inside.false, sym w.is_space.ensures ∙ sym w.value-is ∙ c.if-is_space.true)
    ]

pub returns-else-is_space : goal.returns-else-is_space
unfolding is_white is_sign
returns-else-is_space c =
    elim c.if-inside.branch [
      | then-inside w ↦ cc (w.value-is, c.if-is_space.false)
      | else-inside w ↦ simp (w.if-inside.false, sym w.is_space.ensures ∙ sym w.value-is ∙ c.if-is_space.false)
    ]
