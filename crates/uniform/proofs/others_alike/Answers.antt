-- Each square is asked in turn; the first that differs ends the question.
use mathlib.Core.Path.{sym, ◌∙◌}
use Rattle.std.proofs.lemmas.Bool.{false≢true}
use Rattle.sequences.specs.Cases.{and_stop, and_go_on}
use Rattle.uniform.specs.Others.{beside_alike}
use Rattle.uniform.proofs.others_alike.Goals as goal
use Rattle.uniform.proofs.others_alike.Goals.{then-square_alike, else-square_alike}

pub returns-then-square_alike-2 : goal.returns-then-square_alike-2
unfolding beside_alike
returns-then-square_alike-2 c =
    elim c.if-square_alike.branch [
      | then-square_alike w ↦
          c.square_alike-then-square_alike-2.ensures
          ∙ sym (and_go_on _ _ (sym c.square_alike.ensures ∙ w.if-square_alike.true)
          ∙ and_go_on _ _ (sym w.square_alike-then-square_alike.ensures ∙ sym w.value-is ∙ c.if-square_alike-2.true))
      | else-square_alike w ↦ absurd (false≢true (sym w.if-square_alike.false ∙ sym w.value-is ∙ c.if-square_alike-2.true))
    ]

pub returns-else-square_alike-2 : goal.returns-else-square_alike-2
unfolding beside_alike
returns-else-square_alike-2 c =
    elim c.if-square_alike.branch [
      | then-square_alike w ↦
          c.if-square_alike-2.false
          ∙ sym (and_go_on _ _ (sym c.square_alike.ensures ∙ w.if-square_alike.true)
          ∙ and_stop _ _ (sym w.square_alike-then-square_alike.ensures ∙ sym w.value-is ∙ c.if-square_alike-2.false))
      | else-square_alike w ↦ c.if-square_alike-2.false ∙ sym (and_stop _ _ (sym c.square_alike.ensures ∙ w.if-square_alike.false))
    ]
