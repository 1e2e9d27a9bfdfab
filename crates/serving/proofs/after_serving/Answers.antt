-- It goes behind the others, or closes.
use Rattle.std.proofs.Common.{◌∙◌, sym, ap, ◌++◌, option_to_list, append-nil}
use Rattle.serving.specs.Queue.{to_the_back, closes}
use Rattle.serving.specs.States.{state_of}
use Rattle.serving.proofs.after_serving.Goals as goal
use Rattle.serving.proofs.after_serving.Goals.{then-due-gt16, else-due-gt16}

pub returns : goal.returns
returns c =
    let a = c.args in
    let q = a.others.now in
    let next = c.of.ensures in
    elim c.if-due-gt16.branch [
      | then-due-gt16 w ↦ next ∙ ap (λ b. state_of (q ++ option_to_list b)) w.back-is ∙ ap state_of (sym (to_the_back a.due a.served q w.if-due-gt16.true))
      | else-due-gt16 w ↦
          next ∙ ap (λ b. state_of (q ++ option_to_list b)) w.back-is ∙ ap state_of (append-nil q ∙ sym (closes a.due a.served q w.if-due-gt16.false))
    ]
