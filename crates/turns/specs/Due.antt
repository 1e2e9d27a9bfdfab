-- Something is due of each open outline, from the fresh state on, where each cycle has corners.
use Rattle.std.specs.Prelude.{◌≡◌, ℕ, ◌+◌, ◌<◌}
use Rattle.std.proofs.Math.Path.{refl, subst}
use Rattle.std.proofs.Common.{sym, arith}
use mathlib.Core.List.{List, [], ◌∷◌, ◌++◌}
use Rattle.std.proofs.Math.Decide.{dec_lt, ℕ_discrete}
use Rattle.serving.specs.declared.OpenOutline.{OpenOutline}
use Rattle.serving.specs.declared.State.{State}
use Rattle.serving.specs.declared.Opened.{Opened}
use Rattle.serving.specs.declared.Turned.{Turned}
use Rattle.serving.specs.Queue.{Lists, due_of}
use Rattle.serving.specs.States.{queue_of, fresh}
use Rattle.serving.specs.Promise.{Opening, none_open, Turning}
use Rattle.turns.specs.Calls.{accepted_only, refusal_leaves_state, joins_at_the_back, answers_none, goes_to_the_back, else_closes}
use Rattle.turns.specs.Runs.{Run, none, opening, turning, EachHasCorners}
use Rattle.turns.specs.Made.{none_open-fresh}

pub data AllDue (l : Lists) : List OpenOutline → Type 0 where
  none_left : AllDue l []
  one_due : {o : OpenOutline} {q : List OpenOutline} → 0 < due_of l o → AllDue l q → AllDue l (o ∷ q)

due_append : (l : Lists) (q : List OpenOutline) (o : OpenOutline) → AllDue l q → 0 < due_of l o → AllDue l (q ++ o ∷ [])
due_append l [] o none_left h = one_due h none_left
due_append l (p ∷ q) o (one_due d a) h = one_due d (due_append l q o a h)

module _ {l : Lists} {s : State} where
  pub due_after_opening : {k : ℕ} {answer : Opened} → EachHasCorners l → Opening s k l.cycles answer → AllDue l (queue_of s) → AllDue l (queue_of answer.state)
  unfolding due_of
  due_after_opening {k} {answer} some p all = pick (ℕ_discrete answer.number 0)
    where
      pick : Dec (answer.number ≡ 0) → AllDue l (queue_of answer.state)
      pick (no f) = subst (λ (t : State). AllDue l (queue_of t)) (sym (refusal_leaves_state p f)) all
      pick (yes ok) =
          subst (AllDue l) (sym (joins_at_the_back p ok))
          (due_append l (queue_of s) (record { cycle = k; handed = 0 }) all (omega (arith, some k (accepted_only p ok).0)))

  pub due_after_turn : {answer : Turned} → Turning s l answer → AllDue l (queue_of s) → AllDue l (queue_of answer.state)
  unfolding none_open due_of
  due_after_turn {answer} p all = pick (queue_of s) refl all
    where
      pick : (q : List OpenOutline) → queue_of s ≡ q → AllDue l q → AllDue l (queue_of answer.state)
      pick [] e d = subst (λ (t : Turned). AllDue l (queue_of t.state)) (sym (answers_none p e)) all
      pick (o ∷ q) e (one_due h d) = more_or_less (dec_lt 16 (due_of l o))
        where
          more_or_less : Dec (16 < due_of l o) → AllDue l (queue_of answer.state)
          more_or_less (yes more) =
              subst (AllDue l) (sym (goes_to_the_back p e more)) (due_append l q (record { cycle = o.cycle; handed = o.handed + 16 }) d (omega arith))
          more_or_less (no few) = subst (AllDue l) (sym (else_closes p e (omega arith))) d

pub due_after_run : {l : Lists} {s t : State} → EachHasCorners l → Run l s t → AllDue l (queue_of s) → AllDue l (queue_of t)
due_after_run some none all = all
due_after_run some (opening k answer p r) all = due_after_run some r (due_after_opening some p all)
due_after_run some (turning answer p r) all = due_after_run some r (due_after_turn p all)

pub due_fresh : (l : Lists) → AllDue l (queue_of fresh)
due_fresh l = subst (AllDue l) (sym none_open-fresh) none_left
