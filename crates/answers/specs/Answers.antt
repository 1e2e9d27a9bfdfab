-- What a writer answers and leaves in the list it was lent: the number of the first cause that applies, else 0; how many
-- entries it wrote; the list with those entries in front. A refusal gives the number and 0, and leaves the list as it was.
use Rattle.std.specs.Prelude.{◌≡◌, Bool, true, false, not, List, ℕ, suc, ◌≤◌, ◌<◌, ltb, take}
use Rattle.std.proofs.Math.Path.{refl, sym, ap}
use Rattle.std.proofs.Common.{ap₂, ◌∙◌, arith}
use Rattle.std.proofs.Math.ListN.{length}
use borrow.Author.Tests.{lt-ltb, le-ltb, ltb-false, not-false}
use Rattle.sequences.specs.Cases.{first, when, if_accepted, written_accepted, first_some, first-zero, when_zero}
use Rattle.sequences.specs.Over.{over, over_none, take_over}
use Rattle.answers.specs.Put.{Put}
use Rattle.answers.specs.declared.Written.{Written}

-- "Paths and chains: 16 or 17, then 8" (document 01): the cause where the input is no form, then 8 where the lent list is
-- shorter than its need.
unfoldable pub writer_number : ℕ → Bool → ℕ → ℕ → ℕ
unfolding first when
writer_number cause form need room = first (when (not form) cause) (when (ltb room need) 8)

module _ (cause : ℕ) (form : Bool) (need room : ℕ) where
  pub no_form : form ≡ false → 0 < cause → writer_number cause form need room ≡ cause
  unfolding writer_number
  no_form h p = rw h (first_some cause (when (ltb room need) 8) p)

  pub too_short : form ≡ true → room < need → writer_number cause form need room ≡ 8
  unfolding writer_number
  too_short h l = rw (h, lt-ltb room need l) refl

  pub no_cause : form ≡ true → need ≤ room → writer_number cause form need room ≡ 0
  unfolding writer_number
  no_cause h l = rw (h, le-ltb room need l) refl

  -- Accepted: a form, and room enough.
  pub accepts : 0 < cause → writer_number cause form need room ≡ 0 → (form ≡ true) × (need ≤ room)
  unfolding writer_number
  accepts p h =
      let z = first-zero (when (not form) cause) (when (ltb room need) 8) h in
      (not-false form (when_zero (not form) cause p z.0), ltb-false room need (when_zero (ltb room need) 8 (omega arith) z.1))

-- A writer of the list `new` whose causes give `number`: its answer, and the lent list, `old` before and `now` after.
pub record Writes (number : ℕ) (new old now : List ℕ) (answer : Written) : Type 0 where
  pub number_is : answer.number ≡ number
  pub count_is : answer.count ≡ length (if_accepted number new)
  pub list : now ≡ over (if_accepted number new) old

-- A refusal writes nothing, and an acceptance puts all of `new`.
module _ {number : ℕ} {new old : List ℕ} (answer : Written) where
  pub writes_none : (k : ℕ) → number ≡ suc k → answer.number ≡ suc k → answer.count ≡ 0 → Writes number new old old answer
  unfolding if_accepted
  writes_none k e n z =
      record {
        number_is = n ∙ sym e;
        count_is = z ∙ ap (λ m. length (if_accepted m new)) (sym e);
        list = sym (over_none old) ∙ ap (λ m. over (if_accepted m new) old) (sym e);
      }

  pub writes_all : {now : List ℕ} → number ≡ 0 → answer.number ≡ 0 → Put new old now answer.count → Writes number new old now answer
  unfolding if_accepted
  writes_all {now} e n p =
      record {
        number_is = n ∙ sym e;
        count_is = p.count_is ∙ ap (λ m. length (if_accepted m new)) (sym e);
        list = p.list ∙ ap (λ m. over (if_accepted m new) old) (sym e);
      }

-- The three answers of a writer of 16 or 17, then 8: the cause, 8, and all of `new` put.
module _ (cause : ℕ) (form : Bool) (need : ℕ) {new old : List ℕ} (answer : Written) where
  pub answers_cause : (k : ℕ) → cause ≡ suc k → form ≡ false → answer.number ≡ cause → answer.count ≡ 0
      → Writes (writer_number cause form need (length old)) new old old answer
  answers_cause k c h n z = writes_none answer k (no_form cause form need (length old) h (omega arith) ∙ c) (n ∙ c) z

  pub answers_short : form ≡ true → length old < need → answer.number ≡ 8 → answer.count ≡ 0 → Writes (writer_number cause form need (length old)) new old old answer
  answers_short h l n z = writes_none answer 7 (too_short cause form need (length old) h l) n z

  pub answers_all : {now : List ℕ} → form ≡ true → need ≤ length old → answer.number ≡ 0 → Put new old now answer.count
      → Writes (writer_number cause form need (length old)) new old now answer
  answers_all h l n p = writes_all answer (no_cause cause form need (length old) h l) n p

-- A call that was accepted and wrote `new`: its answer, and the lent list, `old` before and `now` after.
pub record Wrote (new old now : List ℕ) (answer : Written) : Type 0 where
  pub accepted : answer.number ≡ 0
  pub count_is : answer.count ≡ length new
  pub list : now ≡ over new old
  pub up_to_count : take answer.count now ≡ new

pub accepted_writes : (number : ℕ) (new old now : List ℕ) (answer : Written) → Writes number new old now answer → number ≡ 0 → Wrote new old now answer
accepted_writes number new old now answer w z =
    let e : if_accepted number new ≡ new = written_accepted number new z in
    let c : answer.count ≡ length new = w.count_is ∙ ap length e in
    let l : now ≡ over new old = w.list ∙ ap (λ t. over t old) e in
    record { accepted = w.number_is ∙ z; count_is = c; list = l; up_to_count = ap₂ take c l ∙ take_over new old }
