-- The states that the library's own calls make, with any lists: each is exactly the state of its queue, and no cycle is open twice.
use Rattle.std.specs.Prelude.{◌≡◌, refl, ◌≢◌, Bool, false, ◌||◌, List, [], ◌∷◌, ◌++◌, ℕ, ◌+◌, ◌≤◌, ◌<◌, eqb, length}
use Rattle.std.proofs.Common.{sym, ap, ap₂, ◌∙◌, subst, arith, ne_eqb}
use Rattle.std.proofs.Math.Bool.{or-false, or_assoc}
use Rattle.std.proofs.Math.Decide.{dec_lt, ℕ_discrete}
use Rattle.std.proofs.lemmas.Bool.{eqb-false}
use Rattle.sequences.specs.Cases.{neither}
use Rattle.serving.specs.declared.OpenOutline.{OpenOutline}
use Rattle.serving.specs.declared.State.{State}
use Rattle.serving.specs.declared.Opened.{Opened}
use Rattle.serving.specs.declared.Turned.{Turned}
use Rattle.serving.specs.Queue.{is_open, joined, Lists, due_of}
use Rattle.serving.specs.States.{queue_of, state_of, fresh}
use Rattle.serving.specs.Promise.{Opening, none_open, front_served, Turning}
use Rattle.turns.specs.Calls.{few_open, queue_of_state, accepted_only, refusal_leaves_state, else_accepted, state_with_one_more, joins_at_the_back}
use Rattle.turns.specs.Calls.{answers_none, answers_front, queue_after, goes_to_the_back, else_closes, place_serves_again}
use Rattle.turns.specs.Runs.{Run, none, opening, turning}

-- ---- no cycle twice

pub is_open_append : (k : ℕ) (q : List OpenOutline) (o : OpenOutline) → is_open k (q ++ o ∷ []) ≡ is_open k q || eqb o.cycle k
unfolding is_open
is_open_append k [] o = or-false (eqb o.cycle k)
is_open_append k (p ∷ q) o =
    ap (λ (t : Bool). eqb p.cycle k || t) (is_open_append k q o) ∙ sym (or_assoc (eqb p.cycle k) (is_open k q) (eqb o.cycle k))

pub data Apart : List OpenOutline → Type 0 where
  none_twice : Apart []
  one_more : {o : OpenOutline} {q : List OpenOutline} → is_open o.cycle q ≡ false → Apart q → Apart (o ∷ q)

apart_append : (q : List OpenOutline) (o : OpenOutline) → Apart q → is_open o.cycle q ≡ false → Apart (q ++ o ∷ [])
unfolding is_open
apart_append [] o none_twice h = one_more refl none_twice
apart_append (p ∷ q) o (one_more n a) h =
    let both = neither (eqb p.cycle o.cycle) (is_open o.cycle q) h in
    let other : o.cycle ≢ p.cycle = λ e. eqb-false p.cycle o.cycle both.0 (sym e) in
    one_more (is_open_append p.cycle q o ∙ ap₂ ◌||◌ n (ne_eqb o.cycle p.cycle other)) (apart_append q o a both.1)

-- ---- states

-- From the fresh state, by openings and turns, each lent any lists and counts.
pub data Made : State → Type 0 where
  from_fresh : Made fresh
  by_opening : {s : State} {k count : ℕ} {answer : Opened} → Made s → Opening s k count answer → Made answer.state
  by_turn : {s : State} {l : Lists} {answer : Turned} → Made s → Turning s l answer → Made answer.state

-- Its first places hold the queue, all others are unused, and its length says how many are open, eight at most; none is open twice.
pub record Good (s : State) : Type 0 where
  pub holds_its_queue : s ≡ state_of (queue_of s)
  pub length_is_open : s.length ≡ length (queue_of s)
  pub eight_at_most : s.length ≤ 8
  pub none_open_twice : Apart (queue_of s)

good : {s : State} → s ≡ state_of (queue_of s) → Apart (queue_of s) → Good s
unfolding state_of
good {s} e a =
    let as_many : s.length ≡ length (queue_of s) = ap (λ (t : State). t.length) e in
    record { holds_its_queue = e; length_is_open = as_many; eight_at_most = omega (arith, as_many, few_open s); none_open_twice = a }

-- "the fresh state with none open"
pub none_open-fresh : queue_of fresh ≡ []
unfolding fresh
none_open-fresh = queue_of_state [] (omega arith)

pub made_states_are_good : {s : State} → Made s → Good s
unfolding fresh joined none_open front_served
made_states_are_good from_fresh = good (ap state_of (sym none_open-fresh)) (subst Apart (sym none_open-fresh) none_twice)
made_states_are_good (by_opening {s} {k} {count} {answer} m p) = pick (ℕ_discrete answer.number 0) (made_states_are_good m)
  where
    pick : Dec (answer.number ≡ 0) → Good s → Good answer.state
    pick (no f) g = subst Good (sym (refusal_leaves_state p f)) g
    pick (yes ok) g =
        let back = joins_at_the_back p ok in
        good (state_with_one_more p ok ∙ ap state_of (sym back))
        (subst Apart (sym back) (apart_append (queue_of s) (record { cycle = k; handed = 0 }) g.none_open_twice (accepted_only p ok).1))
made_states_are_good (by_turn {s} {l} {answer} m p) = pick (queue_of s) refl (made_states_are_good m)
  where
    pick : (q : List OpenOutline) → queue_of s ≡ q → Good s → Good answer.state
    pick [] e g = subst (λ (t : Turned). Good t.state) (sym (answers_none p e)) g
    pick (o ∷ q) e g =
        good (ap (λ (t : Turned). t.state) (answers_front p e) ∙ ap state_of (sym (queue_after p e))) (apart_still (subst Apart e g.none_open_twice))
      where
        apart_still : Apart (o ∷ q) → Apart (queue_of answer.state)
        apart_still (one_more n a) = more_or_less (dec_lt 16 (due_of l o))
          where
            more_or_less : Dec (16 < due_of l o) → Apart (queue_of answer.state)
            more_or_less (yes more) = subst Apart (sym (goes_to_the_back p e more)) (apart_append q (record { cycle = o.cycle; handed = o.handed + 16 }) a n)
            more_or_less (no few) = subst Apart (sym (else_closes p e (omega arith))) a

-- A run leads from such states to such states.
pub made_by_run : {l : Lists} {s t : State} → Run l s t → Made s → Made t
made_by_run none m = m
made_by_run (opening k answer p r) m = made_by_run r (by_opening m p)
made_by_run (turning answer p r) m = made_by_run r (by_turn m p)

-- Once none is open, the state is the fresh one again, and may go on with other lists.
pub fresh_again : {s : State} → Made s → queue_of s ≡ [] → s ≡ fresh
unfolding fresh
fresh_again m none_open = (made_states_are_good m).holds_its_queue ∙ ap state_of none_open

-- An outline that has closed may be opened again, from its first corner.
pub closed_may_open_again : {s : State} {l : Lists} {turn : Turned} {o : OpenOutline} {q : List OpenOutline} {count : ℕ} {again : Opened}
    → Made s → Turning s l turn → queue_of s ≡ o ∷ q → due_of l o ≤ 16 → o.cycle < count → Opening turn.state o.cycle count again
    → (again.number ≡ 0) × (queue_of again.state ≡ q ++ record { cycle = o.cycle; handed = 0 } ∷ [])
closed_may_open_again {s} {l} {turn} {o} {q} {count} {again} m p e few below r = pick (subst Apart e (made_states_are_good m).none_open_twice)
  where
    pick : Apart (o ∷ q) → (again.number ≡ 0) × (queue_of again.state ≡ q ++ record { cycle = o.cycle; handed = 0 } ∷ [])
    pick (one_more n a) =
        let gone = else_closes p e few in
        let ok = else_accepted r below (ap (is_open o.cycle) gone ∙ n) (place_serves_again p e few) in
        (ok, joins_at_the_back r ok ∙ ap (λ (z : List OpenOutline). z ++ record { cycle = o.cycle; handed = 0 } ∷ []) gone)
