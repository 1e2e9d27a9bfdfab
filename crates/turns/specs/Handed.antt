-- The corners of an outline from its opening to its closing: its stretch, whole and in order.
use Rattle.std.specs.Prelude.{◌≡◌, refl, ◌≢◌, ◌↔◌, Bool, ◌||◌, ◌&&◌, drop}
use Rattle.std.proofs.Math.Path.{sym, ap, ap₂}
use Rattle.std.proofs.Common.{◌∙◌, subst, true≢false, arith, length-take, take-add}
use Rattle.std.proofs.Math.Bool.{true, false, cond}
use mathlib.Core.List.{List, [], ◌∷◌, ◌++◌, map, append_assoc, append-nil}
use Prim.Native.Nat.{ℕ, zero, suc, ◌+◌, ◌-◌, ◌*◌, ◌≤◌, ◌<◌, min}
use Rattle.std.proofs.Math.Decide.{dec_lt, ℕ_discrete}
use Rattle.std.proofs.Math.Dec.{eqb}
use Rattle.std.proofs.Math.ListN.{length, take, replicate}
use Rattle.std.proofs.Math.Seq.{take_all}
use borrow.Author.Tests.{eqb-true, eq-eqb, ne_eqb}
use Rattle.sequences.specs.Cases.{neither}
use Rattle.serving.specs.declared.OpenOutline.{OpenOutline}
use Rattle.serving.specs.declared.State.{State}
use Rattle.serving.specs.declared.Opened.{Opened}
use Rattle.serving.specs.declared.Turned.{Turned}
use Rattle.serving.specs.Queue.{is_open, Lists, stretch_in, due_of, corners_handed_out}
use Rattle.serving.specs.States.{queue_of, fresh}
use Rattle.serving.specs.Promise.{Opening, Turning}
use Rattle.turns.specs.Calls.{accepted_only, refusal_leaves_state, joins_at_the_back, front_served_lem, corners_in_places, goes_to_the_back, else_closes}
use Rattle.turns.specs.Runs.{Run, none, opening, turning, answers_of, OpenBeforeEachCall, turns_of, corners_of, EachHasCorners}
use Rattle.turns.specs.Made.{is_open_append, Apart, one_more, Made, from_fresh, by_opening, by_turn, made_states_are_good, made_by_run}
use Rattle.turns.specs.Due.{AllDue, none_left, one_due, due_after_opening, due_after_turn, due_after_run, due_fresh}

-- How many corners of cycle k were handed out, where it is open.
unfoldable pub handed_of : ℕ → List OpenOutline → ℕ
handed_of k [] = 0
handed_of k (o ∷ q) = cond (eqb o.cycle k) o.handed (handed_of k q)

-- ---- the queue as cycle k sees it

module _ (k : ℕ) where
  of_front : (o : OpenOutline) (q : List OpenOutline) → o.cycle ≡ k → handed_of k (o ∷ q) ≡ o.handed
  unfolding handed_of
  of_front o q e = ap (λ (b : Bool). cond b o.handed (handed_of k q)) (eq-eqb o.cycle k e)

  of_others : (o : OpenOutline) (q : List OpenOutline) → o.cycle ≢ k → (handed_of k (o ∷ q) ≡ handed_of k q) × (is_open k (o ∷ q) ≡ is_open k q)
  unfolding handed_of is_open
  of_others o q f =
      let e = ne_eqb o.cycle k f in
      (ap (λ (b : Bool). cond b o.handed (handed_of k q)) e, ap (λ (b : Bool). b || is_open k q) e)

  -- Another one behind a queue in which it is open.
  behind_open : (q : List OpenOutline) (o : OpenOutline) → is_open k q ≡ true → (handed_of k (q ++ o ∷ []) ≡ handed_of k q) × (is_open k (q ++ o ∷ []) ≡ true)
  unfolding handed_of is_open
  behind_open [] o h = absurd (true≢false (sym h))
  behind_open (p ∷ q) o h = pick (eqb p.cycle k) h (λ g. behind_open q o g)
    where
      pick : (b : Bool) → b || is_open k q ≡ true → (is_open k q ≡ true → (handed_of k (q ++ o ∷ []) ≡ handed_of k q) × (is_open k (q ++ o ∷ []) ≡ true))
          → (cond b p.handed (handed_of k (q ++ o ∷ [])) ≡ cond b p.handed (handed_of k q)) × (b || is_open k (q ++ o ∷ []) ≡ true)
      pick true g rest = (refl, refl)
      pick false g rest = rest g

  -- Cycle k itself behind a queue in which it is not open.
  new_handed : (q : List OpenOutline) (o : OpenOutline) → is_open k q ≡ false → o.cycle ≡ k → handed_of k (q ++ o ∷ []) ≡ o.handed
  unfolding handed_of is_open
  new_handed [] o h e = of_front o [] e
  new_handed (p ∷ q) o h e =
      let both = neither (eqb p.cycle k) (is_open k q) h in
      ap (λ (b : Bool). cond b p.handed (handed_of k (q ++ o ∷ []))) both.0 ∙ new_handed q o both.1 e

  behind_closed : (q : List OpenOutline) (o : OpenOutline) → is_open k q ≡ false → o.cycle ≡ k
      → (handed_of k (q ++ o ∷ []) ≡ o.handed) × (is_open k (q ++ o ∷ []) ≡ true)
  behind_closed q o h e = (new_handed q o h e, is_open_append k q o ∙ ap₂ ◌||◌ h (eq-eqb o.cycle k e))

-- ---- an opening as cycle k sees it

-- An opening changes nothing for a cycle that is open.
seen_opening : {s : State} {j count : ℕ} {answer : Opened} (k : ℕ) → Opening s j count answer → is_open k (queue_of s) ≡ true
    → (handed_of k (queue_of answer.state) ≡ handed_of k (queue_of s)) × (is_open k (queue_of answer.state) ≡ true)
seen_opening {s} {j} {count} {answer} k p open_now = pick (ℕ_discrete answer.number 0)
  where
    pick : Dec (answer.number ≡ 0) → (handed_of k (queue_of answer.state) ≡ handed_of k (queue_of s)) × (is_open k (queue_of answer.state) ≡ true)
    pick (no f) = let e = ap queue_of (refusal_leaves_state p f) in (ap (handed_of k) e, ap (is_open k) e ∙ open_now)
    pick (yes ok) =
        let e = joins_at_the_back p ok in
        let new = behind_open k (queue_of s) (record { cycle = j; handed = 0 }) open_now in
        (ap (handed_of k) e ∙ new.0, ap (is_open k) e ∙ new.1)

-- ---- a turn as cycle k sees it

module _ {s : State} {l : Lists} {answer : Turned} {o : OpenOutline} {q : List OpenOutline} (k : ℕ) (p : Turning s l answer) (at_front : queue_of s ≡ o ∷ q) where
  its_turn_if : (later : List Turned) (b : Bool) → eqb o.cycle k ≡ b → turns_of k (answer ∷ later) ≡ cond b (answer ∷ turns_of k later) (turns_of k later)
  unfolding turns_of
  its_turn_if later b e =
      let says = front_served_lem p at_front in
      ap (λ (t : Bool). cond t (answer ∷ turns_of k later) (turns_of k later)) (ap₂ (λ (t : Bool) (c : ℕ). t && eqb c k) says.0 says.1 ∙ e)

  -- Another cycle is served.
  module _ (other : o.cycle ≢ k) where
    not_its_turn : (later : List Turned) → turns_of k (answer ∷ later) ≡ turns_of k later
    not_its_turn later = its_turn_if later false (ne_eqb o.cycle k other)

    unmoved : is_open k q ≡ true → (handed_of k (queue_of answer.state) ≡ handed_of k q) × (is_open k (queue_of answer.state) ≡ true)
    unmoved open_behind = pick (dec_lt 16 (due_of l o))
      where
        pick : Dec (16 < due_of l o) → (handed_of k (queue_of answer.state) ≡ handed_of k q) × (is_open k (queue_of answer.state) ≡ true)
        pick (yes more) =
            let e = goes_to_the_back p at_front more in
            let back = behind_open k q (record { cycle = o.cycle; handed = o.handed + 16 }) open_behind in
            (ap (handed_of k) e ∙ back.0, ap (is_open k) e ∙ back.1)
        pick (no few) = let e = else_closes p at_front (omega arith) in (ap (handed_of k) e, ap (is_open k) e ∙ open_behind)

  -- It is served itself.
  module _ (own : o.cycle ≡ k) where
    its_turn : (later : List Turned) → turns_of k (answer ∷ later) ≡ answer ∷ turns_of k later
    its_turn later = its_turn_if later true (eq-eqb o.cycle k own)

    its_corners : take answer.count answer.places ≡ take 16 (drop o.handed (stretch_in l k))
    unfolding corners_handed_out
    its_corners = corners_in_places p at_front ∙ ap (λ (c : ℕ). take 16 (drop o.handed (stretch_in l c))) own

    its_count : answer.count ≡ min 16 (length (stretch_in l k) - o.handed)
    unfolding due_of
    its_count = (front_served_lem p at_front).2 ∙ ap (λ (c : ℕ). min 16 (length (stretch_in l c) - o.handed)) own

-- ---- a run as cycle k sees it

-- After h corners of cycle k, its turns have answered so, and the queue is q.
pub record SoFar (l : Lists) (k h : ℕ) (its : List Turned) (q : List OpenOutline) : Type 0 where
  -- what was handed out are the first corners while it is open, and all when it has closed
  pub handed_out : take h (stretch_in l k) ++ corners_of its ≡ cond (is_open k q) (take (handed_of k q) (stretch_in l k)) (stretch_in l k)
  -- in full turns alone, if that can be
  pub full_turns : is_open k q ≡ false → (m : ℕ) → length (stretch_in l k) ≡ h + 16 * m → map (λ (a : Turned). a.count) its ≡ replicate m 16

-- A run in which cycle k is open before each call has no further call once it is closed.
ends_when_closed : {l : Lists} {s t : State} (k : ℕ) (r : Run l s t) → OpenBeforeEachCall k r → is_open k (queue_of s) ≡ false → (answers_of r ≡ []) × (t ≡ s)
unfolding answers_of
ends_when_closed k none through closed = (refl, refl)
ends_when_closed k (opening j answer p r) through closed = absurd (true≢false (sym through.0 ∙ closed))
ends_when_closed k (turning answer p r) through closed = absurd (true≢false (sym through.0 ∙ closed))

nothing_yet : (l : Lists) (k : ℕ) (q : List OpenOutline) → is_open k q ≡ true → SoFar l k (handed_of k q) [] q
unfolding corners_of
nothing_yet l k q open_now = record {
  handed_out =
      append-nil (take (handed_of k q) (stretch_in l k))
      ∙ sym (ap (λ (b : Bool). cond b (take (handed_of k q) (stretch_in l k)) (stretch_in l k)) open_now);
  full_turns = λ e. absurd (true≢false (sym open_now ∙ e));
}

-- A turn of cycle k, after h of its corners, and its later ones.
module _ (l : Lists) (k h : ℕ) (answer : Turned) (later : List Turned)
    (corners : take answer.count answer.places ≡ take 16 (drop h (stretch_in l k))) (count : answer.count ≡ min 16 (length (stretch_in l k) - h)) where
  with_these : take h (stretch_in l k) ++ corners_of (answer ∷ later) ≡ take (h + 16) (stretch_in l k) ++ corners_of later
  unfolding corners_of
  with_these =
      ap (λ (c : List ℕ). take h (stretch_in l k) ++ (c ++ corners_of later)) corners
      ∙ sym (append_assoc (take h (stretch_in l k)) (take 16 (drop h (stretch_in l k))) (corners_of later))
      ∙ ap (λ (c : List ℕ). c ++ corners_of later) (sym (take-add h 16 (stretch_in l k)))

  -- More is due.
  goes_on : {q : List OpenOutline} → 16 < length (stretch_in l k) - h → SoFar l k (h + 16) later q → SoFar l k h (answer ∷ later) q
  goes_on {q} more rest = record { handed_out = with_these ∙ rest.handed_out; full_turns = λ e m long. all_full m long (rest.full_turns e) }
    where
      all_full : (m : ℕ) → length (stretch_in l k) ≡ h + 16 * m
          → ((j : ℕ) → length (stretch_in l k) ≡ h + 16 + 16 * j → map (λ (a : Turned). a.count) later ≡ replicate j 16)
          → answer.count ∷ map (λ (a : Turned). a.count) later ≡ replicate m 16
      all_full zero long rest_full = absurd (omega arith)
      all_full (suc m) long rest_full =
          let sixteen : answer.count ≡ 16 = omega (arith, count) in
          ap₂ (λ (c : ℕ) (cs : List ℕ). c ∷ cs) sixteen (rest_full m (omega arith))

  -- These are the last: something was due, and no more than 16.
  ends : {q : List OpenOutline} → 0 < length (stretch_in l k) - h → length (stretch_in l k) - h ≤ 16 → later ≡ [] → is_open k q ≡ false
      → SoFar l k h (answer ∷ later) q
  unfolding corners_of
  ends {q} some few last closed = record {
    handed_out =
        with_these
        ∙ ap (λ (a : List Turned). take (h + 16) (stretch_in l k) ++ corners_of a) last
        ∙ append-nil (take (h + 16) (stretch_in l k))
        ∙ take_all (h + 16) (stretch_in l k) (omega arith)
        ∙ sym (ap (λ (b : Bool). cond b (take (handed_of k q) (stretch_in l k)) (stretch_in l k)) closed);
    full_turns = λ e m long. one_full m long;
  }
    where
      one_full : (m : ℕ) → length (stretch_in l k) ≡ h + 16 * m → answer.count ∷ map (λ (a : Turned). a.count) later ≡ replicate m 16
      one_full zero long = absurd (omega arith)
      one_full (suc zero) long =
          let sixteen : answer.count ≡ 16 = omega (arith, count) in
          ap₂ (λ (c : ℕ) (a : List Turned). c ∷ map (λ (b : Turned). b.count) a) sixteen last
      one_full (suc (suc m)) long = absurd (omega arith)

-- After a turn, where cycle k was open, and what followed while it was open.
after_turn : {l : Lists} {s t : State} {answer : Turned} (k : ℕ) → Turning s l answer → Apart (queue_of s) → AllDue l (queue_of s) → is_open k (queue_of s) ≡ true
    → (r : Run l answer.state t) → OpenBeforeEachCall k r
    → (is_open k (queue_of answer.state) ≡ true → SoFar l k (handed_of k (queue_of answer.state)) (turns_of k (answers_of r)) (queue_of t))
    → SoFar l k (handed_of k (queue_of s)) (turns_of k (answer ∷ answers_of r)) (queue_of t)
unfolding is_open due_of turns_of
after_turn {l} {s} {t} {answer} k p apart all open_now r through rest = pick (queue_of s) refl open_now apart all
  where
    pick : (q : List OpenOutline) → queue_of s ≡ q → is_open k q ≡ true → Apart q → AllDue l q
        → SoFar l k (handed_of k (queue_of s)) (turns_of k (answer ∷ answers_of r)) (queue_of t)
    pick [] e opened a d = absurd (true≢false (sym opened))
    pick (o ∷ q) e opened (one_more n a) (one_due some d) = front_or_behind (ℕ_discrete o.cycle k)
      where
        -- it waits
        behind : o.cycle ≢ k → SoFar l k (handed_of k (queue_of s)) (turns_of k (answer ∷ answers_of r)) (queue_of t)
        behind other =
            let seen = of_others k o q other in
            let still = unmoved k p e other (sym seen.1 ∙ opened) in
            let same : handed_of k (queue_of answer.state) ≡ handed_of k (queue_of s) = still.0 ∙ sym seen.0 ∙ ap (handed_of k) (sym e) in
            subst (λ (its : List Turned). SoFar l k (handed_of k (queue_of s)) its (queue_of t)) (sym (not_its_turn k p e other (answers_of r)))
            (subst (λ (h : ℕ). SoFar l k h (turns_of k (answers_of r)) (queue_of t)) same (rest still.1))

        -- it is served
        served_now : o.cycle ≡ k → SoFar l k o.handed (answer ∷ turns_of k (answers_of r)) (queue_of t)
        served_now own = more_or_less (dec_lt 16 (length (stretch_in l k) - o.handed))
          where
            its_due : due_of l o ≡ length (stretch_in l k) - o.handed
            its_due = ap (λ (c : ℕ). length (stretch_in l c) - o.handed) own

            not_behind : is_open k q ≡ false
            not_behind = subst (λ (c : ℕ). is_open c q ≡ false) own n

            more_or_less : Dec (16 < length (stretch_in l k) - o.handed) → SoFar l k o.handed (answer ∷ turns_of k (answers_of r)) (queue_of t)
            more_or_less (yes more) =
                let moved = goes_to_the_back p e (omega (arith, its_due)) in
                let back = behind_closed k q (record { cycle = o.cycle; handed = o.handed + 16 }) not_behind own in
                let w = rest (ap (is_open k) moved ∙ back.1) in
                goes_on l k o.handed answer (turns_of k (answers_of r)) (its_corners k p e own) (its_count k p e own) more
                (subst (λ (h : ℕ). SoFar l k h (turns_of k (answers_of r)) (queue_of t)) (ap (handed_of k) moved ∙ back.0) w)
            more_or_less (no few) =
                let gone : queue_of answer.state ≡ q = else_closes p e (omega (arith, its_due)) in
                let shut : is_open k (queue_of answer.state) ≡ false = ap (is_open k) gone ∙ not_behind in
                let done = ends_when_closed k r through shut in
                ends l k o.handed answer (turns_of k (answers_of r)) (its_corners k p e own) (its_count k p e own) (omega (arith, its_due, some)) (omega arith)
                (ap (turns_of k) done.0) (ap (λ (z : State). is_open k (queue_of z)) done.1 ∙ shut)

        front_or_behind : Dec (o.cycle ≡ k) → SoFar l k (handed_of k (queue_of s)) (turns_of k (answer ∷ answers_of r)) (queue_of t)
        front_or_behind (no other) = behind other
        front_or_behind (yes own) =
            subst (λ (its : List Turned). SoFar l k (handed_of k (queue_of s)) its (queue_of t)) (sym (its_turn k p e own (answers_of r)))
            (subst (λ (h : ℕ). SoFar l k h (answer ∷ turns_of k (answers_of r)) (queue_of t)) (sym (ap (handed_of k) e ∙ of_front k o q own)) (served_now own))

so_far : {l : Lists} {s t : State} (k : ℕ) → EachHasCorners l → (r : Run l s t) → Made s → AllDue l (queue_of s) → is_open k (queue_of s) ≡ true
    → OpenBeforeEachCall k r
    → SoFar l k (handed_of k (queue_of s)) (turns_of k (answers_of r)) (queue_of t)
unfolding answers_of turns_of
so_far {l} {s} {t} k some none made all open_now through = nothing_yet l k (queue_of s) open_now
so_far {l} {s} {t} k some (opening j answer p r) made all open_now through =
    let seen = seen_opening k p open_now in
    subst (λ (h : ℕ). SoFar l k h (turns_of k (answers_of r)) (queue_of t)) seen.0
    (so_far k some r (by_opening made p) (due_after_opening some p all) seen.1 through.1)
so_far {l} {s} {t} k some (turning answer p r) made all open_now through =
    after_turn k p (made_states_are_good made).none_open_twice all open_now r through.1
    (λ still. so_far k some r (by_turn made p) (due_after_turn p all) still through.1)

-- ---- from the opening on

-- Something is due of an open outline.
due_of_open : {l : Lists} (k : ℕ) {q : List OpenOutline} → AllDue l q → is_open k q ≡ true → handed_of k q < length (stretch_in l k)
unfolding handed_of is_open due_of
due_of_open {l} k none_left h = absurd (true≢false (sym h))
due_of_open {l} k (one_due {o} {q} some d) h = pick (eqb o.cycle k) refl h (due_of_open k d)
  where
    pick : (b : Bool) → eqb o.cycle k ≡ b → b || is_open k q ≡ true → (is_open k q ≡ true → handed_of k q < length (stretch_in l k))
        → cond b o.handed (handed_of k q) < length (stretch_in l k)
    pick true e g rest = let due = subst (λ (c : ℕ). 0 < length (stretch_in l c) - o.handed) (eqb-true o.cycle k e) some in omega arith
    pick false e g rest = rest g

-- Cycle k is opened after a run from the fresh state; a run follows in which it is open before each call.
module _ {l : Lists} (some : EachHasCorners l) {s : State} (before : Run l fresh s) {k : ℕ} {answer : Opened} (opens : Opening s k l.cycles answer)
    (zero_answered : answer.number ≡ 0) {t : State} (later : Run l answer.state t) (open_before : OpenBeforeEachCall k later) where
  all_due : AllDue l (queue_of answer.state)
  all_due = due_after_opening some opens (due_after_run some before (due_fresh l))

  new_at_back : (handed_of k (queue_of answer.state) ≡ 0) × (is_open k (queue_of answer.state) ≡ true)
  new_at_back =
      let e = joins_at_the_back opens zero_answered in
      let new = behind_closed k (queue_of s) (record { cycle = k; handed = 0 }) (accepted_only opens zero_answered).1 refl in
      (ap (handed_of k) e ∙ new.0, ap (is_open k) e ∙ new.1)

  from_none : SoFar l k 0 (turns_of k (answers_of later)) (queue_of t)
  from_none =
      subst (λ (h : ℕ). SoFar l k h (turns_of k (answers_of later)) (queue_of t)) new_at_back.0
      (so_far k some later (by_opening (made_by_run before from_fresh) opens) all_due new_at_back.1 open_before)

  -- "The corners follow in order from the first": while it is open, those handed out are the first of its stretch, and more are due.
  pub first-corners_while_open : is_open k (queue_of t) ≡ true
      → (corners_of (turns_of k (answers_of later)) ≡ take (handed_of k (queue_of t)) (stretch_in l k)) × (handed_of k (queue_of t) < length (stretch_in l k))
  first-corners_while_open e = (
    from_none.handed_out ∙ ap (λ (b : Bool). cond b (take (handed_of k (queue_of t)) (stretch_in l k)) (stretch_in l k)) e,
    due_of_open k (due_after_run some later all_due) e,
  )

  -- When it has closed, those handed out from its opening to its closing, put together in order, are exactly its stretch.
  pub whole_stretch_when_closed : is_open k (queue_of t) ≡ false → corners_of (turns_of k (answers_of later)) ≡ stretch_in l k
  whole_stretch_when_closed e = from_none.handed_out ∙ ap (λ (b : Bool). cond b (take (handed_of k (queue_of t)) (stretch_in l k)) (stretch_in l k)) e

  -- It closes in the turn that hands out the last corner: it is closed exactly when all are handed out.
  pub closed_exactly_when_whole : (is_open k (queue_of t) ≡ false) ↔ (corners_of (turns_of k (answers_of later)) ≡ stretch_in l k)
  closed_exactly_when_whole = (whole_stretch_when_closed, λ whole. pick whole (is_open k (queue_of t)) refl)
    where
      pick : corners_of (turns_of k (answers_of later)) ≡ stretch_in l k → (b : Bool) → is_open k (queue_of t) ≡ b → is_open k (queue_of t) ≡ false
      pick whole false e = e
      pick whole true e =
          let w = first-corners_while_open e in
          absurd (omega (arith, w.1, ap length whole, ap length w.0, length-take (handed_of k (queue_of t)) (stretch_in l k)))

  -- A stretch of 16 times m corners is handed out in m full turns, with no empty one after them.
  pub full_turns_alone : is_open k (queue_of t) ≡ false → (m : ℕ) → length (stretch_in l k) ≡ 16 * m
      → map (λ (a : Turned). a.count) (turns_of k (answers_of later)) ≡ replicate m 16
  full_turns_alone e m long = from_none.full_turns e m (omega arith)
