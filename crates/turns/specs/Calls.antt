-- Where a caller stands after one call: what an opening and a turn do to the queue, and what each answer says.
use Rattle.std.specs.Prelude.{◌≡◌, ◌≢◌, ◌↔◌, Bool, true, take}
use Rattle.std.proofs.Math.Path.{refl, sym, ap, ap₂}
use Rattle.std.proofs.Common.{◌∙◌, subst, true≢false, arith}
use Rattle.std.proofs.Math.Bool.{false}
use mathlib.Core.List.{List, [], ◌∷◌, ◌++◌}
use Prim.Native.Nat.{ℕ, zero, suc, ◌+◌, ◌-◌, ◌≤◌, ◌<◌, min}
use Rattle.std.proofs.Math.Decide.{dec_lt}
use Rattle.std.proofs.Math.ListN.{length, drop, replicate, length-append, length-take, length-drop}
use Rattle.std.proofs.Math.Seq.{drop_at}
use Rattle.sequences.specs.Over.{over, take_over}
use Rattle.serving.specs.declared.OpenOutline.{OpenOutline}
use Rattle.serving.specs.declared.State.{State}
use Rattle.serving.specs.declared.Opened.{Opened}
use Rattle.serving.specs.declared.Turned.{Turned}
use Rattle.serving.specs.Queue.{is_open, opening_number, joined, Lists, stretch_in, due_of, corners_handed_out, after_serving}
use Rattle.serving.specs.Queue.{not-below, already_open, eight_open, may_open, to_the_back, closes}
use Rattle.serving.specs.States.{queue_of, in_eight, unused, state_of, in_sixteen}
use Rattle.serving.specs.Promise.{state_after, opened, Opening, none_open, front_served, Turning, none_is_open, front_is_served}

-- "Up to eight outlines are open": whatever the state.
pub few_open : (s : State) → length (queue_of s) ≤ 8
unfolding queue_of
few_open s = omega (arith, length-take (min 8 s.length) s.outlines)

-- A state holds the queue that it was made of.
pub queue_of_state : (q : List OpenOutline) → length q ≤ 8 → queue_of (state_of q) ≡ q
unfolding queue_of state_of in_eight
queue_of_state q few = let e : min 8 (length q) ≡ length q = omega arith in ap (λ j. take j (over q (replicate 8 unused))) e ∙ take_over q (replicate 8 unused)

drop_zeros : (m n : ℕ) → ◌≡◌ {A = List ℕ} (drop m (replicate n 0)) (replicate (n - m) 0)
drop_zeros zero n = let e : n ≡ n - 0 = omega arith in ap (λ (j : ℕ). replicate j 0) e
drop_zeros (suc m) zero = let e : 0 ≡ 0 - suc m = omega arith in ap (λ (j : ℕ). replicate j 0) e
drop_zeros (suc m) (suc n) = let e : n - m ≡ suc n - suc m = omega arith in drop_zeros m n ∙ ap (λ (j : ℕ). replicate j 0) e

-- ---- opening

module _ {s : State} {k count : ℕ} {answer : Opened} (promise : Opening s k count answer) where
  number_is : answer.number ≡ opening_number (queue_of s) k count
  unfolding opened
  number_is = ap (λ (a : Opened). a.number) promise.answer_is

  state-is : answer.state ≡ state_after (opening_number (queue_of s) k count) (state_of (joined (queue_of s) k)) s
  unfolding opened
  state-is = ap (λ (a : Opened). a.state) promise.answer_is

  -- What an accepted opening says: none of the causes applies.
  pub accepted_only : answer.number ≡ 0 → (k < count) × (is_open k (queue_of s) ≡ false) × (length (queue_of s) < 8)
  accepted_only ok = pick (dec_lt k count) (is_open k (queue_of s)) refl (dec_lt (length (queue_of s)) 8)
    where
      zero_is : opening_number (queue_of s) k count ≡ 0
      zero_is = sym number_is ∙ ok

      pick : Dec (k < count) → (b : Bool) → is_open k (queue_of s) ≡ b → Dec (length (queue_of s) < 8)
          → (k < count) × (is_open k (queue_of s) ≡ false) × (length (queue_of s) < 8)
      pick (no f) b e d = absurd (omega (arith, zero_is, not-below (queue_of s) k count (omega arith)))
      pick (yes h) true e d = absurd (omega (arith, zero_is, already_open (queue_of s) k count h e))
      pick (yes h) false e (no f) = absurd (omega (arith, zero_is, eight_open (queue_of s) k count h e (omega arith)))
      pick (yes h) false e (yes r) = (h, e, r)

  -- "new 22 (cycle not below the count), new 23 (already open), new 24 (eight open), in that order".
  pub not_below_is_22 : count ≤ k → answer.number ≡ 22
  not_below_is_22 h = number_is ∙ not-below (queue_of s) k count h

  pub open_is_23 : k < count → is_open k (queue_of s) ≡ true → answer.number ≡ 23
  open_is_23 h e = number_is ∙ already_open (queue_of s) k count h e

  pub full_is_24 : k < count → is_open k (queue_of s) ≡ false → length (queue_of s) ≡ 8 → answer.number ≡ 24
  full_is_24 h e full = number_is ∙ eight_open (queue_of s) k count h e (omega arith)

  pub else_accepted : k < count → is_open k (queue_of s) ≡ false → length (queue_of s) < 8 → answer.number ≡ 0
  else_accepted h e room = number_is ∙ may_open (queue_of s) k count h e room

  -- "state unchanged"
  pub refusal_leaves_state : answer.number ≢ 0 → answer.state ≡ s
  unfolding state_after
  refusal_leaves_state f = state-is ∙ pick (opening_number (queue_of s) k count) (λ e. f (number_is ∙ e))
    where
      pick : (m : ℕ) → m ≢ 0 → state_after m (state_of (joined (queue_of s) k)) s ≡ s
      pick zero h = absurd (h refl)
      pick (suc m) h = refl

  pub state_with_one_more : answer.number ≡ 0 → answer.state ≡ state_of (joined (queue_of s) k)
  unfolding state_after
  state_with_one_more ok = state-is ∙ ap (λ (m : ℕ). state_after m (state_of (joined (queue_of s) k)) s) (sym number_is ∙ ok)

  -- "A new one joins at the back", with nothing handed out.
  pub joins_at_the_back : answer.number ≡ 0 → queue_of answer.state ≡ queue_of s ++ record { cycle = k; handed = 0 } ∷ []
  unfolding joined
  joins_at_the_back ok =
      let room = (accepted_only ok).2 in
      ap queue_of (state_with_one_more ok)
      ∙ queue_of_state (joined (queue_of s) k) (omega (arith, room, length-append (queue_of s) (record { cycle = k; handed = 0 } ∷ [])))

-- ---- a turn

module _ {s : State} {l : Lists} {answer : Turned} (promise : Turning s l answer) where
  -- Where none is open.
  pub answers_none : queue_of s ≡ [] → answer ≡ none_open s
  answers_none e = promise.answer_is ∙ sym (none_is_open s l e).answer_is

  -- Where the outline o is at the front and q stands behind it.
  pub answers_front : {o : OpenOutline} {q : List OpenOutline} → queue_of s ≡ o ∷ q → answer ≡ front_served l o q
  unfolding front_served
  answers_front {o} {q} e = promise.answer_is ∙ sym (front_is_served s l e refl refl refl).answer_is

  module _ {o : OpenOutline} {q : List OpenOutline} (at_front : queue_of s ≡ o ∷ q) where
    -- "The outline at the front is served": "That number is the smaller of 16 and the corners still due".
    pub front_served_lem : (answer.served ≡ true) × (answer.cycle ≡ o.cycle) × (answer.count ≡ min 16 (due_of l o))
    unfolding front_served
    front_served_lem = let e = answers_front at_front in (ap (λ (a : Turned). a.served) e, ap (λ (a : Turned). a.cycle) e, ap (λ (a : Turned). a.count) e)

    places_are : answer.places ≡ over (corners_handed_out l o) (replicate 16 0)
    unfolding front_served in_sixteen
    places_are = ap (λ (a : Turned). a.places) (answers_front at_front)

    count_is_length : answer.count ≡ length (corners_handed_out l o)
    unfolding corners_handed_out due_of
    count_is_length =
        let stretch : List ℕ = stretch_in l o.cycle in
        omega (arith, front_served_lem.2, length-take 16 (drop o.handed stretch), length-drop o.handed stretch)

    -- The corners handed out stand in the first places, as many as the answer says.
    pub corners_in_places : take answer.count answer.places ≡ corners_handed_out l o
    corners_in_places = ap₂ take count_is_length places_are ∙ take_over (corners_handed_out l o) (replicate 16 0)

    -- "the answer's unused places are 0"
    pub unused_places_zero : drop answer.count answer.places ≡ replicate (16 - answer.count) 0
    unfolding over
    unused_places_zero =
        let given : List ℕ = corners_handed_out l o in
        ap₂ drop count_is_length places_are
        ∙ drop_at given (drop (length given) (replicate 16 0)) (length given) refl
        ∙ drop_zeros (length given) 16
        ∙ ap (λ (n : ℕ). replicate (16 - n) 0) (sym count_is_length)

    pub queue_after : queue_of answer.state ≡ after_serving (due_of l o) o q
    unfolding front_served
    queue_after = ap (λ (a : Turned). queue_of a.state) (answers_front at_front) ∙ queue_of_state (after_serving (due_of l o) o q) (few_after (dec_lt 16 (due_of l o)))
      where
        behind : length q < 8
        behind = omega (arith, few_open s, ap length at_front)

        few_after : Dec (16 < due_of l o) → length (after_serving (due_of l o) o q) ≤ 8
        few_after (yes h) =
            omega (arith, behind, ap length (to_the_back (due_of l o) o q h), length-append q (record { cycle = o.cycle; handed = o.handed + 16 } ∷ []))
        few_after (no h) = omega (arith, behind, ap length (closes (due_of l o) o q (omega arith)))

    -- "if more is due it goes to the back"
    pub goes_to_the_back : 16 < due_of l o → queue_of answer.state ≡ q ++ record { cycle = o.cycle; handed = o.handed + 16 } ∷ []
    goes_to_the_back more = queue_after ∙ to_the_back (due_of l o) o q more

    -- ".. else it closes and its place serves again"
    pub else_closes : due_of l o ≤ 16 → queue_of answer.state ≡ q
    else_closes few = queue_after ∙ closes (due_of l o) o q few

    -- So there is room for another one.
    pub place_serves_again : due_of l o ≤ 16 → length (queue_of answer.state) < 8
    place_serves_again few = omega (arith, ap length (else_closes few), few_open s, ap length at_front)

    -- "With other lists an outline that has nothing due closes with zero": it is served, and all places are 0.
    pub nothing_due_closes_with_zero : due_of l o ≡ 0
        → (answer.served ≡ true) × (answer.cycle ≡ o.cycle) × (answer.count ≡ 0) × (answer.places ≡ replicate 16 0) × (queue_of answer.state ≡ q)
    nothing_due_closes_with_zero nothing =
        let zero-count : answer.count ≡ 0 = omega (arith, front_served_lem.2) in (
          front_served_lem.0,
          front_served_lem.1,
          zero-count,
          subst (λ (n : ℕ). drop n answer.places ≡ replicate (16 - n) 0) zero-count unused_places_zero,
          else_closes (omega arith),
        )

  -- "'None open' is said exactly when none is".
  pub none_open_exactly : (answer.served ≡ false) ↔ (queue_of s ≡ [])
  unfolding none_open
  none_open_exactly = (pick (queue_of s) refl, λ e. ap (λ (a : Turned). a.served) (answers_none e))
    where
      pick : (q : List OpenOutline) → queue_of s ≡ q → answer.served ≡ false → queue_of s ≡ []
      pick [] e h = e
      pick (o ∷ q) e h = absurd (true≢false (sym (front_served_lem e).0 ∙ h))

  -- ".. with count, cycle and places 0 and the state unchanged"
  pub none_open_says_zeros : answer.served ≡ false → (answer.count ≡ 0) × (answer.cycle ≡ 0) × (answer.places ≡ replicate 16 0) × (answer.state ≡ s)
  unfolding none_open in_sixteen over
  none_open_says_zeros h =
      let e = answers_none (none_open_exactly.0 h) in
      (ap (λ (a : Turned). a.count) e, ap (λ (a : Turned). a.cycle) e, ap (λ (a : Turned). a.places) e, ap (λ (a : Turned). a.state) e)
