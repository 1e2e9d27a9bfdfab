-- Where a caller stands who serves the outlines of one tracing by turns (document 02, request k).
use Rattle.std.specs.Prelude.{◌≡◌, ◌↔◌, true, false, get_or, take, replicate}
use Rattle.std.proofs.Common.{◌∙◌}
use mathlib.Core.List.{List, map}
use Prim.Native.Nat.{ℕ, ◌*◌, ◌≤◌, ◌<◌}
use native.Mathlib.Omega.{arith}
use Rattle.std.proofs.Math.ListN.{length}
use Rattle.lattice.specs.Walks.{corners}
use Rattle.lattice.specs.CycleForm.{cycle_form_lem}
use Rattle.grid.specs.Cycles.{cycle}
use Rattle.stretches.specs.Stretch.{stretch_of}
use Rattle.serving.specs.declared.State.{State}
use Rattle.serving.specs.declared.Opened.{Opened}
use Rattle.serving.specs.declared.Turned.{Turned}
use Rattle.serving.specs.Queue.{is_open, Lists, lists, stretch_in}
use Rattle.serving.specs.States.{queue_of, fresh}
use Rattle.serving.specs.Promise.{Opening}
use Rattle.turns.specs.Calls.{accepted_only}
use Rattle.turns.specs.Runs.{Run, answers_of, OpenBeforeEachCall, turns_of, corners_of, EachHasCorners}
use Rattle.turns.specs.Fairness.{WithinEight, served_within_eight_turns}
use Rattle.turns.specs.Handed.{handed_of, first-corners_while_open, whole_stretch_when_closed, closed_exactly_when_whole, full_turns_alone}
use Rattle.tracing.specs.Tracing.{Lent, Tracing}
use Rattle.tracing.specs.declared.Traced.{Traced}
use Rattle.callers.specs.Demand3.{numbers_of, starts_of, accepted_at_exit}

-- "the lists and counts of one accepted tracing", as it left them.
abbrev pub lists_at : Lent → Traced → Lists
lists_at after r = lists after.corner_list after.end_list r.cycles

module _ {n : ℕ} {cs ls ks : List ℕ} {lent after : Lent} {r : Traced} (traced : Tracing n cs ls ks lent after r) (accepted : r.number ≡ 0) where
  -- Each of its cycles is a cycle form, so it has four corners at least.
  each_has_corners : EachHasCorners (lists_at after r)
  unfolding stretch_in
  each_has_corners k h =
      let stretch : List ℕ = stretch_of after.corner_list after.end_list r.cycles k in
      let four : 4 ≤ length stretch = ((cycle_form_lem stretch).0 ((accepted_at_exit traced accepted).cycle_form_lem k h)).at_least_four in
      omega arith

  -- "Every open outline gets corners within eight turns, whatever is opened meanwhile, as long as every opening and turn, from the fresh
  -- state with none open, is lent the lists and counts of one accepted tracing": `before` leads to the present state, `later` follows.
  pub each_open_outline_within_eight_turns : {s t : State} (k : ℕ) → Run (lists_at after r) fresh s → is_open k (queue_of s) ≡ true
      → (later : Run (lists_at after r) s t) → 8 ≤ length (answers_of later) → WithinEight k (answers_of later)
  each_open_outline_within_eight_turns k before open_now later enough = served_within_eight_turns each_has_corners before open_now later enough

  -- Cycle k is opened in the midst of such calls, and calls follow before each of which it is open.
  module _ {s : State} (before : Run (lists_at after r) fresh s) {k : ℕ} {answer : Opened} (opens : Opening s k r.cycles answer)
      (zero_answered : answer.number ≡ 0) {t : State} (later : Run (lists_at after r) answer.state t) (open_before : OpenBeforeEachCall k later) where
    stretch_is : stretch_in (lists_at after r) k ≡ corners (cycle n (numbers_of n cs ls ks) (get_or (starts_of n cs ls ks) k 0))
    unfolding stretch_in
    stretch_is = (accepted_at_exit traced accepted).stretch k (accepted_only opens zero_answered).0

    -- "The corners follow in order from the first": while it is open they are the first of its stretch, and more are due.
    pub first_corners_so_far : is_open k (queue_of t) ≡ true
        → (corners_of (turns_of k (answers_of later)) ≡ take (handed_of k (queue_of t)) (stretch_in (lists_at after r) k))
        × (handed_of k (queue_of t) < length (stretch_in (lists_at after r) k))
    first_corners_so_far e = first-corners_while_open each_has_corners before opens zero_answered later open_before e

    -- From its opening to its closing, put together in order, they are exactly its stretch: the corners of the cycle, each once.
    pub whole_cycle_by_its_closing : is_open k (queue_of t) ≡ false
        → (corners_of (turns_of k (answers_of later)) ≡ stretch_in (lists_at after r) k)
        × (corners_of (turns_of k (answers_of later)) ≡ corners (cycle n (numbers_of n cs ls ks) (get_or (starts_of n cs ls ks) k 0)))
    whole_cycle_by_its_closing e =
        let w = whole_stretch_when_closed each_has_corners before opens zero_answered later open_before e in
        (w, w ∙ stretch_is)

    -- It closes in the turn that hands out the last one: it is closed exactly when all are handed out.
    pub closed_exactly_when_all_handed_out : (is_open k (queue_of t) ≡ false) ↔ (corners_of (turns_of k (answers_of later)) ≡ stretch_in (lists_at after r) k)
    closed_exactly_when_all_handed_out = closed_exactly_when_whole each_has_corners before opens zero_answered later open_before

    -- A cycle of 16 times m corners takes m full turns, and no empty one follows.
    pub full_turns_and_no_empty_one : is_open k (queue_of t) ≡ false → (m : ℕ) → length (stretch_in (lists_at after r) k) ≡ 16 * m
        → map (λ (a : Turned). a.count) (turns_of k (answers_of later)) ≡ replicate m 16
    full_turns_and_no_empty_one e m long = full_turns_alone each_has_corners before opens zero_answered later open_before e m long
