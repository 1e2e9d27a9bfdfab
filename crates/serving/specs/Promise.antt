-- What an opening and a turn promise: the whole answer, the state in it included.
use Rattle.std.specs.Prelude.{◌≡◌, true, false}
use Rattle.std.proofs.Common.{sym, ◌∙◌}
use Rattle.std.proofs.Math.Path.{ap, ap₂}
use mathlib.Core.List.{List, [], ◌∷◌}
use Prim.Native.Nat.{ℕ, zero, suc, min}
use Rattle.serving.specs.declared.OpenOutline.{OpenOutline}
use Rattle.serving.specs.declared.State.{State}
use Rattle.serving.specs.declared.Opened.{Opened}
use Rattle.serving.specs.declared.Turned.{Turned}
use Rattle.serving.specs.Queue.{opening_number, joined, Lists, due_of, corners_handed_out, after_serving}
use Rattle.serving.specs.States.{queue_of, state_of, in_sixteen}

-- ---- opening

-- The new state where the number is 0, else "state unchanged".
unfoldable pub state_after : ℕ → State → State → State
state_after zero new old = new
state_after (suc k) new old = old

-- An opening of cycle k, where `count` is the number of cycles.
unfoldable pub opened : State → ℕ → ℕ → Opened
unfolding opening_number state_after state_of joined queue_of
opened s k count =
    record {
      number = opening_number (queue_of s) k count;
      state = state_after (opening_number (queue_of s) k count) (state_of (joined (queue_of s) k)) s;
    }

pub record Opening (s : State) (k count : ℕ) (answer : Opened) : Type 0 where
  pub answer_is : answer ≡ opened s k count

-- ---- a turn

-- "'None open' is said .. with count, cycle and places 0 and the state unchanged."
unfoldable pub none_open : State → Turned
unfolding in_sixteen
none_open s = record { served = false; count = 0; cycle = 0; places = in_sixteen []; state = s }

-- "the turn's answer says how many corners it handed out, and of which cycle. That number is the smaller of 16 and the corners still due":
-- the front, o, is served, with q behind it.
unfoldable pub front_served : Lists → OpenOutline → List OpenOutline → Turned
unfolding due_of corners_handed_out in_sixteen after_serving state_of
front_served l o q =
    record {
      served = true;
      count = min 16 (due_of l o);
      cycle = o.cycle;
      places = in_sixteen (corners_handed_out l o);
      state = state_of (after_serving (due_of l o) o q);
    }

-- A turn where the state s holds a queue: "The outline at the front is served".
unfoldable pub turned_with : List OpenOutline → State → Lists → Turned
unfolding none_open front_served
turned_with [] s l = none_open s
turned_with (o ∷ q) s l = front_served l o q

unfoldable pub turned : State → Lists → Turned
unfolding turned_with queue_of
turned s l = turned_with (queue_of s) s l

pub record Turning (s : State) (l : Lists) (answer : Turned) : Type 0 where
  pub answer_is : answer ≡ turned s l

-- ---- what each answer comes to

module _ (s : State) (k count : ℕ) where
  -- A cause applies.
  pub refuses : (j : ℕ) → opening_number (queue_of s) k count ≡ suc j → Opening s k count (record { number = suc j; state = s })
  unfolding opened state_after
  refuses j h = record { answer_is = ap (λ (m : ℕ). record { number = m; state = state_after m (state_of (joined (queue_of s) k)) s }) (sym h) }

  -- None does.
  pub accepts : (new : State) → opening_number (queue_of s) k count ≡ 0 → new ≡ state_of (joined (queue_of s) k) → Opening s k count (record { number = 0; state = new })
  unfolding opened state_after
  accepts new h e = record {
    answer_is =
        ap (λ (t : State). record { number = 0; state = t }) e
        ∙ ap (λ (m : ℕ). record { number = m; state = state_after m (state_of (joined (queue_of s) k)) s }) (sym h);
  }

module _ (s : State) (l : Lists) where
  pub none_is_open : queue_of s ≡ [] → Turning s l (none_open s)
  unfolding turned turned_with
  none_is_open e = record { answer_is = ap (λ (r : List OpenOutline). turned_with r s l) (sym e) }

  pub front_is_served : {o : OpenOutline} {q : List OpenOutline} {n : ℕ} {corners : List ℕ} {next : State} → queue_of s ≡ o ∷ q
      → n ≡ min 16 (due_of l o) → corners ≡ in_sixteen (corners_handed_out l o) → next ≡ state_of (after_serving (due_of l o) o q)
      → Turning s l (record { served = true; count = n; cycle = o.cycle; places = corners; state = next })
  unfolding turned turned_with front_served
  front_is_served {o} {q} {n} {corners} {next} e of_sixteen handed after = record {
    answer_is =
        ap (λ (m : ℕ). record { served = true; count = m; cycle = o.cycle; places = corners; state = next }) of_sixteen
        ∙ ap₂ (λ (c : List ℕ) (t : State). record { served = true; count = min 16 (due_of l o); cycle = o.cycle; places = c; state = t }) handed after
        ∙ ap (λ (r : List OpenOutline). turned_with r s l) (sym e);
  }
