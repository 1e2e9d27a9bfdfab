-- Every open outline gets corners within eight turns, whatever is opened meanwhile.
use Rattle.std.specs.Prelude.{◌≡◌, refl, Bool, true, false, ◌||◌, List, [], ◌∷◌, ◌++◌, ℕ, zero, suc, ◌+◌, ◌≤◌, ◌<◌, eqb, length, get_or}
use Rattle.std.proofs.Common.{sym, ap, ◌∙◌, subst, arith, length-append, eqb-true}
use Rattle.std.proofs.lemmas.Bool.{false≢true}
use Rattle.std.proofs.Math.Decide.{dec_lt, ℕ_discrete}
use Rattle.std.proofs.Math.ListN.{get_or-append}
use Rattle.serving.specs.declared.OpenOutline.{OpenOutline}
use Rattle.serving.specs.declared.State.{State}
use Rattle.serving.specs.declared.Opened.{Opened}
use Rattle.serving.specs.declared.Turned.{Turned}
use Rattle.serving.specs.Queue.{is_open, Lists, due_of}
use Rattle.serving.specs.States.{queue_of, unused, fresh}
use Rattle.serving.specs.Promise.{Opening, Turning}
use Rattle.turns.specs.Calls.{few_open, refusal_leaves_state, joins_at_the_back, front_served_lem, goes_to_the_back, else_closes}
use Rattle.turns.specs.Runs.{Run, none, opening, turning, answers_of, EachHasCorners}
use Rattle.turns.specs.Due.{AllDue, one_due, due_after_run, due_fresh}

-- ---- who stands where

-- The outline o stands at the place i of a queue; at 0 it is the front.
record At (q : List OpenOutline) (i : ℕ) (o : OpenOutline) : Type 0 where
  pub inside : i < length q
  pub is : get_or q i unused ≡ o

at_append : {q : List OpenOutline} {i : ℕ} {o : OpenOutline} (r : List OpenOutline) → At q i o → At (q ++ r) i o
at_append {q} {i} r p = record {
  inside = omega (arith, p.inside, length-append q r);
  is = get_or-append q r unused i p.inside ∙ p.is;
}

-- An opening moves none that is open.
at_opening : {s : State} {k count : ℕ} {answer : Opened} {i : ℕ} {o : OpenOutline} → Opening s k count answer → At (queue_of s) i o
    → At (queue_of answer.state) i o
at_opening {s} {k} {count} {answer} {i} {o} p at = pick (ℕ_discrete answer.number 0)
  where
    pick : Dec (answer.number ≡ 0) → At (queue_of answer.state) i o
    pick (no f) = subst (λ (t : State). At (queue_of t) i o) (sym (refusal_leaves_state p f)) at
    pick (yes ok) = subst (λ (q : List OpenOutline). At q i o) (sym (joins_at_the_back p ok)) (at_append (record { cycle = k; handed = 0 } ∷ []) at)

-- A turn moves each but the front by one place towards it.
at_turn : {s : State} {l : Lists} {answer : Turned} {i : ℕ} {o f : OpenOutline} {q : List OpenOutline} → Turning s l answer → queue_of s ≡ f ∷ q
    → At (f ∷ q) (suc i) o → At (queue_of answer.state) i o
at_turn {s} {l} {answer} {i} {o} {f} {q} p e at = pick (dec_lt 16 (due_of l f))
  where
    next : At q i o
    next = record { inside = omega (arith, at.inside); is = at.is }

    pick : Dec (16 < due_of l f) → At (queue_of answer.state) i o
    pick (yes more) =
        subst (λ (r : List OpenOutline). At r i o) (sym (goes_to_the_back p e more)) (at_append (record { cycle = f.cycle; handed = f.handed + 16 } ∷ []) next)
    pick (no few) = subst (λ (r : List OpenOutline). At r i o) (sym (else_closes p e (omega arith))) next

-- ---- who is served when

-- A turn served cycle k, with one corner at least.
pub record Served (k : ℕ) (answer : Turned) : Type 0 where
  pub one_served : answer.served ≡ true
  pub its_cycle : answer.cycle ≡ k
  pub some_corners : 0 < answer.count

-- Read where a list of answers ends; it serves none.
abbrev no_turn : Turned
no_turn = record { served = false; count = 0; cycle = 0; places = []; state = record { outlines = []; length = 0 } }

-- The outline at the place i is served by the turn number i, counted from 0.
served_by_turn : {l : Lists} {s t : State} {i : ℕ} {o : OpenOutline} (r : Run l s t) → At (queue_of s) i o → 0 < due_of l o → i < length (answers_of r)
    → Served o.cycle (get_or (answers_of r) i no_turn)
unfolding answers_of
served_by_turn none at due h = absurd (omega arith)
served_by_turn (opening k answer p r) at due h = served_by_turn r (at_opening p at) due h
served_by_turn {l} {s} {t} {i} {o} (turning answer p r) at due h = pick (queue_of s) refl i at h (λ j later inside. served_by_turn r later due inside)
  where
    pick : (q : List OpenOutline) → queue_of s ≡ q → (j : ℕ) → At q j o → j < suc (length (answers_of r))
        → ((m : ℕ) → At (queue_of answer.state) m o → m < length (answers_of r) → Served o.cycle (get_or (answers_of r) m no_turn))
        → Served o.cycle (get_or (answer ∷ answers_of r) j no_turn)
    pick [] e j a b rest = absurd (omega (arith, a.inside))
    pick (f ∷ q) e zero a b rest =
        let says = front_served_lem p e in
        record {
          one_served = says.0;
          its_cycle = says.1 ∙ ap (λ (x : OpenOutline). x.cycle) a.is;
          some_corners = omega (arith, says.2, subst (λ (x : OpenOutline). 0 < due_of l x) (sym a.is) due);
        }
    pick (f ∷ q) e (suc j) a b rest = rest j (at_turn p e a) (omega arith)

-- The place of a cycle that is open, with something due.
record Found (l : Lists) (k : ℕ) (q : List OpenOutline) : Type 0 where
  pub place : ℕ
  pub outline : OpenOutline
  pub at : At q place outline
  pub its_cycle : outline.cycle ≡ k
  pub some_due : 0 < due_of l outline

find : (l : Lists) (k : ℕ) (q : List OpenOutline) → is_open k q ≡ true → AllDue l q → Found l k q
unfolding is_open
find l k [] h d = absurd (false≢true h)
find l k (o ∷ q) h (one_due due d) = pick (eqb o.cycle k) refl h (λ g. find l k q g d)
  where
    behind : Found l k q → Found l k (o ∷ q)
    behind f = record {
      place = suc f.place;
      outline = f.outline;
      at = record { inside = omega (arith, f.at.inside); is = f.at.is };
      its_cycle = f.its_cycle;
      some_due = f.some_due;
    }

    pick : (b : Bool) → eqb o.cycle k ≡ b → b || is_open k q ≡ true → (is_open k q ≡ true → Found l k q) → Found l k (o ∷ q)
    pick true e g rest =
        record { place = 0; outline = o; at = record { inside = omega arith; is = refl }; its_cycle = eqb-true o.cycle k e; some_due = due }
    pick false e g rest = behind (rest g)

-- One of the first eight of these turns served cycle k.
pub record WithinEight (k : ℕ) (answers : List Turned) : Type 0 where
  pub turn-number : ℕ
  pub among_eight : turn-number < 8
  pub serves : Served k (get_or answers turn-number no_turn)

-- "Every open outline gets corners within eight turns, whatever is opened meanwhile": `before` leads from the fresh state to the present one,
-- `later` follows, and in the lists lent each cycle has corners.
pub served_within_eight_turns : {l : Lists} {s t : State} {k : ℕ} → EachHasCorners l → Run l fresh s → is_open k (queue_of s) ≡ true
    → (later : Run l s t) → 8 ≤ length (answers_of later) → WithinEight k (answers_of later)
served_within_eight_turns {l} {s} {t} {k} some before is_open later enough =
    let f = find l k (queue_of s) is_open (due_after_run some before (due_fresh l)) in
    let first : f.place < 8 = omega (arith, f.at.inside, few_open s) in
    let w = served_by_turn later f.at f.some_due (omega arith) in
    record {
      turn-number = f.place;
      among_eight = first;
      serves = subst (λ (c : ℕ). Served c (get_or (answers_of later) f.place no_turn)) f.its_cycle w;
    }
