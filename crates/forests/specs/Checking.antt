-- The test of a given order, as two walks along it: every number below N once; then no number after its parent. Document 02, request h:
-- "19 (the given order is not every region once), then new 20 (a region stands before one it surrounds)".
use Rattle.std.specs.Prelude.{◌≡◌, ◌≢◌, ◌↔◌, Bool, true, false, not, ℕ, zero, suc, ◌≤◌, ◌<◌, length, get_or, eqb, ltb}
use Rattle.std.proofs.Math.Path.{refl}
use Rattle.std.proofs.Common.{sym, ap, ◌∙◌, inr, arith, eq-eqb, ne_eqb, lt-ltb, le-ltb}
use Rattle.std.proofs.Math.Logic.{inl}
use Rattle.std.proofs.lemmas.Bool.{false≢true}
use mathlib.Core.List.{List, [], ◌∷◌}
use Rattle.std.proofs.Math.Decide.{ℕ_discrete, dec_lt}
use Rattle.orbits.specs.Members.{In, in_dec, in_none}
use Rattle.forests.specs.Forest.{ParentsBelow}
use Rattle.orbits.specs.Finding.{member, member_in, member_not}
use Rattle.forests.specs.Orders.{EachOnce, ChildrenFirst}
use Rattle.forests.specs.Entries.{Done, done_in, done_later, done_sooner}

-- A test that is asked of each entry of a list and what stands before it, the nearest first.
unfoldable pub along : (List ℕ → ℕ → Bool) → List ℕ → List ℕ → Bool
along test before [] = true
along test before (v ∷ l) = elim (test before v) [ true ↦ along test (v ∷ before) l | false ↦ false ]

-- The entry is below N and does not stand before.
unfoldable pub is_new : ℕ → List ℕ → ℕ → Bool
unfolding member
is_new N before v = elim (ltb v N) [ true ↦ not (member v before) | false ↦ false ]

-- The parent of the entry does not stand before it.
unfoldable pub parent_later : (ℕ → ℕ) → List ℕ → ℕ → Bool
unfolding member
parent_later up before v = elim (up v) [ zero ↦ true | suc p ↦ not (member p before) ]

-- Every number below N stands in the list once; each child stands before its parent.
unfoldable pub is_each_once : ℕ → List ℕ → Bool
unfolding along is_new
is_each_once N l = elim (eqb (length l) N) [ true ↦ along (is_new N) [] l | false ↦ false ]

unfoldable pub is_children_first : (ℕ → ℕ) → List ℕ → Bool
unfolding along parent_later
is_children_first up l = along (parent_later up) [] l

-- Of three numbers, the first is the parent of the others.
example : (is_each_once 3 (2 ∷ 0 ∷ 1 ∷ []) ≡ true) × (is_each_once 3 (2 ∷ 0 ∷ 2 ∷ []) ≡ false) × (is_each_once 3 (2 ∷ 0 ∷ 3 ∷ []) ≡ false) × (is_each_once 3 (2 ∷ 0 ∷ []) ≡ false)
    × (is_children_first (λ v. get_or (0 ∷ 1 ∷ 1 ∷ []) v 0) (2 ∷ 1 ∷ 0 ∷ []) ≡ true) × (is_children_first (λ v. get_or (0 ∷ 1 ∷ 1 ∷ []) v 0) (2 ∷ 0 ∷ 1 ∷ []) ≡ false)
unfolding is_each_once is_children_first
example = (refl, refl, refl, refl, refl, refl)

module _ (test : List ℕ → ℕ → Bool) (before l : List ℕ) (v : ℕ) where
  pub along_on : test before v ≡ true → along test before (v ∷ l) ≡ along test (v ∷ before) l
  unfolding along
  along_on h = rw (h, along)

  pub along_stop : test before v ≡ false → along test before (v ∷ l) ≡ false
  unfolding along
  along_stop h = rw (h, along)

pub along_end : (test : List ℕ → ℕ → Bool) (before : List ℕ) → along test before [] ≡ true
unfolding along
along_end test before = refl

-- The test of an entry, case by case.
module _ (N : ℕ) (before : List ℕ) (v : ℕ) where
  pub new_outside : N ≤ v → is_new N before v ≡ false
  unfolding is_new
  new_outside h = rw (le-ltb v N h, is_new)

  pub new_when_absent : v < N → member v before ≡ false → is_new N before v ≡ true
  unfolding is_new
  new_when_absent h m = rw (lt-ltb v N h, m, is_new)

  pub not_new_when_present : v < N → member v before ≡ true → is_new N before v ≡ false
  unfolding is_new
  not_new_when_present h m = rw (lt-ltb v N h, m, is_new)

module _ (up : ℕ → ℕ) (before : List ℕ) (v : ℕ) where
  pub later_without_parent : up v ≡ 0 → parent_later up before v ≡ true
  unfolding parent_later
  later_without_parent e = rw (e, parent_later)

  pub later_when_absent : (p : ℕ) → up v ≡ suc p → member p before ≡ false → parent_later up before v ≡ true
  unfolding parent_later
  later_when_absent p e m = rw (e, m, parent_later)

  pub not_later_when_present : (p : ℕ) → up v ≡ suc p → member p before ≡ true → parent_later up before v ≡ false
  unfolding parent_later
  not_later_when_present p e m = rw (e, m, parent_later)

module _ (N : ℕ) (l : List ℕ) where
  pub once_of_other_length : length l ≢ N → is_each_once N l ≡ false
  unfolding is_each_once
  once_of_other_length h = rw (ne_eqb (length l) N h, is_each_once)

  pub once_of_that_length : length l ≡ N → is_each_once N l ≡ along (is_new N) [] l
  unfolding is_each_once
  once_of_that_length h = rw (eq-eqb (length l) N h, is_each_once)

-- A test that says, whatever stands before, that Q holds of the entry and what stands before.
module _ (test : List ℕ → ℕ → Bool) (Q : (ℕ → Type 0) → ℕ → Type 0)
    (says : (before : List ℕ) (v : ℕ) → (test before v ≡ true) ↔ Q (λ a. In a before) v)
    (same : (A B : ℕ → Type 0) (v : ℕ) → ((a : ℕ) → A a → B a) → ((a : ℕ) → B a → A a) → Q A v → Q B v) where
  abbrev Each : List ℕ → List ℕ → Type 0
  Each before l = (i : ℕ) → i < length l → Q (λ a. Done before l i a) (get_or l i 0)

  passed : (before l : List ℕ) (v : ℕ) → along test before (v ∷ l) ≡ true → (b : Bool) → test before v ≡ b → (test before v ≡ true) × (along test (v ∷ before) l ≡ true)
  passed before l v h true e = (e, sym (along_on test before l v e) ∙ h)
  passed before l v h false e = absurd (false≢true (sym (along_stop test before l v e) ∙ h))

  along_each : (before l : List ℕ) → along test before l ≡ true → Each before l
  along_each before [] h i k = let z : ⊥ = omega arith in absurd z
  along_each before (v ∷ l) h zero k =
      same (λ a. In a before) (λ a. Done before (v ∷ l) 0 a) v (λ a i. inl i) (λ a d. done_in before l v a d) ((says before v).0 (passed before l v h (test before v) refl).0)
  along_each before (v ∷ l) h (suc i) k =
      same (λ a. Done (v ∷ before) l i a) (λ a. Done before (v ∷ l) (suc i) a) (get_or l i 0) (λ a d. done_later before l v i a d) (λ a d. done_sooner before l v i a d)
      (along_each (v ∷ before) l (passed before l v h (test before v) refl).1 i (omega arith))

  each_along : (before l : List ℕ) → Each before l → along test before l ≡ true
  unfolding along
  each_along before [] f = refl
  each_along before (v ∷ l) f =
      along_on test before l v ((says before v).1 (same (λ a. Done before (v ∷ l) 0 a) (λ a. In a before) v (λ a d. done_in before l v a d) (λ a i. inl i) (f 0 (omega arith))))
      ∙ each_along (v ∷ before) l (λ i k. same (λ a. Done before (v ∷ l) (suc i) a) (λ a. Done (v ∷ before) l i a) (get_or l i 0)
      (λ a d. done_sooner before l v i a d) (λ a d. done_later before l v i a d) (f (suc i) (omega arith)))

-- Every number once.
New : ℕ → (ℕ → Type 0) → ℕ → Type 0
New N A v = (v < N) × (A v → ⊥)

new_says : (N : ℕ) (before : List ℕ) (v : ℕ) → (is_new N before v ≡ true) ↔ New N (λ a. In a before) v
unfolding New
new_says N before v = (λ h. from h (dec_lt v N) (in_dec v before), λ f. new_when_absent N before v f.0 (member_not v before f.1))
  where
    from : is_new N before v ≡ true → Dec (v < N) → Dec (In v before) → New N (λ a. In a before) v
    from h (yes l) (no i) = (l, i)
    from h (no l) i = absurd (false≢true (sym (new_outside N before v (omega arith)) ∙ h))
    from h (yes l) (yes i) = absurd (false≢true (sym (not_new_when_present N before v l (member_in v before i)) ∙ h))

new_same : (N : ℕ) (A B : ℕ → Type 0) (v : ℕ) → ((a : ℕ) → A a → B a) → ((a : ℕ) → B a → A a) → New N A v → New N B v
unfolding New
new_same N A B v f g (l, n) = (l, λ b. n (g v b))

-- No parent before.
Later : (ℕ → ℕ) → (ℕ → Type 0) → ℕ → Type 0
Later up A v = (p : ℕ) → up v ≡ suc p → A p → ⊥

later_says : (up : ℕ → ℕ) (before : List ℕ) (v : ℕ) → (parent_later up before v ≡ true) ↔ Later up (λ a. In a before) v
unfolding Later
later_says up before v = (λ h p e i. false≢true (sym (not_later_when_present up before v p e (member_in p before i)) ∙ h), λ f. from f (up v) refl)
  where
    from : Later up (λ a. In a before) v → (w : ℕ) → up v ≡ w → parent_later up before v ≡ true
    from f zero e = later_without_parent up before v e
    from f (suc p) e = later_when_absent up before v p e (member_not p before (f p e))

later_same : (up : ℕ → ℕ) (A B : ℕ → Type 0) (v : ℕ) → ((a : ℕ) → A a → B a) → ((a : ℕ) → B a → A a) → Later up A v → Later up B v
unfolding Later
later_same up A B v f g h p e b = h p e (g p b)

-- The tests say what they are named for.
pub each_once_says : (N : ℕ) (l : List ℕ) → (is_each_once N l ≡ true) ↔ EachOnce N l
unfolding New
each_once_says N l = (λ h. from h (ℕ_discrete (length l) N), λ e. once_of_that_length N l e.long ∙ each_along (is_new N) (New N) (new_says N) (new_same N) [] l (entries e))
  where
    entries : EachOnce N l → (i : ℕ) → i < length l → New N (λ a. Done [] l i a) (get_or l i 0)
    entries e i h = (e.below (get_or l i 0) (i, h, refl), λ d. apart d)
      where
        apart : Done [] l i (get_or l i 0) → ⊥
        apart (inl m) = in_none (get_or l i 0) m
        apart (inr (j, k, q)) = e.once j i k h q

    from : is_each_once N l ≡ true → Dec (length l ≡ N) → EachOnce N l
    from h (no n) = absurd (false≢true (sym (once_of_other_length N l n) ∙ h))
    from h (yes e) =
        let f : (i : ℕ) → i < length l → New N (λ a. Done [] l i a) (get_or l i 0) =
        along_each (is_new N) (New N) (new_says N) (new_same N) [] l (sym (once_of_that_length N l e) ∙ h) in
        record {
          long = e;
          once = λ i j k b z. (f j b).1 (inr (i, k, z));
          below = λ a i. omega (arith, (f i.0 i.1).0, i.2);
        }

pub children_first_says : (N : ℕ) (up : ℕ → ℕ) → ParentsBelow N up → (l : List ℕ) → EachOnce N l → (is_children_first up l ≡ true) ↔ ChildrenFirst up l
unfolding is_children_first Later
children_first_says N up low l each = (
  λ h s p e i j hi hj x y. order s p e i j hi hj x y (along_each (parent_later up) (Later up) (later_says up) (later_same up) [] l h) (dec_lt i j),
  λ f. each_along (parent_later up) (Later up) (later_says up) (later_same up) [] l (λ i h p e d. before f i h p e d),
)
  where
    order : (s p : ℕ) → up s ≡ suc p → (i j : ℕ) → i < length l → j < length l → get_or l i 0 ≡ s → get_or l j 0 ≡ p
        → ((i : ℕ) → i < length l → (p : ℕ) → up (get_or l i 0) ≡ suc p → Done [] l i p → ⊥) → Dec (i < j) → i < j
    order s p e i j hi hj x y f (yes k) = k
    order s p e i j hi hj x y f (no k) = last (ℕ_discrete i j)
      where
        below : p < s
        below = low s p (each.below s (i, hi, x)) e

        last : Dec (i ≡ j) → i < j
        last (yes q) = absurd (omega (arith, below, x, y, ap (λ z. get_or l z 0) q))
        last (no q) = absurd (f i hi p (ap up x ∙ e) (inr (j, omega arith, y)))

    before : ChildrenFirst up l → (i : ℕ) → i < length l → (p : ℕ) → up (get_or l i 0) ≡ suc p → Done [] l i p → ⊥
    before f i h p e (inl m) = in_none p m
    before f i h p e (inr (j, k, q)) = omega (arith, f (get_or l i 0) p e i j h (omega arith) refl q)

-- A parent stands before its child: `parent` and `child` are their places.
pub record ParentBefore (up : ℕ → ℕ) (l : List ℕ) : Type 0 where
  pub parent : ℕ
  pub child : ℕ
  pub earlier : parent < child
  pub within : child < length l
  pub above : up (get_or l child 0) ≡ suc (get_or l parent 0)

-- The walk stops at a number whose parent stands before it.
record Stop (up : ℕ → ℕ) (before l : List ℕ) : Type 0 where
  pub place : ℕ
  pub within : place < length l
  pub parent : ℕ
  pub above : up (get_or l place 0) ≡ suc parent
  pub done : Done before l place parent

parent_stops : (up : ℕ → ℕ) (before l : List ℕ) → along (parent_later up) before l ≡ false → Stop up before l
parent_stops up before [] h = absurd (false≢true (sym h ∙ along_end (parent_later up) before))
parent_stops up before (v ∷ l) h = from (up v) refl (λ b. later (parent_stops up (v ∷ before) l (sym (along_on (parent_later up) before l v b) ∙ h)))
  where
    later : Stop up (v ∷ before) l → Stop up before (v ∷ l)
    later s = record {
      place = suc s.place;
      within = omega (arith, s.within);
      parent = s.parent;
      above = s.above;
      done = done_later before l v s.place s.parent s.done;
    }

    from : (w : ℕ) → up v ≡ w → (parent_later up before v ≡ true → Stop up before (v ∷ l)) → Stop up before (v ∷ l)
    from zero e on = on (later_without_parent up before v e)
    from (suc p) e on = here (in_dec p before)
      where
        here : Dec (In p before) → Stop up before (v ∷ l)
        here (yes i) = record { place = 0; within = omega arith; parent = p; above = e; done = inl i }
        here (no i) = on (later_when_absent up before v p e (member_not p before i))

-- Where the test says no, the order has such places.
pub parent-before_says : (up : ℕ → ℕ) (l : List ℕ) → is_children_first up l ≡ false → ParentBefore up l
unfolding is_children_first
parent-before_says up l h = from (parent_stops up [] l h)
  where
    from : Stop up [] l → ParentBefore up l
    from s = at s.done
      where
        at : Done [] l s.place s.parent → ParentBefore up l
        at (inl i) = in_none s.parent i
        at (inr (j, h, e)) = record { parent = j; child = s.place; earlier = h; within = s.within; above = s.above ∙ ap suc (sym e) }
