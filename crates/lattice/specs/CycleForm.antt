-- Cycle form, document 01's own term (cause 16): "an even number of corners from 4 to 262,144, coordinates at most 256, first
-- step eastward, then along y and x by turns, the closing step from last corner to first along y, no step of length 0".
use Rattle.std.specs.Prelude.{◌≡◌, ℕ, zero, suc, ◌+◌, ◌%◌, ◌<◌, ◌≤◌, Bool, true, false, not, ◌&&◌, ◌≢◌, ◌↔◌, List, [], ◌∷◌, length, ◌==◌, nat_le, nat_lt, slice_index, slice_index_or, refl}
use Rattle.std.proofs.Common.{ap, add-zero, zero-add, add-one, arith, eq-eqb, ne_eqb, eqb-true, leb-true, le-leb, ltb-true, lt-ltb}
use Rattle.std.proofs.Math.Decide.{ℕ_discrete}
use Rattle.std.proofs.Math.ListN.{get_or-eq_default}
use Rattle.std.proofs.lemmas.Bool.{eqb-false}
use Rattle.sequences.specs.Cases.{and_both, both_and, then_both, not_flips}
use Rattle.lattice.specs.Parity.{is_even, zero_even, even_yes, even_not, even_next}
use Rattle.lattice.specs.Directions.{x_of, y_of}

-- Coordinates at most 256.
unfoldable pub inside : ℕ → Bool
unfolding x_of y_of
inside p = nat_le (x_of p) 256 && nat_le (y_of p) 256

unfoldable pub all_inside : List ℕ → Bool
unfolding inside
all_inside [] = true
all_inside (p ∷ ps) = elim (inside p) [ true ↦ all_inside ps | false ↦ false ]

-- A step along x, and one along y, of a length above 0.
unfoldable pub along_x : ℕ → ℕ → Bool
unfolding x_of y_of
along_x p q = y_of p == y_of q && not (x_of p == x_of q)

unfoldable pub along_y : ℕ → ℕ → Bool
unfolding x_of y_of
along_y p q = x_of p == x_of q && not (y_of p == y_of q)

-- A step along x where `x` holds, along y where it does not.
unfoldable pub along : Bool → ℕ → ℕ → Bool
unfolding along_x along_y
along true p q = along_x p q
along false p q = along_y p q

-- From p on, a step along x if `x` holds and along y if not, then by turns; the closing step, to `first`, along y.
unfoldable pub by_turns : Bool → ℕ → List ℕ → ℕ → Bool
unfolding along
by_turns x p [] first = not x && along x p first
by_turns x p (q ∷ qs) first = elim (along x p q) [ true ↦ by_turns (not x) q qs first | false ↦ false ]

-- First step eastward.
unfoldable pub eastward : List ℕ → Bool
unfolding x_of
eastward [] = false
eastward (p ∷ []) = false
eastward (p ∷ q ∷ ps) = nat_lt (x_of p) (x_of q)

unfoldable pub steps : List ℕ → Bool
unfolding by_turns
steps [] = false
steps (p ∷ ps) = by_turns true p ps p

unfoldable pub cycle_form : List ℕ → Bool
unfolding all_inside eastward steps
cycle_form cs =
    (length cs % 2 == 0) && (nat_le 4 (length cs) && (nat_le (length cs) 262144 && (all_inside cs && (eastward cs && steps cs))))

-- The same, in words about each corner. The step at i leads from the corner at i to the one after; after the last comes the first.
unfoldable pub after : List ℕ → ℕ → ℕ
after cs i = slice_index_or cs (suc i) (slice_index cs 0)

pub record AlongX (p q : ℕ) : Type 0 where
  pub same_row : y_of p ≡ y_of q
  pub moves : x_of p ≢ x_of q

pub record AlongY (p q : ℕ) : Type 0 where
  pub same_column : x_of p ≡ x_of q
  pub moves : y_of p ≢ y_of q

-- The steps at 0, 2, .. go along x and those at 1, 3, .. along y; the closing one, the last of an even number, is among the latter.
pub record CycleForm (cs : List ℕ) : Type 0 where
  pub even_number : length cs % 2 ≡ 0
  pub at_least_four : 4 ≤ length cs
  pub at_most : length cs ≤ 262144
  pub x_at_most : (i : ℕ) → i < length cs → x_of (slice_index cs i) ≤ 256
  pub y_at_most : (i : ℕ) → i < length cs → y_of (slice_index cs i) ≤ 256
  pub first-eastward : x_of (slice_index cs 0) < x_of (slice_index cs 1)
  pub along_x_lem : (i : ℕ) → i < length cs → i % 2 ≡ 0 → AlongX (slice_index cs i) (after cs i)
  pub along_y_lem : (i : ℕ) → i < length cs → i % 2 ≡ 1 → AlongY (slice_index cs i) (after cs i)

pub along_x_says : (p q : ℕ) → along true p q ≡ true → AlongX p q
unfolding along along_x
along_x_says p q h =
    let b = and_both (y_of p == y_of q) (not (x_of p == x_of q)) h in
    record { same_row = eqb-true (y_of p) (y_of q) b.0; moves = eqb-false (x_of p) (x_of q) (not_flips (x_of p == x_of q) b.1) }

pub along_y_says : (p q : ℕ) → along false p q ≡ true → AlongY p q
unfolding along along_y
along_y_says p q h =
    let b = and_both (x_of p == x_of q) (not (y_of p == y_of q)) h in
    record { same_column = eqb-true (x_of p) (x_of q) b.0; moves = eqb-false (y_of p) (y_of q) (not_flips (y_of p == y_of q) b.1) }

pub says_along_x : (p q : ℕ) → AlongX p q → along true p q ≡ true
unfolding along along_x
says_along_x p q a =
    both_and (y_of p == y_of q) (not (x_of p == x_of q)) (eq-eqb (y_of p) (y_of q) a.same_row) (ap not (ne_eqb (x_of p) (x_of q) a.moves))

pub says_along_y : (p q : ℕ) → AlongY p q → along false p q ≡ true
unfolding along along_y
says_along_y p q a =
    both_and (x_of p == x_of q) (not (y_of p == y_of q)) (eq-eqb (x_of p) (x_of q) a.same_column) (ap not (ne_eqb (y_of p) (y_of q) a.moves))

pub inside_says : (p : ℕ) → inside p ≡ true → (x_of p ≤ 256) × (y_of p ≤ 256)
unfolding inside
inside_says p h =
    let b = and_both (nat_le (x_of p) 256) (nat_le (y_of p) 256) h in
    (leb-true (x_of p) 256 b.0, leb-true (y_of p) 256 b.1)

pub says_inside : (p : ℕ) → x_of p ≤ 256 → y_of p ≤ 256 → inside p ≡ true
unfolding inside
says_inside p h k = both_and (nat_le (x_of p) 256) (nat_le (y_of p) 256) (le-leb (x_of p) 256 h) (le-leb (y_of p) 256 k)

pub all_inside_at : (cs : List ℕ) → all_inside cs ≡ true → (i : ℕ) → i < length cs → inside (slice_index cs i) ≡ true
unfolding all_inside
all_inside_at [] h i l = absurd (omega arith)
all_inside_at (p ∷ cs) h zero l = (then_both (inside p) (all_inside cs) h).0
all_inside_at (p ∷ cs) h (suc i) l = all_inside_at cs (then_both (inside p) (all_inside cs) h).1 i (omega arith)

pub at_all_inside : (cs : List ℕ) → ((i : ℕ) → i < length cs → inside (slice_index cs i) ≡ true) → all_inside cs ≡ true
unfolding all_inside
at_all_inside [] f = refl
at_all_inside (p ∷ cs) f = rw (f 0 (omega arith), all_inside) (at_all_inside cs (λ i h. f (suc i) (omega arith)))

-- The steps by their places: from the place j of the first.
steps_at : (j p : ℕ) (qs : List ℕ) (first : ℕ) → by_turns (is_even j) p qs first ≡ true
    → (i : ℕ) → i < length (p ∷ qs) → along (is_even (j + i)) (slice_index (p ∷ qs) i) (slice_index_or qs i first) ≡ true
unfolding by_turns
steps_at j p [] first h zero l = rw add-zero (and_both (not (is_even j)) (along (is_even j) p first) h).1
steps_at j p [] first h (suc i) l = absurd (omega arith)
steps_at j p (q ∷ qs) first h zero l = rw add-zero (then_both (along (is_even j) p q) (by_turns (not (is_even j)) q qs first) h).0
steps_at j p (q ∷ qs) first h (suc i) l =
    let e : j + suc i ≡ j + 1 + i = omega arith in
    rw e (steps_at (j + 1) q qs first (rw even_next (then_both (along (is_even j) p q) (by_turns (not (is_even j)) q qs first) h).1) i (omega arith))

at_steps : (j p : ℕ) (qs : List ℕ) (first : ℕ) → is_even (j + length qs) ≡ false
    → ((i : ℕ) → i < length (p ∷ qs) → along (is_even (j + i)) (slice_index (p ∷ qs) i) (slice_index_or qs i first) ≡ true) → by_turns (is_even j) p qs first ≡ true
unfolding by_turns
at_steps j p [] first odd f =
    let o : is_even j ≡ false = rw add-zero at odd in
    both_and (not (is_even j)) (along (is_even j) p first) (ap not o) (rw add-zero at (f 0 (omega arith)))
at_steps j p (q ∷ qs) first odd f =
    let e : j + suc (length qs) ≡ j + 1 + length qs = omega arith in
    rw (rw add-zero at (f 0 (omega arith)), by_turns)
    (rw (← even_next j) (at_steps (j + 1) q qs first (rw e at odd)
    (λ i l. let g : j + suc i ≡ j + 1 + i = omega arith in rw g at (f (suc i) (omega arith)))))

-- What the test says, each part by itself.
pub record FormParts (cs : List ℕ) : Type 0 where
  pub even : length cs % 2 ≡ 0
  pub least : 4 ≤ length cs
  pub most : length cs ≤ 262144
  pub within : all_inside cs ≡ true
  pub east : eastward cs ≡ true
  pub turning : steps cs ≡ true

pub parts : (cs : List ℕ) → cycle_form cs ≡ true → FormParts cs
unfolding cycle_form
parts cs h =
    let a = and_both (length cs % 2 == 0) (nat_le 4 (length cs) && (nat_le (length cs) 262144 && (all_inside cs && (eastward cs && steps cs)))) h in
    let b = and_both (nat_le 4 (length cs)) (nat_le (length cs) 262144 && (all_inside cs && (eastward cs && steps cs))) a.1 in
    let c = and_both (nat_le (length cs) 262144) (all_inside cs && (eastward cs && steps cs)) b.1 in
    let d = and_both (all_inside cs) (eastward cs && steps cs) c.1 in
    let e = and_both (eastward cs) (steps cs) d.1 in
    record {
      even = eqb-true (length cs % 2) 0 a.0;
      least = leb-true 4 (length cs) b.0;
      most = leb-true (length cs) 262144 c.0;
      within = d.0;
      east = e.0;
      turning = e.1;
    }

pub from_parts : (cs : List ℕ) → FormParts cs → cycle_form cs ≡ true
unfolding cycle_form
from_parts cs p =
    simp (eq-eqb (length cs % 2) 0 p.even, le-leb 4 (length cs) p.least, le-leb (length cs) 262144 p.most, p.within, p.east, p.turning)

form_of : (cs : List ℕ) → FormParts cs → CycleForm cs
unfolding eastward steps after
form_of [] p = absurd (omega (arith, p.least))
form_of (c ∷ []) p = absurd (omega (arith, p.least))
form_of (c ∷ d ∷ cs) p =
    record {
      even_number = p.even;
      at_least_four = p.least;
      at_most = p.most;
      x_at_most = λ i l. (inside_says (slice_index (c ∷ d ∷ cs) i) (all_inside_at (c ∷ d ∷ cs) p.within i l)).0;
      y_at_most = λ i l. (inside_says (slice_index (c ∷ d ∷ cs) i) (all_inside_at (c ∷ d ∷ cs) p.within i l)).1;
      first-eastward = ltb-true (x_of c) (x_of d) p.east;
      along_x_lem = λ i l e. along_x_says (slice_index (c ∷ d ∷ cs) i) (slice_index_or (d ∷ cs) i c) (rw (even_yes i e) at (step i l));
      along_y_lem = λ i l e. along_y_says (slice_index (c ∷ d ∷ cs) i) (slice_index_or (d ∷ cs) i c) (rw (even_not i e) at (step i l));
    }
  where
    step : (i : ℕ) → i < length (c ∷ d ∷ cs) → along (is_even i) (slice_index (c ∷ d ∷ cs) i) (slice_index_or (d ∷ cs) i c) ≡ true
    step i l = rw zero-add at (steps_at 0 c (d ∷ cs) c (rw zero_even p.turning) i l)

parts_of : (cs : List ℕ) → CycleForm cs → FormParts cs
unfolding eastward steps after
parts_of [] f = absurd (omega (arith, f.at_least_four))
parts_of (c ∷ []) f = absurd (omega (arith, f.at_least_four))
parts_of (c ∷ d ∷ cs) f =
    record {
      even = f.even_number;
      least = f.at_least_four;
      most = f.at_most;
      within = at_all_inside (c ∷ d ∷ cs) (λ i l. says_inside (slice_index (c ∷ d ∷ cs) i) (f.x_at_most i l) (f.y_at_most i l));
      east = lt-ltb (x_of c) (x_of d) f.first-eastward;
      turning = rw zero_even at (at_steps 0 c (d ∷ cs) c (even_not (0 + suc (length cs)) (omega (arith, f.even_number))) (λ i l. rw zero-add (step i l (ℕ_discrete (i % 2) 0))));
    }
  where
    step : (i : ℕ) → i < length (c ∷ d ∷ cs) → Dec (i % 2 ≡ 0) → along (is_even i) (slice_index (c ∷ d ∷ cs) i) (slice_index_or (d ∷ cs) i c) ≡ true
    step i l (yes e) = rw (even_yes i e) (says_along_x (slice_index (c ∷ d ∷ cs) i) (slice_index_or (d ∷ cs) i c) (f.along_x_lem i l e))
    step i l (no n) =
        let e : i % 2 ≡ 1 = omega arith in
        rw (even_not i e) (says_along_y (slice_index (c ∷ d ∷ cs) i) (slice_index_or (d ∷ cs) i c) (f.along_y_lem i l e))

-- The test holds exactly for a cycle form.
pub cycle_form_lem : (cs : List ℕ) → (cycle_form cs ≡ true) ↔ CycleForm cs
cycle_form_lem cs = (λ h. form_of cs (parts cs h), λ f. from_parts cs (parts_of cs f))

same_entry : (l : List ℕ) (i a b : ℕ) → i < length l → slice_index_or l i a ≡ slice_index_or l i b
same_entry [] i a b h = absurd (omega arith)
same_entry (x ∷ l) zero a b h = refl
same_entry (x ∷ l) (suc i) a b h = same_entry l i a b (omega arith)

pub after_inner : (cs : List ℕ) (i : ℕ) → i + 1 < length cs → after cs i ≡ slice_index cs (i + 1)
unfolding after
after_inner cs i h = rw add-one (same_entry cs (suc i) (slice_index cs 0) 0 (omega arith))

pub after_last : (cs : List ℕ) (i : ℕ) → length cs ≤ i + 1 → after cs i ≡ slice_index cs 0
unfolding after
after_last cs i h = get_or-eq_default cs (slice_index cs 0) (omega arith)
