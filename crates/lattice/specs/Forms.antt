-- The corners of a closed walk are a cycle form, if it never turns straight back, starts eastward and ends along y.
use Rattle.std.specs.Prelude.{◌≡◌, ℕ, zero, suc, ◌+◌, ◌-◌, ◌*◌, ◌%◌, ◌<◌, ◌≤◌, Bool, true, false, not, ◌≢◌, List, [], ◌∷◌, length, slice_index, refl}
use Rattle.std.proofs.Common.{sym, ap, ◌∙◌, subst₂, arith, eqb-true, lt-ltb}
use Rattle.std.proofs.Math.Path.{ap₂}
use Rattle.std.proofs.Math.Bool.{not-not}
use Rattle.std.proofs.Math.Decide.{ℕ_discrete}
use Rattle.sequences.specs.Cases.{and_both, both_and, then_both}
use Rattle.lattice.specs.Parity.{is_even, even_yes, even_not, even_next, zero_even}
use Rattle.lattice.specs.Directions.{x_of, y_of, move, opposite, tail, digit, head}
use Rattle.lattice.specs.Walks.{corners, turns, last_of}
use Rattle.lattice.specs.Straight.{far, OnGrid, far_one, far-step, on_grid_more}
use Rattle.lattice.specs.Corners.{Walk, turns_on, turns-turn}
use Rattle.lattice.specs.CycleForm.{inside, all_inside, by_turns, along, steps, eastward, cycle_form, from_parts, along_x_says, along_y_says, says_along_x, says_along_y}

-- The tails lie within 0 to 256, and no edge leads straight back; d is the digit before the first.
unfoldable pub Proper : ℕ → List ℕ → Type 0
Proper d [] = Unit {0}
Proper d (e ∷ es) = (digit e ≢ opposite d) × (inside (tail e) ≡ true) × Proper (digit e) es

digit-below : (e : ℕ) → digit e < 4
unfolding digit
digit-below e = omega arith

-- Coordinates of the corners.
turns-inside : (es : List ℕ) (d : ℕ) → Proper d es → all_inside (turns d es) ≡ true
unfolding Proper all_inside turns
turns-inside [] d p = refl
turns-inside (e ∷ es) d p = pick (ℕ_discrete d (digit e)) (turns-inside es (digit e) p.2)
  where
    pick : Dec (d ≡ digit e) → all_inside (turns (digit e) es) ≡ true → all_inside (turns d (e ∷ es)) ≡ true
    pick (yes s) r = rw (turns_on d e es s, s) r
    pick (no n) r = rw (turns-turn d e es n) (rw (p.1, all_inside) r)

-- The point k units on lies along the digit's axis.
far-along : (d k c : ℕ) → d < 4 → 0 < k → OnGrid d k c → along (is_even d) c (far d k c) ≡ true
unfolding far OnGrid x_of y_of
far-along zero k c h pos r = rw (even_yes 0 refl) (says_along_x c (c + k) (record { same_row = omega arith; moves = omega arith }))
far-along (suc zero) k c h pos r = rw (even_not 1 refl) (says_along_y c (c - 512 * k) (record { same_column = omega arith; moves = omega arith }))
far-along (suc (suc zero)) k c h pos r = rw (even_yes 2 refl) (says_along_x c (c - k) (record { same_row = omega arith; moves = omega arith }))
far-along (suc (suc (suc zero))) k c h pos r = rw (even_not 3 refl) (says_along_y c (c + 512 * k) (record { same_column = omega arith; moves = omega arith }))
far-along (suc (suc (suc (suc d)))) k c h pos r = absurd (omega arith)

-- A turn that is no reversal changes the axis.
pub turn_axis : (d e : ℕ) → d < 4 → e < 4 → d ≢ e → e ≢ opposite d → is_even e ≡ not (is_even d)
unfolding opposite
turn_axis d e h k n m = pick (ℕ_discrete (d % 2) 0)
  where
    pick : Dec (d % 2 ≡ 0) → is_even e ≡ not (is_even d)
    pick (yes z) = even_not e (omega arith) ∙ ap not (sym (even_yes d z))
    pick (no z) = even_yes e (omega arith) ∙ ap not (sym (even_not d (omega arith)))

-- The digit after which a walk ends; d is the one before it.
unfoldable pub end_digit : ℕ → List ℕ → ℕ
end_digit d [] = d
end_digit d (e ∷ es) = end_digit (digit e) es

end_last : (e : ℕ) (es : List ℕ) → end_digit (digit e) es ≡ digit (last_of e es)
unfolding end_digit last_of
end_last e [] = refl
end_last e (f ∷ es) = end_last f es

-- On the way, k units with the digit d from the corner c are behind.
abbrev Goal : List ℕ → Type 0
Goal es = (d k c close : ℕ) → d < 4 → 0 < k → OnGrid d k c → Walk (far d k c) es close → Proper d es → end_digit d es % 2 ≡ 1
    → by_turns (is_even d) c (turns d es) close ≡ true

module _ (e : ℕ) (es : List ℕ) (ih : Goal es) (d k c close : ℕ) (h : d < 4) (pos : 0 < k) (r : OnGrid d k c) (here : tail e ≡ far d k c) (room : OnGrid (digit e) 1 (tail e))
    (rest : Walk (head e) es close) (away : digit e ≢ opposite d) (proper : Proper (digit e) es) (odd : end_digit (digit e) es % 2 ≡ 1) where
  on : d ≡ digit e → by_turns (is_even d) c (turns d (e ∷ es)) close ≡ true
  unfolding head
  on s =
      let more : OnGrid d (suc k) c = on_grid_more d k c r (subst₂ (λ x y. OnGrid x 1 y) (sym s) here room) in
      let next : move (digit e) (tail e) ≡ far d (suc k) c = ap₂ move (sym s) here ∙ far-step d k c more in
      rw (turns_on d e es s) (ih d (suc k) c close h (omega arith) more (rw next at rest) (rw (← s) at proper) (rw (← s) at odd))

  off : d ≢ digit e → by_turns (is_even d) c (turns d (e ∷ es)) close ≡ true
  unfolding by_turns head
  off m =
      let next : far (digit e) 1 (tail e) ≡ move (digit e) (tail e) = far_one (digit e) (tail e) room in
      let x : is_even (digit e) ≡ not (is_even d) = turn_axis d (digit e) h (digit-below e) m away in
      rw (turns-turn d e es m, here) (rw (far-along d k c h pos r, by_turns) (rw (← x, ← here)
      (ih (digit e) 1 (tail e) close (digit-below e) (omega arith) room (rw next rest) proper odd)))

walk_turning : (es : List ℕ) → Goal es
unfolding Walk Proper turns by_turns end_digit
walk_turning [] d k c close h pos r w p odd =
    let a : along (is_even d) c close ≡ true = rw w at (far-along d k c h pos r) in
    both_and (not (is_even d)) (along (is_even d) c close) (ap not (even_not d odd)) a
walk_turning (e ∷ es) d k c close h pos r w p odd = pick (walk_turning es) (ℕ_discrete d (digit e))
  where
    pick : Goal es → Dec (d ≡ digit e) → by_turns (is_even d) c (turns d (e ∷ es)) close ≡ true
    pick ih (yes s) = on e es ih d k c close h pos r w.0 w.1 w.2 p.0 p.2 odd s
    pick ih (no n) = off e es ih d k c close h pos r w.0 w.1 w.2 p.0 p.2 odd n

-- The first corner met after k units eastward lies east.
far_east : (k c : ℕ) → 0 < k → OnGrid 0 k c → x_of c < x_of (far 0 k c)
unfolding far OnGrid x_of
far_east k c pos r = omega arith

first-turn : (es : List ℕ) (k c close : ℕ) → 0 < k → OnGrid 0 k c → Walk (far 0 k c) es close → end_digit 0 es % 2 ≡ 1 → x_of c < x_of (slice_index (turns 0 es) 0)
unfolding Walk end_digit head
first-turn [] k c close pos r w odd = absurd (omega arith)
first-turn (e ∷ es) k c close pos r w odd = pick (first-turn es (suc k) c close (omega arith)) (ℕ_discrete 0 (digit e))
  where
    pick : (OnGrid 0 (suc k) c → Walk (far 0 (suc k) c) es close → end_digit 0 es % 2 ≡ 1 → x_of c < x_of (slice_index (turns 0 es) 0))
        → Dec (0 ≡ digit e) → x_of c < x_of (slice_index (turns 0 (e ∷ es)) 0)
    pick ih (yes s) =
        let more : OnGrid 0 (suc k) c = on_grid_more 0 k c r (subst₂ (λ x y. OnGrid x 1 y) (sym s) w.0 w.1) in
        let next : move (digit e) (tail e) ≡ far 0 (suc k) c = ap₂ move (sym s) w.0 ∙ far-step 0 k c more in
        rw (turns_on 0 e es s) (ih more (rw next at w.2) (rw (← s) at odd))
    pick ih (no m) = rw (turns-turn 0 e es m, w.0) (far_east k c pos r)

-- As many corners as steps by turns: an even number, and more than two.
turns_parity : (qs : List ℕ) (x : Bool) (p first : ℕ) → by_turns x p qs first ≡ true → is_even (length qs) ≡ not x
unfolding by_turns
turns_parity [] x p first h = zero_even ∙ sym (and_both (not x) (along x p first) h).0
turns_parity (q ∷ qs) x p first h =
    let t = then_both (along x p q) (by_turns (not x) q qs first) h in
    let e : suc (length qs) ≡ length qs + 1 = omega arith in
    ap is_even e ∙ even_next (length qs) ∙ ap not (turns_parity qs (not x) q first t.1) ∙ not-not (not x)

even_says : (n : ℕ) → is_even n ≡ true → n % 2 ≡ 0
unfolding is_even
even_says n h = eqb-true (n % 2) 0 h

not_two : (c q : ℕ) → by_turns true c (q ∷ []) c ≢ true
unfolding by_turns
not_two c q h =
    let t = then_both (along true c q) (along false q c) h in
    (along_x_says c q t.0).moves (sym (along_y_says q c t.1).same_column)

more_than_two : (cs : List ℕ) (c : ℕ) → by_turns true c cs c ≡ true → (length (c ∷ cs) % 2 ≡ 0) × (4 ≤ length (c ∷ cs))
more_than_two cs c h = (even, enough cs h even)
  where
    even : suc (length cs) % 2 ≡ 0
    even =
        let e : suc (length cs) ≡ length cs + 1 = omega arith in
        even_says (suc (length cs)) (ap is_even e ∙ even_next (length cs) ∙ ap not (turns_parity cs true c c h))

    enough : (cs : List ℕ) → by_turns true c cs c ≡ true → suc (length cs) % 2 ≡ 0 → 4 ≤ suc (length cs)
    enough [] h e = absurd (omega arith)
    enough (q ∷ []) h e = absurd (not_two c q h)
    enough (q ∷ s ∷ []) h e = absurd (omega arith)
    enough (q ∷ s ∷ t ∷ cs) h e = omega arith

-- First eastward, last along y.
east_turn : (c : ℕ) (cs : List ℕ) → 2 ≤ length (c ∷ cs) → x_of c < x_of (slice_index cs 0) → eastward (c ∷ cs) ≡ true
unfolding eastward
east_turn c [] h l = absurd (omega arith)
east_turn c (d ∷ cs) h l = lt-ltb (x_of c) (x_of d) l

pub corners_form : (e : ℕ) (es : List ℕ) → Walk (tail e) (e ∷ es) (tail e) → Proper (digit (last_of e es)) (e ∷ es) → digit e ≡ 0 → digit (last_of e es) % 2 ≡ 1
    → length (corners (e ∷ es)) ≤ 262144 → cycle_form (corners (e ∷ es)) ≡ true
unfolding corners Walk Proper steps head
corners_form e es w p z o most =
    let c = tail e in
    let cs = turns 0 es in
    let r : OnGrid 0 1 c = rw z at w.1 in
    let on : Walk (far 0 1 c) es c = rw (far_one 0 c r) (rw z at w.2) in
    let same : turns (digit (last_of e es)) (e ∷ es) ≡ c ∷ cs = turns-turn (digit (last_of e es)) e es (λ q. absurd (omega arith)) ∙ ap (λ d. c ∷ turns d es) z in
    let odd : end_digit 0 es % 2 ≡ 1 = rw z at (ap (λ d. d % 2) (end_last e es) ∙ o) in
    let turning : by_turns true c cs c ≡ true = rw zero_even at (walk_turning es 0 1 c c (omega arith) (omega arith) r on (rw z at p.2) odd) in
    let few = more_than_two cs c turning in
    rw same (from_parts (c ∷ cs) (record {
      even = few.0;
      least = few.1;
      most = rw same at most;
      within = rw same at (turns-inside (e ∷ es) (digit (last_of e es)) p);
      east = east_turn c cs (omega arith) (first-turn es 1 c c (omega arith) r on odd);
      turning = turning;
    }))
