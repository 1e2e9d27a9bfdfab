-- The corners of the walk around a cycle form are the corners of the form.
use Rattle.std.specs.Prelude.{◌≡◌, ℕ, zero, suc, ◌%◌, ◌<◌, Bool, true, false, cond, not, ◌≢◌, List, [], ◌∷◌, ◌++◌, length, refl}
use Rattle.std.proofs.Common.{sym, ap, ◌∙◌, append-nil, arith, length-append}
use Rattle.sequences.specs.Cases.{and_both, then_both, not_flips}
use Rattle.lattice.specs.Directions.{point, x_of, y_of, move, edge, tail, digit}
use Rattle.lattice.specs.Walks.{run, straight, walk_from, outline, turns, last_of, corners}
use Rattle.lattice.specs.Corners.{turns_on, turns-turn}
use Rattle.lattice.specs.CycleForm.{inside, all_inside, along, by_turns, steps, cycle_form, parts}
use Rattle.lattice.specs.Legs.{heading, distance, Leg, leg, straight_is}

-- A point and an edge as one number, read back.
pub x_of_point : (x y : ℕ) → x < 512 → x_of (point x y) ≡ x
unfolding x_of point
x_of_point x y h = omega arith

pub y_of_point : (x y : ℕ) → x < 512 → y_of (point x y) ≡ y
unfolding y_of point
y_of_point x y h = omega arith

pub tail-edge : (p d : ℕ) → d < 4 → tail (edge p d) ≡ p
unfolding tail edge
tail-edge p d h = omega arith

pub digit-edge : (p d : ℕ) → d < 4 → digit (edge p d) ≡ d
unfolding digit edge
digit-edge p d h = omega arith

-- No corner within a run; one where it begins with another digit.
turns_run_on : (d k p : ℕ) (es : List ℕ) → d < 4 → turns d (run d k p ++ es) ≡ turns d es
unfolding run
turns_run_on d zero p es h = refl
turns_run_on d (suc k) p es h = turns_on d (edge p d) (run d k (move d p) ++ es) (sym (digit-edge p d h)) ∙ turns_run_on d k (move d p) es h

turns-run : (before d k p : ℕ) (es : List ℕ) → d < 4 → before ≢ d → 0 < k → turns before (run d k p ++ es) ≡ p ∷ turns d es
unfolding run
turns-run before d zero p es h n pos = absurd (omega arith)
turns-run before d (suc k) p es h n pos =
    turns-turn before (edge p d) (run d k (move d p) ++ es) (λ e. n (e ∙ digit-edge p d h))
    ∙ ap (λ x. x ∷ turns (digit (edge p d)) (run d k (move d p) ++ es)) (tail-edge p d h)
    ∙ ap (λ x. p ∷ turns x (run d k (move d p) ++ es)) (digit-edge p d h)
    ∙ ap (λ t. p ∷ t) (turns_run_on d k (move d p) es h)

pub last_append : (e : ℕ) (xs ys : List ℕ) → last_of e (xs ++ ys) ≡ last_of (last_of e xs) ys
unfolding last_of
last_append e [] ys = refl
last_append e (x ∷ xs) ys = last_append x xs ys

last_run : (e d k p : ℕ) → d < 4 → 0 < k → digit (last_of e (run d k p)) ≡ d
unfolding run last_of
last_run e d zero p h pos = absurd (omega arith)
last_run e d (suc zero) p h pos = digit-edge p d h
last_run e d (suc (suc k)) p h pos = last_run (edge p d) d (suc k) (move d p) h (omega arith)

pub length_run : (d k p : ℕ) → length (run d k p) ≡ k
unfolding run
length_run d zero p = refl
length_run d (suc k) p = ap suc (length_run d k (move d p))

abbrev pub Axis : Bool → ℕ → Type 0
Axis x d = d % 2 ≡ cond x 1 0

-- The digit before the step at p goes along the other axis.
pub crossing : (x : Bool) (d p q : ℕ) → Axis x d → Leg x p q → d ≢ heading p q
crossing true d p q a g e = omega (arith, g.axis)
crossing false d p q a g e = omega (arith, g.axis)

pub next_axis : (x : Bool) (p q : ℕ) → Leg x p q → Axis (not x) (heading p q)
next_axis true p q g = g.axis
next_axis false p q g = g.axis

turns_leg : (x : Bool) (d p q : ℕ) (es : List ℕ) → Axis x d → Leg x p q → turns d (straight p q ++ es) ≡ p ∷ turns (heading p q) es
turns_leg x d p q es a g =
    ap (λ t. turns d (t ++ es)) (straight_is p q) ∙ turns-run d (heading p q) (distance p q) p es g.digit-below (crossing x d p q a g) g.positive

last_leg : (x : Bool) (e p q : ℕ) → Leg x p q → digit (last_of e (straight p q)) ≡ heading p q
last_leg x e p q g = ap (λ t. digit (last_of e t)) (straight_is p q) ∙ last_run e (heading p q) (distance p q) p g.digit-below g.positive

-- What a list of corners by turns says of its first step.
pub record First (x : Bool) (p q : ℕ) (qs : List ℕ) (first : ℕ) : Type 0 where
  pub step : Leg x p q
  pub there : inside q ≡ true
  pub others : all_inside qs ≡ true
  pub onward : by_turns (not x) q qs first ≡ true

pub first_step : (x : Bool) (p q : ℕ) (qs : List ℕ) (first : ℕ) → inside p ≡ true → all_inside (q ∷ qs) ≡ true → by_turns x p (q ∷ qs) first ≡ true → First x p q qs first
unfolding all_inside by_turns
first_step x p q qs first hp hs h =
    let i = then_both (inside q) (all_inside qs) hs in
    let b = then_both (along x p q) (by_turns (not x) q qs first) h in
    record { step = leg x p q b.0; there = i.0; others = i.1; onward = b.1 }

-- The closing step goes along y.
pub last_step : (x : Bool) (p first : ℕ) → inside p ≡ true → inside first ≡ true → by_turns x p [] first ≡ true → (x ≡ false) × Leg x p first
unfolding by_turns
last_step x p first hp hf h =
    let b = and_both (not x) (along x p first) h in
    (not_flips x b.0, leg x p first b.1)

pub turns_of_walk : (qs : List ℕ) (x : Bool) (d p first : ℕ) → Axis x d → inside p ≡ true → inside first ≡ true → all_inside qs ≡ true → by_turns x p qs first ≡ true
    → turns d (walk_from p qs first) ≡ p ∷ qs
unfolding walk_from turns
turns_of_walk [] x d p first a hp hf hs h =
    ap (turns d) (sym (append-nil (straight p first))) ∙ turns_leg x d p first [] a (last_step x p first hp hf h).1
turns_of_walk (q ∷ qs) x d p first a hp hf hs h =
    let f = first_step x p q qs first hp hs h in
    turns_leg x d p q (walk_from q qs first) a f.step
    ∙ ap (λ t. p ∷ t) (turns_of_walk qs (not x) (heading p q) q first (next_axis x p q f.step) f.there hf f.others f.onward)

pub last_of_walk : (qs : List ℕ) (x : Bool) (e p first : ℕ) → inside p ≡ true → inside first ≡ true → all_inside qs ≡ true → by_turns x p qs first ≡ true
    → digit (last_of e (walk_from p qs first)) % 2 ≡ 1
unfolding walk_from
last_of_walk [] x e p first hp hf hs h =
    let l = last_step x p first hp hf h in
    ap (λ d. d % 2) (last_leg x e p first l.1) ∙ l.1.axis ∙ ap (λ (b : Bool). cond b 0 1) l.0
last_of_walk (q ∷ qs) x e p first hp hf hs h =
    let f = first_step x p q qs first hp hs h in
    ap (λ l. digit l % 2) (last_append e (straight p q) (walk_from q qs first))
    ∙ last_of_walk qs (not x) (last_of e (straight p q)) q first f.there hf f.others f.onward

pub corners_are : (e : ℕ) (es : List ℕ) → 0 < length es → corners es ≡ turns (digit (last_of e es)) es
unfolding corners last_of
corners_are e [] h = absurd (omega arith)
corners_are e (x ∷ es) h = refl

some_run : (d k p : ℕ) (es : List ℕ) → 0 < k → 0 < length (run d k p ++ es)
some_run d k p es h = omega (arith, length-append (run d k p) es, length_run d k p)

pub walk_some : (qs : List ℕ) (x : Bool) (p first : ℕ) → inside p ≡ true → inside first ≡ true → all_inside qs ≡ true → by_turns x p qs first ≡ true → 0 < length (walk_from p qs first)
unfolding walk_from
walk_some [] x p first hp hf hs h =
    let g = (last_step x p first hp hf h).1 in
    rw (straight_is p first, length_run) g.positive
walk_some (q ∷ qs) x p first hp hf hs h =
    let f = first_step x p q qs first hp hs h in
    rw (straight_is p q) (some_run (heading p q) (distance p q) p (walk_from q qs first) f.step.positive)

-- A cycle form, by its first corner.
pub record Round (c : ℕ) (cs : List ℕ) : Type 0 where
  pub here : inside c ≡ true
  pub others : all_inside cs ≡ true
  pub turning : by_turns true c cs c ≡ true

pub round : (c : ℕ) (cs : List ℕ) → cycle_form (c ∷ cs) ≡ true → Round c cs
unfolding all_inside steps
round c cs h =
    let p = parts (c ∷ cs) h in
    let i = then_both (inside c) (all_inside cs) p.within in
    record { here = i.0; others = i.1; turning = p.turning }

-- A cycle form walked straight from corner to corner has the corners of the form.
pub corners_of_outline : (cs : List ℕ) → cycle_form cs ≡ true → corners (outline cs) ≡ cs
unfolding outline
corners_of_outline [] h = absurd (omega (arith, (parts [] h).least))
corners_of_outline (c ∷ cs) h =
    let r = round c cs h in
    corners_are 0 (walk_from c cs c) (walk_some cs true c c r.here r.here r.others r.turning)
    ∙ turns_of_walk cs true (digit (last_of 0 (walk_from c cs c))) c c (last_of_walk cs true 0 c c r.here r.here r.others r.turning)
    r.here r.here r.others r.turning
