-- Every edge comes again: the rule of steps is a bijection on the edges of a region, and two cycles are equal or apart.
use Rattle.std.specs.Prelude.{◌≡◌, ◌⊎◌, ◌↔◌, List, ℕ, zero, suc, ◌≤◌, ◌<◌, length, get_or}
use Rattle.std.proofs.Common.{sym, ap, ◌∙◌, subst, inl, inr, not-suc-le-zero, arith}
use Rattle.orbits.specs.Members.{In, Distinct}
use Rattle.orbits.specs.Orbits.{iter, walk, length-walk, walk_at, On, Returns, first_return, distinct, on_list, orbit-walk, on_trans, on_sym, equal_or_apart}
use Rattle.grid.specs.Margins.{Margin}
use Rattle.grid.specs.Steps.{Edge, step}
use Rattle.grid.specs.Cycles.{edge_limit, cycle_from}
use Rattle.grid.specs.Undoing.{back, step-edge, back_step}
use Rattle.grid.specs.East.{edge_bound, iterate_edge}

-- The cycle through the edge e of the region r, as a list.
pub record Ring (m : ℕ → ℕ → ℕ) (r e : ℕ) : Type 0 where
  pub size : ℕ
  pub few : size ≤ edge_limit
  pub returns : Returns (step m) e size
  pub long : length (cycle_from m e) ≡ size
  pub walked : cycle_from m e ≡ walk (step m) size e
  pub at : (i : ℕ) → i < size → get_or (cycle_from m e) i 0 ≡ iter (step m) i e
  pub edges : (a : ℕ) → In a (cycle_from m e) → Edge m r a
  pub holds : (a : ℕ) → On (step m) e a ↔ In a (cycle_from m e)
  pub once : Distinct (cycle_from m e)

module _ (m : ℕ → ℕ → ℕ) (margin : Margin m) (r : ℕ) where
  closed : (e : ℕ) → Edge m r e → Edge m r (step m e)
  closed e h = step-edge m margin r e h

  undo : (e : ℕ) → Edge m r e → back m (step m e) ≡ e
  undo e h = back_step m margin r e h

  bound : (e : ℕ) → Edge m r e → e < edge_limit
  bound e h = edge_bound m margin r e h

  -- Every edge comes again.
  pub edge_returns : (e : ℕ) → Edge m r e → (k : ℕ) × (k ≤ edge_limit) × Returns (step m) e k
  edge_returns e h = first_return (step m) (back m) (Edge m r) edge_limit bound closed undo e h

  cycle-walk : (e k : ℕ) → Edge m r e → Returns (step m) e k → k ≤ edge_limit → cycle_from m e ≡ walk (step m) k e
  unfolding cycle_from
  cycle-walk e k h t l = orbit-walk (step m) (back m) (Edge m r) edge_limit bound closed undo e k h t edge_limit l

  pub ring : (e : ℕ) → Edge m r e → Ring m r e
  ring e h = from (edge_returns e h)
    where
      from : (k : ℕ) × (k ≤ edge_limit) × Returns (step m) e k → Ring m r e
      from (k, l, t) =
          let w : cycle_from m e ≡ walk (step m) k e = cycle-walk e k h t l in
          let n : length (cycle_from m e) ≡ k = ap length w ∙ length-walk (step m) k e in
          let at : (i : ℕ) → i < k → get_or (cycle_from m e) i 0 ≡ iter (step m) i e = λ i g. ap (λ (z : List ℕ). get_or z i 0) w ∙ walk_at (step m) k e i g in
          let o : (a : ℕ) → On (step m) e a ↔ ((i : ℕ) × (i < k) × (get_or (walk (step m) k e) i 0 ≡ a)) = on_list (step m) (back m) (Edge m r) edge_limit bound closed undo e k h t in
          record {
            size = k;
            few = l;
            returns = t;
            long = n;
            walked = w;
            at = at;
            edges = λ a x. subst (Edge m r) (sym (at x.0 (omega (arith, x.1))) ∙ x.2) (iterate_edge m margin r e h x.0);
            holds = λ a. (
              λ x. let y : (i : ℕ) × (i < k) × (get_or (walk (step m) k e) i 0 ≡ a) = (o a).0 x in
                  (y.0, omega (arith, y.1), ap (λ (z : List ℕ). get_or z y.0 0) w ∙ y.2),
              λ x. (o a).1 (x.0, omega (arith, x.1), sym (ap (λ (z : List ℕ). get_or z x.0 0) w) ∙ x.2),
            );
            once = λ i j a b c. distinct (step m) (back m) (Edge m r) edge_limit bound closed undo e k h t i j a (omega arith)
                (sym (at i (omega arith)) ∙ c ∙ at j (omega arith));
          }

  -- The rule of steps is a bijection on the edges of the region: `back` is its inverse on both sides.
  before : (e : ℕ) → Edge m r e → (a : ℕ) × Edge m r a × (step m a ≡ e)
  unfolding iter
  before e h = from (edge_returns e h)
    where
      from : (k : ℕ) × (k ≤ edge_limit) × Returns (step m) e k → (a : ℕ) × Edge m r a × (step m a ≡ e)
      from (zero, l, t) = absurd (not-suc-le-zero t.positive)
      from (suc k, l, t) = (iter (step m) k e, iterate_edge m margin r e h k, t.back)

  pub back-edge : (e : ℕ) → Edge m r e → Edge m r (back m e)
  back-edge e h = let b = before e h in subst (Edge m r) (sym (ap (back m) (sym b.2) ∙ undo b.0 b.1)) b.1

  pub step_back : (e : ℕ) → Edge m r e → step m (back m e) ≡ e
  step_back e h = let b = before e h in ap (step m) (ap (back m) (sym b.2) ∙ undo b.0 b.1) ∙ b.2

  pub step_injective : (a b : ℕ) → Edge m r a → Edge m r b → step m a ≡ step m b → a ≡ b
  step_injective a b h k e = sym (undo a h) ∙ ap (back m) e ∙ undo b k

  -- What is met from an edge meets it.
  pub met_back : (a b : ℕ) → Edge m r a → On (step m) a b → On (step m) b a
  met_back a b h o = on_sym (step m) (back m) (Edge m r) edge_limit bound closed undo a b h o

  pub met_then : (a b c : ℕ) → On (step m) a b → On (step m) b c → On (step m) a c
  met_then a b c o p = on_trans (step m) (back m) (Edge m r) edge_limit bound closed undo a b c o p

  -- "whichever of them is taken first": the cycle through any edge of a cycle has the same edges.
  pub same_cycle : (a b : ℕ) → Edge m r a → In b (cycle_from m a) → (c : ℕ) → In c (cycle_from m a) ↔ In c (cycle_from m b)
  same_cycle a b h k c =
      let p : Ring m r a = ring a h in
      let g : Edge m r b = p.edges b k in
      let q : Ring m r b = ring b g in
      let o : On (step m) a b = (p.holds b).1 k in (
        λ x. (q.holds c).0 (met_then b a c (met_back a b h o) ((p.holds c).1 x)),
        λ x. (p.holds c).0 (met_then a b c o ((q.holds c).1 x)),
      )

  -- Two cycles of a region are equal or have no edge in common.
  pub cycles_equal_or_apart : (a b : ℕ) → Edge m r a → Edge m r b
      → ((c : ℕ) → In c (cycle_from m a) ↔ In c (cycle_from m b)) ⊎ ((c : ℕ) → In c (cycle_from m a) → In c (cycle_from m b) → ⊥)
  cycles_equal_or_apart a b h k = pick (equal_or_apart (step m) (back m) (Edge m r) edge_limit bound closed undo a b h k)
    where
      p : Ring m r a
      p = ring a h

      q : Ring m r b
      q = ring b k

      pick : ((c : ℕ) → On (step m) a c ↔ On (step m) b c) ⊎ ((c : ℕ) → On (step m) a c → On (step m) b c → ⊥)
          → ((c : ℕ) → In c (cycle_from m a) ↔ In c (cycle_from m b)) ⊎ ((c : ℕ) → In c (cycle_from m a) → In c (cycle_from m b) → ⊥)
      pick (inl f) = inl (λ c. (λ x. (q.holds c).0 ((f c).0 ((p.holds c).1 x)), λ x. (p.holds c).0 ((f c).1 ((q.holds c).1 x))))
      pick (inr f) = inr (λ c x y. f c ((p.holds c).1 x) ((q.holds c).1 y))
