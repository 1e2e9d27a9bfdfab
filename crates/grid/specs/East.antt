-- Every cycle has an eastward edge: without one, a weight would fall at each step and yet come back.
use Rattle.std.specs.Prelude.{◌≡◌, refl, ◌≢◌, ◌⊎◌}
use Rattle.std.proofs.Common.{sym, ◌∙◌, subst, inl, inr, eq-or-lt_of_le, not-suc-le-zero}
use Rattle.std.proofs.Math.Path.{ap}
use Prim.Native.Nat.{ℕ, zero, suc, ◌+◌, ◌-◌, ◌*◌, ◌/◌, ◌%◌, ◌≤◌, ◌<◌}
use Rattle.std.proofs.Math.Decide.{ℕ_discrete}
use native.Mathlib.Omega.{arith}
use Rattle.lattice.specs.Directions.{x_of, y_of, move, opposite, tail, digit, head}
use Rattle.orbits.specs.Orbits.{iter, Returns, stays}
use Rattle.orbits.specs.Pigeon.{Least, None, search_below}
use Rattle.grid.specs.Map.{around}
use Rattle.grid.specs.Margins.{Margin}
use Rattle.grid.specs.Steps.{Side, Edge, step}
use Rattle.grid.specs.Cycles.{edge_limit}
use Rattle.grid.specs.Undoing.{back, fits, no_digit, digit-below_four, arrived, after, step-tail, step-digit, step-edge, back_step}

-- Westward x falls; between two westward edges y falls or grows all the way.
height : ℕ → ℕ → ℕ
height zero y = 0
height (suc zero) y = 1 + y
height (suc (suc zero)) y = 0
height (suc (suc (suc d))) y = 600 - y

weight : ℕ → ℕ → ℕ
weight p d = 1024 * (p % 512) + height d (p / 512)

height_below : (d y : ℕ) → y ≤ 256 → height d y < 1024
unfolding height
height_below zero y h = omega arith
height_below (suc zero) y h = omega arith
height_below (suc (suc zero)) y h = omega arith
height_below (suc (suc (suc d))) y h = omega arith

module _ (m : ℕ → ℕ → ℕ) (margin : Margin m) (r : ℕ) (pos : 0 < r) where
  falls : (p d o : ℕ) → Side m r p d → d ≢ 0 → o ≢ 0 → o < 4 → o ≢ opposite d → weight (move d p) o < weight p d
  unfolding around x_of y_of move weight height opposite
  falls p zero o s a b l n = absurd (a refl)
  falls p (suc zero) zero s a b l n = absurd (b refl)
  falls p (suc zero) (suc zero) s a b l n = let f = fits m margin r (suc (p % 512)) (p / 512) pos s.on_right in omega arith
  falls p (suc zero) (suc (suc zero)) s a b l n = let f = fits m margin r (suc (p % 512)) (p / 512) pos s.on_right in omega arith
  falls p (suc zero) (suc (suc (suc zero))) s a b l n = absurd (n refl)
  falls p (suc zero) (suc (suc (suc (suc o)))) s a b l n = no_digit o l
  falls p (suc (suc zero)) o s a b l n =
      let f = fits m margin r (p % 512) (p / 512) pos s.on_right in omega (arith, height_below o ((p - 1) / 512) (omega arith))
  falls p (suc (suc (suc zero))) zero s a b l n = absurd (b refl)
  falls p (suc (suc (suc zero))) (suc zero) s a b l n = absurd (n refl)
  falls p (suc (suc (suc zero))) (suc (suc zero)) s a b l n =
      let f = fits m margin r (p % 512) (suc (p / 512)) pos s.on_right in omega arith
  falls p (suc (suc (suc zero))) (suc (suc (suc o))) s a b l n =
      let f = fits m margin r (p % 512) (suc (p / 512)) pos s.on_right in omega arith
  falls p (suc (suc (suc (suc d)))) o s a b l n = no_digit d s.digit-below

  -- Coordinates of a side's tail.
  pub tail_within : (p d : ℕ) → Side m r p d → (p % 512 ≤ 256) × (p / 512 ≤ 256)
  unfolding around x_of y_of
  tail_within p zero s = let f = fits m margin r (suc (p % 512)) (suc (p / 512)) pos s.on_right in omega arith
  tail_within p (suc zero) s = let f = fits m margin r (suc (p % 512)) (p / 512) pos s.on_right in omega arith
  tail_within p (suc (suc zero)) s = let f = fits m margin r (p % 512) (p / 512) pos s.on_right in omega arith
  tail_within p (suc (suc (suc d))) s = let f = fits m margin r (p % 512) (suc (p / 512)) pos s.on_right in omega arith

module _ (m : ℕ → ℕ → ℕ) (margin : Margin m) (r : ℕ) where
  -- A step never turns back.
  pub no_reverse : (e : ℕ) → Edge m r e → digit (step m e) ≢ opposite (digit e)
  no_reverse e h c =
      (arrived m margin r e h).on_left
      (subst (λ o. around m (head e) o ≡ r) (sym (step-digit m margin r e h) ∙ c) (after m margin r e h).goes.on_right)

  pub edge_within : (e : ℕ) → Edge m r e → (x_of (tail e) ≤ 256) × (y_of (tail e) ≤ 256)
  unfolding x_of y_of
  edge_within e h = tail_within m margin r h.a_region (tail e) (digit e) h.side

  pub edge_bound : (e : ℕ) → Edge m r e → e < edge_limit
  unfolding x_of y_of tail
  edge_bound e h = omega (arith, edge_within e h)

  falls_step : (e : ℕ) → Edge m r e → digit e ≢ 0 → digit (step m e) ≢ 0 → weight (tail (step m e)) (digit (step m e)) < weight (tail e) (digit e)
  unfolding head
  falls_step e h a b =
      rw (step-tail m margin r e h)
      (falls m margin r h.a_region (tail e) (digit e) (digit (step m e)) h.side a b (digit-below_four (step m e)) (no_reverse e h))

  module _ (e : ℕ) (h : Edge m r e) where
    pub iterate_edge : (i : ℕ) → Edge m r (iter (step m) i e)
    iterate_edge i = stays (step m) (back m) (Edge m r) edge_limit edge_bound (λ x h. step-edge m margin r x h) (λ x h. back_step m margin r x h) i e h

    lower : (k : ℕ) → ((i : ℕ) → i ≤ suc k → digit (iter (step m) i e) ≢ 0)
        → weight (tail (iter (step m) (suc k) e)) (digit (iter (step m) (suc k) e)) < weight (tail e) (digit e)
    unfolding iter
    lower zero none = falls_step e h (none 0 (omega arith)) (none 1 (omega arith))
    lower (suc k) none =
        omega (
          arith,
          lower k (λ i l. none i (omega arith)),
          falls_step (iter (step m) (suc k) e) (iterate_edge (suc k)) (none (suc k) (omega arith)) (none (suc (suc k)) (omega arith)),
        )

    -- An eastward edge stands before the first return.
    pub has_east : (k : ℕ) → Returns (step m) e k → (i : ℕ) × (i < k) × (digit (iter (step m) i e) ≡ 0)
    unfolding iter
    has_east zero t = absurd (not-suc-le-zero t.positive)
    has_east (suc k) t =
        pick (search_below (λ i. digit (iter (step m) i e) ≡ 0) (λ i. ℕ_discrete (digit (iter (step m) i e)) 0) (suc k))
      where
        all : None (λ i. digit (iter (step m) i e) ≡ 0) (suc k) → (i : ℕ) → (i ≡ suc k) ⊎ (i < suc k) → digit (iter (step m) i e) ≢ 0
        all n i (inl c) z = n 0 (omega arith) (ap digit (sym t.back ∙ ap (λ x. iter (step m) x e) (sym c)) ∙ z)
        all n i (inr c) z = n i c z

        pick : Least (λ i. digit (iter (step m) i e) ≡ 0) (suc k) ⊎ None (λ i. digit (iter (step m) i e) ≡ 0) (suc k)
            → (i : ℕ) × (i < suc k) × (digit (iter (step m) i e) ≡ 0)
        pick (inl w) = (w.i, w.below, w.holds)
        pick (inr n) =
            let l : weight (tail (iter (step m) (suc k) e)) (digit (iter (step m) (suc k) e)) < weight (tail e) (digit e) =
            lower k (λ i h. all n i (eq-or-lt_of_le h)) in
            let z : ⊥ = omega (arith, subst (λ x. weight (tail x) (digit x) < weight (tail e) (digit e)) t.back l) in absurd z
