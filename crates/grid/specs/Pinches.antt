-- Where an outline meets itself: the rule of steps turns right there.
use Rattle.std.specs.Prelude.{◌≡◌, ◌≢◌}
use Rattle.std.proofs.Math.Path.{refl, ap₂}
use Rattle.std.proofs.Common.{sym, ◌∙◌, subst}
use Prim.Native.Nat.{ℕ, zero, suc, ◌<◌}
use native.Mathlib.Omega.{arith}
use Rattle.lattice.specs.Directions.{move, right_of, left_of, opposite, tail, digit, head}
use Rattle.grid.specs.Map.{around}
use Rattle.grid.specs.Margins.{Margin}
use Rattle.grid.specs.Steps.{Edge, step}
use Rattle.grid.specs.Undoing.{Arrived, Quarter, quarter, move-back, go_right, no_digit, arrived, step-digit}

module _ (m : ℕ → ℕ → ℕ) (margin : Margin m) (r : ℕ) where
  -- Two directions, as seen from one of them.
  turns_to : (P : ℕ → Type 0) (d o : ℕ) → d < 4 → o < 4 → d ≢ o → P (right_of d) → P (left_of d) → P (opposite d) → P o
  unfolding right_of left_of opposite
  turns_to P zero zero h k n a b c = absurd (n refl)
  turns_to P zero (suc zero) h k n a b c = b
  turns_to P zero (suc (suc zero)) h k n a b c = c
  turns_to P zero (suc (suc (suc zero))) h k n a b c = a
  turns_to P (suc zero) zero h k n a b c = a
  turns_to P (suc zero) (suc zero) h k n a b c = absurd (n refl)
  turns_to P (suc zero) (suc (suc zero)) h k n a b c = b
  turns_to P (suc zero) (suc (suc (suc zero))) h k n a b c = c
  turns_to P (suc (suc zero)) zero h k n a b c = c
  turns_to P (suc (suc zero)) (suc zero) h k n a b c = a
  turns_to P (suc (suc zero)) (suc (suc zero)) h k n a b c = absurd (n refl)
  turns_to P (suc (suc zero)) (suc (suc (suc zero))) h k n a b c = b
  turns_to P (suc (suc (suc zero))) zero h k n a b c = b
  turns_to P (suc (suc (suc zero))) (suc zero) h k n a b c = c
  turns_to P (suc (suc (suc zero))) (suc (suc zero)) h k n a b c = a
  turns_to P (suc (suc (suc zero))) (suc (suc (suc zero))) h k n a b c = absurd (n refl)
  turns_to P (suc (suc (suc (suc d)))) o h k n a b c = no_digit d h
  turns_to P zero (suc (suc (suc (suc o)))) h k n a b c = no_digit o k
  turns_to P (suc zero) (suc (suc (suc (suc o)))) h k n a b c = no_digit o k
  turns_to P (suc (suc zero)) (suc (suc (suc (suc o)))) h k n a b c = no_digit o k
  turns_to P (suc (suc (suc zero))) (suc (suc (suc (suc o)))) h k n a b c = no_digit o k

  opposite_left : (d : ℕ) → d < 4 → opposite (opposite d) ≡ d
  unfolding opposite
  opposite_left zero h = refl
  opposite_left (suc zero) h = refl
  opposite_left (suc (suc zero)) h = refl
  opposite_left (suc (suc (suc zero))) h = refl
  opposite_left (suc (suc (suc (suc d)))) h = no_digit d h

  -- Two edges of a region that end in one point with two directions: the next edge turns right.
  meet : (p d o : ℕ) → d ≢ o → Arrived m r p d → Arrived m r p o → around m p d ≢ r
  meet p d o n a b =
      let q : Quarter d = quarter d a.digit-below in
      turns_to (λ x. Arrived m r p x → around m p d ≢ r) d o a.digit-below b.digit-below n
      (λ c. absurd (a.on_left (subst (λ x. around m p x ≡ r) q.right_of_right c.on_right)))
      (λ c. absurd (c.on_left (subst (λ x. around m p x ≡ r) (sym q.opposite_of_left) a.on_right)))
      (λ c. subst (λ x. around m p x ≢ r) (opposite_left d a.digit-below) c.on_left) b

  edge_by_parts : (e f : ℕ) → tail e ≡ tail f → digit e ≡ digit f → e ≡ f
  unfolding tail digit
  edge_by_parts e f a b = omega arith

  same_edge : (e f : ℕ) → Edge m r e → Edge m r f → head e ≡ head f → digit e ≡ digit f → e ≡ f
  unfolding head
  same_edge e f h k a b =
      edge_by_parts e f
      (sym (move-back m margin r (tail e) (digit e) h.a_region h.side)
      ∙ ap₂ (λ x y. move (opposite x) y) b a
      ∙ move-back m margin r (tail f) (digit f) k.a_region k.side)
      b

  -- An outline that meets itself at a point turns right there.
  pub meeting_turns_right : (e f : ℕ) → Edge m r e → Edge m r f → e ≢ f → head e ≡ head f → digit (step m e) ≡ right_of (digit e)
  meeting_turns_right e f h k n a =
      let d : digit e ≢ digit f = λ b. n (same_edge e f h k a b) in
      let b : Arrived m r (head e) (digit f) = subst (λ p. Arrived m r p (digit f)) (sym a) (arrived m margin r f k) in
      step-digit m margin r e h ∙ go_right m r (head e) (digit e) (meet (head e) (digit e) (digit f) d (arrived m margin r e h) b)
