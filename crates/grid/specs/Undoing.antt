-- The rule of steps keeps to the edges of a region, and can be undone.
use Rattle.std.specs.Prelude.{◌≡◌, refl, ◌≢◌, true, false, eqb}
use Rattle.std.proofs.Math.Path.{ap}
use Rattle.std.proofs.Common.{◌∙◌, lit<}
use Prim.Native.Nat.{ℕ, zero, suc, ◌+◌, ◌-◌, ◌/◌, ◌%◌, ◌≤◌, ◌<◌}
use Rattle.std.proofs.Math.Decide.{ℕ_discrete}
use native.Mathlib.Omega.{arith}
use borrow.Author.Tests.{eq-eqb, ne_eqb}
use Rattle.lattice.specs.Directions.{x_of, y_of, move, right_of, left_of, opposite, edge, tail, digit, head}
use Rattle.grid.specs.Map.{around}
use Rattle.grid.specs.Margins.{Margin}
use Rattle.grid.specs.Steps.{Side, Edge, turn, step}

-- The direction before d at the point p in the region r, and the edge before e.
unfoldable pub unturn : (ℕ → ℕ → ℕ) → ℕ → ℕ → ℕ → ℕ
unfolding around right_of left_of opposite
unturn m r p d =
    elim (eqb (around m p (right_of d)) r) [
      | false ↦ left_of d
      | true ↦ elim (eqb (around m p (opposite d)) r) [ false ↦ d | true ↦ right_of d ]
    ]

unfoldable pub back : (ℕ → ℕ → ℕ) → ℕ → ℕ
unfolding around move opposite edge tail digit unturn
back m e =
    let d = unturn m (around m (tail e) (digit e)) (tail e) (digit e) in
    edge (move (opposite d) (tail e)) d

-- A side seen from its head h: the region is behind on the right, and not behind on the left.
pub record Arrived (m : ℕ → ℕ → ℕ) (r h d : ℕ) : Type 0 where
  pub digit-below : d < 4
  pub on_right : around m h (right_of d) ≡ r
  pub on_left : around m h (opposite d) ≢ r

pub digit-below_four : (e : ℕ) → digit e < 4
unfolding digit
digit-below_four e = omega arith

pub no_digit : {A : Type 0} (d : ℕ) → suc (suc (suc (suc d))) < 4 → A
no_digit d h = let z : ⊥ = omega arith in absurd z

module _ (m : ℕ → ℕ → ℕ) (margin : Margin m) where
  pub fits : (r X Y : ℕ) → 0 < r → m X Y ≡ r → (0 < X) × (X ≤ 256) × (0 < Y) × (Y ≤ 256)
  fits r X Y h e = margin X Y (omega arith)

  pub forward : (r p d : ℕ) → 0 < r → Side m r p d → Arrived m r (move d p) d
  unfolding around move x_of y_of right_of left_of opposite
  forward r p zero pos s =
      let b = fits r (suc (p % 512)) (suc (p / 512)) pos s.on_right in
      let ex : (p + 1) % 512 ≡ suc (p % 512) = omega arith in
      let ey : (p + 1) / 512 ≡ p / 512 = omega arith in
      record { digit-below = s.digit-below; on_right = rw (ex, ey) s.on_right; on_left = rw (ex, ey) s.on_left }
  forward r p (suc zero) pos s =
      let b = fits r (suc (p % 512)) (p / 512) pos s.on_right in
      let ex : (p - 512) % 512 ≡ p % 512 = omega arith in
      let ey : suc ((p - 512) / 512) ≡ p / 512 = omega arith in
      record { digit-below = s.digit-below; on_right = rw (ex, ey) s.on_right; on_left = rw (ex, ey) s.on_left }
  forward r p (suc (suc zero)) pos s =
      let b = fits r (p % 512) (p / 512) pos s.on_right in
      let ex : suc ((p - 1) % 512) ≡ p % 512 = omega arith in
      let ey : (p - 1) / 512 ≡ p / 512 = omega arith in
      record { digit-below = s.digit-below; on_right = rw (ex, ey) s.on_right; on_left = rw (ex, ey) s.on_left }
  forward r p (suc (suc (suc zero))) pos s =
      let b = fits r (p % 512) (suc (p / 512)) pos s.on_right in
      let ex : (p + 512) % 512 ≡ p % 512 = omega arith in
      let ey : (p + 512) / 512 ≡ suc (p / 512) = omega arith in
      record { digit-below = s.digit-below; on_right = rw (ex, ey) s.on_right; on_left = rw (ex, ey) s.on_left }
  forward r p (suc (suc (suc (suc d)))) pos s = no_digit d s.digit-below

  pub move-back : (r p d : ℕ) → 0 < r → Side m r p d → move (opposite d) (move d p) ≡ p
  unfolding around move x_of y_of opposite
  move-back r p zero pos s = omega arith
  move-back r p (suc zero) pos s = let b = fits r (suc (p % 512)) (p / 512) pos s.on_right in omega arith
  move-back r p (suc (suc zero)) pos s = let b = fits r (p % 512) (p / 512) pos s.on_right in omega arith
  move-back r p (suc (suc (suc zero))) pos s = omega arith
  move-back r p (suc (suc (suc (suc d)))) pos s = no_digit d s.digit-below

-- Turns add up modulo 4.
pub record Quarter (d : ℕ) : Type 0 where
  pub right_below : right_of d < 4
  pub left_below : left_of d < 4
  pub left_of_right : left_of (right_of d) ≡ d
  pub right_of_right : right_of (right_of d) ≡ opposite d
  pub left_of_left : left_of (left_of d) ≡ opposite d
  pub opposite_of_left : opposite (left_of d) ≡ right_of d
  pub right_of_left : right_of (left_of d) ≡ d

pub quarter : (d : ℕ) → d < 4 → Quarter d
unfolding right_of left_of opposite
quarter zero h = record {
  right_below = lit< tt;
  left_below = lit< tt;
  left_of_right = refl;
  right_of_right = refl;
  left_of_left = refl;
  opposite_of_left = refl;
  right_of_left = refl;
}
quarter (suc zero) h = record {
  right_below = lit< tt;
  left_below = lit< tt;
  left_of_right = refl;
  right_of_right = refl;
  left_of_left = refl;
  opposite_of_left = refl;
  right_of_left = refl;
}
quarter (suc (suc zero)) h = record {
  right_below = lit< tt;
  left_below = lit< tt;
  left_of_right = refl;
  right_of_right = refl;
  left_of_left = refl;
  opposite_of_left = refl;
  right_of_left = refl;
}
quarter (suc (suc (suc zero))) h = record {
  right_below = lit< tt;
  left_below = lit< tt;
  left_of_right = refl;
  right_of_right = refl;
  left_of_left = refl;
  opposite_of_left = refl;
  right_of_left = refl;
}
quarter (suc (suc (suc (suc d)))) h = no_digit d h

-- The three cases of the rule at one point, and of undoing it.
module _ (m : ℕ → ℕ → ℕ) (r h : ℕ) where
  pub go_right : (d : ℕ) → around m h d ≢ r → turn m r h d ≡ right_of d
  unfolding turn
  go_right d n = rw (ne_eqb (around m h d) r n, turn)

  pub go_straight : (d : ℕ) → around m h d ≡ r → around m h (left_of d) ≢ r → turn m r h d ≡ d
  unfolding turn
  go_straight d e n = rw (eq-eqb (around m h d) r e, ne_eqb (around m h (left_of d)) r n, turn)

  pub go_left : (d : ℕ) → around m h d ≡ r → around m h (left_of d) ≡ r → turn m r h d ≡ left_of d
  unfolding turn
  go_left d e f = rw (eq-eqb (around m h d) r e, eq-eqb (around m h (left_of d)) r f, turn)

  came_right : (d : ℕ) → around m h (right_of d) ≢ r → unturn m r h d ≡ left_of d
  unfolding unturn
  came_right d n = rw (ne_eqb (around m h (right_of d)) r n, unturn)

  came_straight : (d : ℕ) → around m h (right_of d) ≡ r → around m h (opposite d) ≢ r → unturn m r h d ≡ d
  unfolding unturn
  came_straight d e n = rw (eq-eqb (around m h (right_of d)) r e, ne_eqb (around m h (opposite d)) r n, unturn)

  came_left : (d : ℕ) → around m h (right_of d) ≡ r → around m h (opposite d) ≡ r → unturn m r h d ≡ right_of d
  unfolding unturn
  came_left d e f = rw (eq-eqb (around m h (right_of d)) r e, eq-eqb (around m h (opposite d)) r f, unturn)

  -- What a turn from d to o leads to, and that it is undone.
  pub record Turned (d o : ℕ) : Type 0 where
    pub goes : Side m r h o
    pub undone : unturn m r h o ≡ d

  pub turned : (d : ℕ) → Arrived m r h d → Turned d (turn m r h d)
  turned d s = pick (ℕ_discrete (around m h d) r) (ℕ_discrete (around m h (left_of d)) r)
    where
      q : Quarter d
      q = quarter d s.digit-below

      pick : Dec (around m h d ≡ r) → Dec (around m h (left_of d) ≡ r) → Turned d (turn m r h d)
      pick (no n) b =
          rw (go_right d n) (record {
            goes = record { digit-below = q.right_below; on_right = s.on_right; on_left = rw q.left_of_right n };
            undone = came_right (right_of d) (rw q.right_of_right s.on_left) ∙ q.left_of_right;
          })
      pick (yes a) (no n) =
          rw (go_straight d a n) (record {
            goes = record { digit-below = s.digit-below; on_right = a; on_left = n };
            undone = came_straight d s.on_right s.on_left;
          })
      pick (yes a) (yes b) =
          rw (go_left d a b) (record {
            goes = record { digit-below = q.left_below; on_right = b; on_left = rw q.left_of_left s.on_left };
            undone = came_left (left_of d) (rw q.right_of_left a) (rw q.opposite_of_left s.on_right) ∙ q.right_of_left;
          })

-- The step on edges.
module _ (m : ℕ → ℕ → ℕ) (margin : Margin m) (r e : ℕ) (here : Edge m r e) where
  pub arrived : Arrived m r (head e) (digit e)
  unfolding head
  arrived = forward m margin r (tail e) (digit e) here.a_region here.side

  pub after : Turned m r (head e) (digit e) (turn m r (head e) (digit e))
  after = turned m r (head e) (digit e) arrived

  pub step_is : step m e ≡ edge (head e) (turn m r (head e) (digit e))
  unfolding step
  step_is = ap (λ z. edge (head e) (turn m z (head e) (digit e))) here.side.on_right

  pub step-tail : tail (step m e) ≡ head e
  unfolding tail edge
  step-tail = let l = after.goes.digit-below in let s = step_is in omega arith

  pub step-digit : digit (step m e) ≡ turn m r (head e) (digit e)
  unfolding digit edge
  step-digit = let l = after.goes.digit-below in let s = step_is in omega arith

  -- The rule of steps keeps to the region's edges.
  pub step-edge : Edge m r (step m e)
  step-edge = record { a_region = here.a_region; side = rw (step-tail, step-digit) after.goes }

  -- The step can be undone.
  pub back_step : back m (step m e) ≡ e
  unfolding back head edge tail digit
  back_step =
      rw (step-tail, step-digit, after.goes.on_right, after.undone, move-back m margin r (tail e) (digit e) here.a_region here.side)
      (omega arith)
