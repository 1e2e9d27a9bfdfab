-- Whether a walk may begin with the eastward edge at a point, told by the rule of steps there.
use Rattle.std.specs.Prelude.{◌≡◌, ◌≢◌, true, false, not, List, ℕ, ◌<◌, eqb}
use Rattle.std.proofs.Math.Path.{refl, sym}
use Rattle.std.proofs.Common.{ap, ap₂, ◌∙◌, subst₂}
use Rattle.std.proofs.Math.Decide.{ℕ_discrete}
use native.Mathlib.Omega.{arith}
use borrow.Author.Tests.{eq-eqb, ne_eqb}
use Rattle.lattice.specs.Directions.{right_of, left_of, edge, tail, digit, head}
use Rattle.lattice.specs.Outlines.{tail-edge, digit-edge}
use Rattle.grid.specs.Map.{around}
use Rattle.grid.specs.Margins.{Margin}
use Rattle.grid.specs.Steps.{Side, Edge, turn, step}
use Rattle.grid.specs.Undoing.{unturn, back, go_right, go_straight, go_left, after, step-tail, step-digit}
use Rattle.grid.specs.Returning.{back-edge, step_back}
use Rattle.steps.specs.Look.{map_at, Square, at_margin}
use Rattle.cycles.specs.Rounds.{FirstEdge}
use Rattle.sequences.specs.Says.{Says, says_yes, says_no}

-- ---- what the rule of steps tells of the pixels around a point p

module _ (m : ℕ → ℕ → ℕ) (r p : ℕ) where
  -- It turns right only where the pixel ahead on the right is not in the region,
  in_region : (d : ℕ) → turn m r p d ≢ right_of d → around m p d ≡ r
  in_region d n = elim (ℕ_discrete (around m p d) r) [ yes h ↦ h | no h ↦ absurd (n (go_right m r p d h)) ]

  not_in_region : (d : ℕ) → d < 4 → turn m r p d ≡ right_of d → around m p d ≢ r
  unfolding right_of left_of
  not_in_region d low e h =
      elim (ℕ_discrete (around m p (left_of d)) r) [
        | yes l ↦ omega (arith, low, sym (go_left m r p d h l) ∙ e)
        | no l ↦ omega (arith, low, sym (go_straight m r p d h l) ∙ e)
      ]

  -- and goes straight on only along a side of the region.
  side_there : (d : ℕ) → d < 4 → turn m r p d ≡ d → Side m r p d
  unfolding right_of left_of
  side_there d low e = pick (ℕ_discrete (around m p d) r) (ℕ_discrete (around m p (left_of d)) r)
    where
      pick : Dec (around m p d ≡ r) → Dec (around m p (left_of d) ≡ r) → Side m r p d
      pick (no h) l = absurd (omega (arith, low, sym (go_right m r p d h) ∙ e))
      pick (yes h) (yes l) = absurd (omega (arith, low, sym (go_left m r p d h l) ∙ e))
      pick (yes h) (no l) = record { digit-below = low; on_right = h; on_left = l }

  -- The direction before an eastward edge at p, by the pixels southwest and northwest.
  came_otherwise : around m p 3 ≢ r → unturn m r p 0 ≢ 0
  unfolding unturn
  came_otherwise n e = let h : unturn m r p 0 ≡ 1 = rw (ne_eqb (around m p 3) r n, unturn) in omega arith

  came_from_left : around m p 2 ≡ r → unturn m r p 0 ≢ 0
  unfolding unturn
  came_from_left h e = pick (ℕ_discrete (around m p 3) r)
    where
      pick : Dec (around m p 3 ≡ r) → ⊥
      pick (no n) = came_otherwise n e
      pick (yes k) = let t : unturn m r p 0 ≡ 3 = rw (eq-eqb (around m p 3) r k, eq-eqb (around m p 2) r h, unturn) refl in omega arith

  came_straight : around m p 3 ≡ r → around m p 2 ≢ r → unturn m r p 0 ≡ 0
  unfolding unturn
  came_straight h n = rw (eq-eqb (around m p 3) r h, ne_eqb (around m p 2) r n, unturn)

-- ---- the walk turns at p: the direction before an eastward edge there is another

module _ {side : ℕ} {map : List ℕ} (square : Square side map) where
  margin : Margin (map_at side map)
  margin = at_margin side map square.small

module _ {side : ℕ} {map : List ℕ} (square : Square side map) (r p : ℕ) where
  -- A step into the edge comes from the direction before.
  came_from : (e : ℕ) → Edge (map_at side map) r e → step (map_at side map) e ≡ edge p 0 → unturn (map_at side map) r p 0 ≡ digit e
  came_from e h q =
      let there : head e ≡ p = sym (step-tail (map_at side map) (margin square) r e h) ∙ ap tail q ∙ tail-edge p 0 (omega arith) in
      let then : turn (map_at side map) r (head e) (digit e) ≡ 0 = sym (step-digit (map_at side map) (margin square) r e h) ∙ ap digit q ∙ digit-edge p 0 (omega arith) in
      sym (ap₂ (unturn (map_at side map) r) there then) ∙ (after (map_at side map) (margin square) r e h).undone

  first_edge : Edge (map_at side map) r (edge p 0) → unturn (map_at side map) r p 0 ≢ 0 → FirstEdge side r (edge p 0) map
  first_edge here turns = record { square = square; on_region = here; corner = λ e h q t. turns (came_from e h q ∙ t ∙ digit-edge p 0 (omega arith)) }

  turns_there : FirstEdge side r (edge p 0) map → unturn (map_at side map) r p 0 ≢ 0
  turns_there first z =
      let b : ℕ = back (map_at side map) (edge p 0) in
      let h : Edge (map_at side map) r b = back-edge (map_at side map) (margin square) r (edge p 0) first.on_region in
      let q : step (map_at side map) b ≡ edge p 0 = step_back (map_at side map) (margin square) r (edge p 0) first.on_region in
      first.corner b h q (sym (came_from b h q) ∙ z ∙ sym (digit-edge p 0 (omega arith)))

  -- ---- in the code's order: straight on eastward, to the right southward, to the right westward

  module _ {east : ℕ} (hE : (east ≡ turn (map_at side map) r p 0) × (east < 4)) where
    pub no_edge : east ≢ 0 → Says false (FirstEdge side r (edge p 0) map)
    no_edge n =
        says_no (λ first.
        let s : Side (map_at side map) r p 0 = subst₂ (Side (map_at side map) r) (tail-edge p 0 (omega arith)) (digit-edge p 0 (omega arith)) first.on_region.side in
        n (hE.0 ∙ go_straight (map_at side map) r p 0 s.on_right s.on_left))

    module _ (pos : 0 < r) (z : east ≡ 0) where
      here : Edge (map_at side map) r (edge p 0)
      here = record {
        a_region = pos;
        side = subst₂ (Side (map_at side map) r) (sym (tail-edge p 0 (omega arith))) (sym (digit-edge p 0 (omega arith)))
            (side_there (map_at side map) r p 0 (omega arith) (sym hE.0 ∙ z));
      }

      module _ {south : ℕ} (hS : (south ≡ turn (map_at side map) r p 3) × (south < 4)) where
        pub southwest_out : south ≡ 2 → Says true (FirstEdge side r (edge p 0) map)
        unfolding right_of
        southwest_out e = says_yes (first_edge here (came_otherwise (map_at side map) r p (not_in_region (map_at side map) r p 3 (omega arith) (sym hS.0 ∙ e))))

        pub by_northwest : {west : ℕ} → (west ≡ turn (map_at side map) r p 2) × (west < 4) → south ≢ 2 → Says (not (eqb west 1)) (FirstEdge side r (edge p 0) map)
        unfolding right_of
        by_northwest {west} hW n = pick (ℕ_discrete west 1)
          where
            pick : Dec (west ≡ 1) → Says (not (eqb west 1)) (FirstEdge side r (edge p 0) map)
            pick (yes e) = rw (eq-eqb west 1 e) (says_no (λ first. turns_there first (came_straight (map_at side map) r p
                (in_region (map_at side map) r p 3 (λ q. n (hS.0 ∙ q))) (not_in_region (map_at side map) r p 2 (omega arith) (sym hW.0 ∙ e)))))
            pick (no e) = rw (ne_eqb west 1 e) (says_yes (first_edge here (came_from_left (map_at side map) r p (in_region (map_at side map) r p 2 (λ q. e (hW.0 ∙ q))))))
