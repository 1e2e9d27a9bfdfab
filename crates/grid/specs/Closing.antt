-- Cycles as closed walks: a start is a corner, and the straight walks between a cycle's corners are its edges.
use Rattle.std.specs.Prelude.{◌≡◌, ◌≢◌, List, [], ◌∷◌, length, get_or}
use Rattle.std.proofs.Math.Path.{refl, ap, subst, subst₂}
use Rattle.std.proofs.Common.{sym, ap₂, ◌∙◌, not-suc-le-zero}
use Prim.Native.Nat.{ℕ, zero, suc, ◌/◌, ◌%◌, ◌≤◌, ◌<◌}
use native.Mathlib.Omega.{arith}
use Rattle.interleaving.specs.Codes.{code}
use Rattle.interleaving.specs.Interleaving.{code_grows_in_x}
use Rattle.lattice.specs.Directions.{x_of, y_of, move, tail, digit, head}
use Rattle.lattice.specs.Walks.{outline, turns, last_of, corners}
use Rattle.lattice.specs.Straight.{OnGrid}
use Rattle.lattice.specs.Corners.{Walk, turns-turn, outline_of_corners}
use Rattle.orbits.specs.Members.{In}
use Rattle.orbits.specs.Orbits.{iter, iter_out, walk, orbit, until}
use Rattle.grid.specs.Map.{region_at, around}
use Rattle.grid.specs.Margins.{Margin}
use Rattle.grid.specs.Steps.{Side, Edge, step}
use Rattle.grid.specs.Cycles.{edge_limit, cycle_from, north_side, cycle, code_right}
use Rattle.grid.specs.Undoing.{fits, no_digit, step-tail, step-edge}
use Rattle.grid.specs.Returning.{Ring, ring}
use Rattle.grid.specs.North.{side_small, north-digit, north-code, Eastward, eastward}
use Rattle.grid.specs.Starting.{StartAt, margin}

-- The edges of the cycle after its first.
unfoldable pub others : (ℕ → ℕ → ℕ) → ℕ → List ℕ
unfolding until step
others m e = until edge_limit (step m) e (step m e)

pub cycle-first : (m : ℕ → ℕ → ℕ) (e : ℕ) → cycle_from m e ≡ e ∷ others m e
unfolding cycle_from orbit others
cycle-first m e = refl

pub last_at : (x : ℕ) (xs : List ℕ) → last_of x xs ≡ get_or (x ∷ xs) (length xs) 0
unfolding last_of
last_at x [] = refl
last_at x (y ∷ xs) = last_at y xs

-- "the last edge stands before the first": a step leads from the one to the other.
pub record Last (m : ℕ → ℕ → ℕ) (e : ℕ) : Type 0 where
  pub on_cycle : In (last_of e (others m e)) (cycle_from m e)
  pub leads : step m (last_of e (others m e)) ≡ e

module _ (m : ℕ → ℕ → ℕ) (margin : Margin m) (r : ℕ) where
  pub last_edge : (e : ℕ) → Edge m r e → Last m e
  unfolding iter
  last_edge e h = from g.size refl
    where
      g : Ring m r e
      g = ring m margin r e h

      made : (k : ℕ) → suc k ≡ g.size → length (others m e) ≡ k → Last m e
      made k s l =
          let last : last_of e (others m e) ≡ get_or (cycle_from m e) k 0 = last_at e (others m e) ∙ ap₂ (λ (xs : List ℕ) i. get_or xs i 0) (sym (cycle-first m e)) l in
          let before : last_of e (others m e) ≡ iter (step m) k e = last ∙ g.at k (omega arith) in
          record {
            on_cycle = (k, omega (arith, g.long), sym last);
            leads = ap (step m) before ∙ ap (λ i. iter (step m) i e) s ∙ g.returns.back;
          }

      from : (k : ℕ) → k ≡ g.size → Last m e
      from zero s = absurd (not-suc-le-zero (subst (λ k. 0 < k) (sym s) g.returns.positive))
      from (suc k) s = made k s (omega (arith, sym (ap length (cycle-first m e)) ∙ g.long ∙ sym s))

  -- An edge stays on the grid.
  side_on_grid : (p d : ℕ) → 0 < r → Side m r p d → OnGrid d 1 p
  unfolding OnGrid around x_of y_of
  side_on_grid p zero pos s = let f = fits m margin r (suc (p % 512)) (suc (p / 512)) pos s.on_right in omega arith
  side_on_grid p (suc zero) pos s = let f = fits m margin r (suc (p % 512)) (p / 512) pos s.on_right in omega arith
  side_on_grid p (suc (suc zero)) pos s = let f = fits m margin r (p % 512) (p / 512) pos s.on_right in omega arith
  side_on_grid p (suc (suc (suc zero))) pos s = refl
  side_on_grid p (suc (suc (suc (suc d)))) pos s = no_digit d s.digit-below

  pub edge_on_grid : (e : ℕ) → Edge m r e → OnGrid (digit e) 1 (tail e)
  edge_on_grid e h = side_on_grid (tail e) (digit e) h.a_region h.side

  -- The steps form a walk.
  pub steps-walk : (k e : ℕ) → Edge m r e → Walk (tail e) (walk (step m) k e) (tail (iter (step m) k e))
  unfolding Walk walk iter
  steps-walk zero e h = refl
  steps-walk (suc k) e h = (
    refl,
    edge_on_grid e h,
    subst₂ (λ q close. Walk q (walk (step m) k (step m e)) close) (step-tail m margin r e h) (ap tail (iter_out (step m) k e))
        (steps-walk k (step m e) (step-edge m margin r e h)),
  )

  pub closed_walk : (e : ℕ) → Edge m r e → Walk (tail e) (e ∷ others m e) (tail e)
  closed_walk e h =
      let g : Ring m r e = ring m margin r e h in
      subst₂ (λ (es : List ℕ) close. Walk (tail e) es close) (sym g.walked ∙ cycle-first m e) (ap tail g.returns.back) (steps-walk g.size e h)

  -- Where the last edge goes another way than the first, the corners give the cycle back.
  pub corners_walked : (e : ℕ) → Edge m r e → digit (last_of e (others m e)) ≢ digit e → outline (corners (cycle_from m e)) ≡ cycle_from m e
  corners_walked e h n =
      ap (λ (es : List ℕ). outline (corners es)) (cycle-first m e) ∙ outline_of_corners e (others m e) (closed_walk e h) n ∙ sym (cycle-first m e)

one_east : (p q : ℕ) → q ≡ move 0 p → x_of p < 256 → x_of p < x_of q
unfolding move x_of
one_east p q s l = omega arith

same_row : (p q : ℕ) → q ≡ move 0 p → x_of p < 256 → y_of p ≡ y_of q
unfolding move x_of y_of
same_row p q s l = omega arith

module _ (n : ℕ) (nums : List ℕ) (small : n ≤ 8) where
  abbrev m : ℕ → ℕ → ℕ
  m = region_at n nums

  -- Two eastward edges one after the other: the code grows.
  code_grows : (r e f : ℕ) → Edge m r e → Edge m r f → digit e ≡ 0 → digit f ≡ 0 → tail f ≡ head e → code_right n e < code_right n f
  unfolding code_right head
  code_grows r e f h k x y t =
      let a : Eastward n nums small r e = eastward n nums small r e h x in
      let b : Eastward n nums small r f = eastward n nums small r f k y in
      let s : tail f ≡ move 0 (tail e) = t ∙ ap (λ d. move d (tail e)) x in
      let ex : x_of (tail e) < x_of (tail f) = one_east (tail e) (tail f) s (omega (arith, a.x_below, side_small n small)) in
      let ey : y_of (tail e) ≡ y_of (tail f) = same_row (tail e) (tail f) s (omega (arith, a.x_below, side_small n small)) in
      subst (λ z. code n (x_of (tail e)) (y_of (tail e)) < code n (x_of (tail f)) z) ey (code_grows_in_x n (x_of (tail e)) (x_of (tail f)) (y_of (tail e)) ex b.x_below)

  -- The edge before a start is not eastward, so the start is a corner.
  pub start-turns : (c : ℕ) → StartAt n nums c → digit (last_of (north_side n c) (others m (north_side n c))) ≢ digit (north_side n c)
  unfolding cycle
  start-turns c s t =
      let r : ℕ = suc (get_or nums c 0) in
      let e : ℕ = north_side n c in
      let z : ℕ = last_of e (others m e) in
      let l : Last m e = last_edge m (margin n nums small) r e s.north in
      let g : Ring m r e = ring m (margin n nums small) r e s.north in
      let h : Edge m r z = g.edges z l.on_cycle in
      let o : digit z ≡ 0 = t ∙ north-digit n c in
      let k : code_right n z < code_right n e = code_grows r z e h s.north o (north-digit n c) (ap tail (sym l.leads) ∙ step-tail m (margin n nums small) r z h) in
      absurd (omega (arith, k, north-code n c small s.inside, s.least z l.on_cycle o))

  -- "The unit sides in a listed outline are those walked straight from each listed corner to the next, and from the last to the
  -- first" (document 01, "Outlines"): they are the edges of the cycle.
  pub sides_of_corners : (c : ℕ) → StartAt n nums c → outline (corners (cycle n nums c)) ≡ cycle n nums c
  unfolding cycle
  sides_of_corners c s = corners_walked m (margin n nums small) (suc (get_or nums c 0)) (north_side n c) s.north (start-turns c s)

  -- The corners begin with the tail of the start.
  pub corners_from_start : (c : ℕ) → StartAt n nums c
      → corners (cycle n nums c) ≡ tail (north_side n c) ∷ turns (digit (north_side n c)) (others m (north_side n c))
  unfolding cycle corners
  corners_from_start c s =
      ap corners (cycle-first m (north_side n c))
      ∙ turns-turn (digit (last_of (north_side n c) (others m (north_side n c)))) (north_side n c) (others m (north_side n c)) (start-turns c s)
