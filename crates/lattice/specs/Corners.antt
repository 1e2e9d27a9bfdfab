-- The corners of a closed walk, walked straight from each to the next and from the last to the first, give the walk back.
use Rattle.std.specs.Prelude.{◌≡◌, ℕ, suc, ◌<◌, ◌≢◌, List, [], ◌∷◌, ◌++◌}
use Rattle.std.proofs.Math.Path.{sym, ap, ap₂}
use Rattle.std.proofs.Common.{◌∙◌, subst, subst₂, arith, eq-eqb, ne_eqb}
use mathlib.Core.List.{append_assoc, append-nil}
use Rattle.std.proofs.Math.Decide.{ℕ_discrete}
use Rattle.lattice.specs.Directions.{move, edge, tail, digit, head}
use Rattle.lattice.specs.Walks.{run, straight, walk_from, outline, turns, last_of, corners}
use Rattle.lattice.specs.Straight.{far, OnGrid, straight-run, far-step, far_one, on_grid_more, run_snoc}

-- The edges stand one after the other from the point q to the point `close`, each staying on the grid.
unfoldable pub Walk : ℕ → List ℕ → ℕ → Type 0
unfolding tail digit head
Walk q [] close = q ≡ close
Walk q (e ∷ es) close = (tail e ≡ q) × OnGrid (digit e) 1 (tail e) × Walk (head e) es close

pub edge_of : (e : ℕ) → edge (tail e) (digit e) ≡ e
unfolding edge tail digit
edge_of e = omega arith

pub turns_on : (d e : ℕ) (es : List ℕ) → d ≡ digit e → turns d (e ∷ es) ≡ turns d es
unfolding turns
turns_on d e es h = rw (eq-eqb d (digit e) h, turns) (ap (λ x. turns x es) (sym h))

pub turns-turn : (d e : ℕ) (es : List ℕ) → d ≢ digit e → turns d (e ∷ es) ≡ tail e ∷ turns (digit e) es
unfolding turns
turns-turn d e es n = rw (ne_eqb d (digit e) n, turns)

-- On the way, k edges with the digit d from the corner p are behind.
abbrev Goal : List ℕ → Type 0
Goal es = (d k p close : ℕ) → 0 < k → OnGrid d k p → Walk (far d k p) es close → walk_from p (turns d es) close ≡ run d k p ++ es

-- One more edge with the same digit; the first edge with another.
module _ (e : ℕ) (es : List ℕ) (ih : Goal es) (d k p close : ℕ) (pos : 0 < k) (r : OnGrid d k p)
    (here : tail e ≡ far d k p) (room : OnGrid (digit e) 1 (tail e)) (rest : Walk (head e) es close) where
  on : d ≡ digit e → walk_from p (turns d (e ∷ es)) close ≡ run d k p ++ e ∷ es
  unfolding head
  on h =
      let more : OnGrid d (suc k) p = on_grid_more d k p r (subst₂ (λ x y. OnGrid x 1 y) (sym h) here room) in
      let next : move (digit e) (tail e) ≡ far d (suc k) p = ap₂ move (sym h) here ∙ far-step d k p more in
      let this : edge (far d k p) d ≡ e = ap₂ edge (sym here) h ∙ edge_of e in
      ap (λ t. walk_from p t close) (turns_on d e es h)
      ∙ ih d (suc k) p close (omega arith) more (subst (λ q. Walk q es close) next rest)
      ∙ ap (λ t. t ++ es) (run_snoc d k p more)
      ∙ append_assoc (run d k p) (edge (far d k p) d ∷ []) es
      ∙ ap (λ x. run d k p ++ x ∷ es) this

  off : d ≢ digit e → walk_from p (turns d (e ∷ es)) close ≡ run d k p ++ e ∷ es
  unfolding walk_from run head
  off n =
      let next : move (digit e) (tail e) ≡ far (digit e) 1 (tail e) = sym (far_one (digit e) (tail e) room) in
      ap (λ t. walk_from p t close) (turns-turn d e es n)
      ∙ ap₂ {A = List ℕ} {B = List ℕ} ◌++◌ (ap (straight p) here ∙ straight-run d k p pos r)
      (ih (digit e) 1 (tail e) close (omega arith) room (subst (λ q. Walk q es close) next rest) ∙ ap (λ x. x ∷ es) (edge_of e))

walk-turns : (es : List ℕ) → Goal es
unfolding walk_from turns Walk
walk-turns [] d k p close pos r c = rw (← c) (straight-run d k p pos r ∙ sym (append-nil (run d k p)))
walk-turns (e ∷ es) d k p close pos r c = pick (walk-turns es) (ℕ_discrete d (digit e))
  where
    pick : Goal es → Dec (d ≡ digit e) → walk_from p (turns d (e ∷ es)) close ≡ run d k p ++ e ∷ es
    pick ih (yes h) = on e es ih d k p close pos r c.0 c.1 c.2 h
    pick ih (no n) = off e es ih d k p close pos r c.0 c.1 c.2 n

-- A closed walk whose first edge turns: "The unit sides in a listed outline are those walked straight from each listed
-- corner to the next, and from the last to the first" (document 01, "Outlines").
pub outline_of_corners : (e : ℕ) (es : List ℕ) → Walk (tail e) (e ∷ es) (tail e) → digit (last_of e es) ≢ digit e → outline (corners (e ∷ es)) ≡ e ∷ es
unfolding outline corners Walk run head
outline_of_corners e es w n =
    let next : move (digit e) (tail e) ≡ far (digit e) 1 (tail e) = sym (far_one (digit e) (tail e) w.1) in
    ap outline (turns-turn (digit (last_of e es)) e es n)
    ∙ walk-turns es (digit e) 1 (tail e) (tail e) (omega arith) w.1 (subst (λ q. Walk q es (tail e)) next w.2)
    ∙ ap (λ x. x ∷ es) (edge_of e)
