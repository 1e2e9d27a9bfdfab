-- Once round the cycle from an edge s of the region r, edge by edge, the edges with the digit k marked: what holds on the way.
use Rattle.std.specs.Prelude.{◌≡◌, refl, ◌≢◌, List, [], ◌∷◌, ℕ, zero, suc, ◌≤◌, ◌<◌}
use Rattle.std.proofs.Common.{sym, ◌∙◌, subst, not-suc-le-zero, arith}
use Rattle.std.proofs.Math.Path.{ap}
use Rattle.std.proofs.Math.ListN.{length}
use Rattle.lattice.specs.Directions.{point, edge, digit}
use Rattle.orbits.specs.Orbits.{until, Returns}
use Rattle.orbits.specs.StepsTo.{StepsTo, round, arrived, Further, further}
use Rattle.grid.specs.Steps.{Edge, step}
use Rattle.grid.specs.Cycles.{edge_limit, cycle_from}
use Rattle.grid.specs.Undoing.{step-edge}
use Rattle.grid.specs.Returning.{edge_returns}
use Rattle.grid.specs.Closing.{others, cycle-first}
use Rattle.steps.specs.Look.{map_at, Square, at_margin}
use Rattle.steps.specs.Rule.{Way, way}
use Rattle.cycles.specs.Marks.{mark, marks, length-mark, map-kept}

-- The edge s of the region r, with which a walk begins: its direction differs from that of the edge before.
pub record FirstEdge (side r s : ℕ) (map : List ℕ) : Type 0 where
  pub square : Square side map
  pub on_region : Edge (map_at side map) r s
  pub corner : (e : ℕ) → Edge (map_at side map) r e → step (map_at side map) e ≡ s → digit e ≢ digit s

-- An eastward one, at (column, row), lies in the image.
pub start_low : {side r : ℕ} {map : List ℕ} (column row : ℕ) → FirstEdge side r (edge (point column row) 0) map → column < 512 → Way column row 0
start_low {side} {r} {map} column row first h = way (map_at side map) (at_margin side map first.square.small) r column row 0 h (omega arith) first.on_region

-- What is left of the cycle from e, where s ends it.
unfoldable pub rest : (ℕ → ℕ → ℕ) → ℕ → ℕ → List ℕ
unfolding until step
rest m s e = until edge_limit (step m) s e

-- What is left after the edge from (x, y) with the digit d.
unfoldable pub left_after : ℕ → ℕ → List ℕ → ℕ → ℕ → ℕ → ℕ
unfolding rest step edge point map_at
left_after side s map x y d = length (rest (map_at side map) s (step (map_at side map) (edge (point x y) d)))

pub rest_none : (m : ℕ → ℕ → ℕ) (s e : ℕ) → e ≡ s → rest m s e ≡ []
unfolding rest
rest_none m s e h = arrived (step m) s edge_limit e h

-- On the way at the edge e, with the edges `todo` left: from the edge `from` on `left` steps lead back to s, and the marks made and those of
-- `todo` are the marks of the whole cycle.
pub record Underway (k side r s : ℕ) (map₀ map : List ℕ) (e from : ℕ) (todo : List ℕ) : Type 0 where
  pub left : ℕ
  pub ahead : StepsTo (step (map_at side map₀)) s from left
  pub enough : left ≤ edge_limit
  pub on_region : Edge (map_at side map₀) r e
  pub same_map : map_at side map ≡ map_at side map₀
  pub long : length map ≡ length map₀
  pub marked : marks k side r todo map ≡ marks k side r (cycle_from (map_at side map₀) s) map₀

-- Before the edge e is done.
abbrev pub Before : ℕ → ℕ → ℕ → ℕ → List ℕ → List ℕ → ℕ → Type 0
Before k side r s map₀ map e =
    let next : ℕ = step (map_at side map₀) e in
    Underway k side r s map₀ map e next (e ∷ rest (map_at side map₀) s next)

-- After an edge: e is the next one.
abbrev pub After : ℕ → ℕ → ℕ → ℕ → List ℕ → List ℕ → ℕ → Type 0
After k side r s map₀ map e = Underway k side r s map₀ map e e (rest (map_at side map₀) s e)

module _ {side r s : ℕ} {map₀ : List ℕ} (square : Square side map₀) where
  pub set_out : (k : ℕ) → Edge (map_at side map₀) r s → Before k side r s map₀ map₀ s
  unfolding rest others
  set_out k first = from (edge_returns (map_at side map₀) (at_margin side map₀ square.small) r s first)
    where
      from : (i : ℕ) × (i ≤ edge_limit) × Returns (step (map_at side map₀)) s i → Before k side r s map₀ map₀ s
      from (zero, h, t) = absurd (not-suc-le-zero t.positive)
      from (suc i, h, t) = record {
        left = i;
        ahead = round (step (map_at side map₀)) s i t;
        enough = omega arith;
        on_region = first;
        same_map = refl;
        long = refl;
        marked = ap (λ l. marks k side r l map₀) (sym (cycle-first (map_at side map₀) s));
      }

  module _ {k e : ℕ} {map : List ℕ} (g : Before k side r s map₀ map e) where
    pub square-here : Square side map
    square-here = record { small = square.small; room = omega (arith, square.room, g.long) }

    pub edge_here : Edge (map_at side map) r e
    edge_here = subst (λ m. Edge m r e) (sym g.same_map) g.on_region

    -- The edge is marked.
    pub past : {map' : List ℕ} {e' : ℕ} → map' ≡ mark k side r map e → e' ≡ step (map_at side map₀) e → After k side r s map₀ map' e'
    unfolding marks
    past hm next = record {
      left = g.left;
      ahead = rw next g.ahead;
      enough = g.enough;
      on_region = rw next (step-edge (map_at side map₀) (at_margin side map₀ square.small) r e g.on_region);
      same_map = ap (map_at side) hm ∙ map-kept square-here k e edge_here ∙ g.same_map;
      long = ap length hm ∙ length-mark k side r map e ∙ g.long;
      marked = rw (next, hm) g.marked;
    }

  module _ {k e : ℕ} {map : List ℕ} (p : After k side r s map₀ map e) where
    more : e ≢ s → Further (step (map_at side map₀)) s edge_limit e p.left
    more n = further (step (map_at side map₀)) s edge_limit e p.left p.enough n p.ahead

    pub rest-first : e ≢ s → rest (map_at side map₀) s e ≡ e ∷ rest (map_at side map₀) s (step (map_at side map₀) e)
    unfolding rest
    rest-first n = (more n).list

    -- What is left gets shorter.
    pub less : e ≢ s → length (rest (map_at side map₀) s (step (map_at side map₀) e)) < length (rest (map_at side map₀) s e)
    less n = omega (arith, ap length (rest-first n))

    pub onward : e ≢ s → Before k side r s map₀ map e
    onward n = record {
      left = (more n).left;
      ahead = (more n).ahead;
      enough = omega (arith, (more n).less, p.enough);
      on_region = p.on_region;
      same_map = p.same_map;
      long = p.long;
      marked = ap (λ t. marks k side r t map) (sym (rest-first n)) ∙ p.marked;
    }

    -- Back at s all is marked.
    pub all_marked : e ≡ s → map ≡ marks k side r (cycle_from (map_at side map₀) s) map₀
    unfolding marks
    all_marked h = ap (λ l. marks k side r l map) (sym (rest_none (map_at side map₀) s e h)) ∙ p.marked
