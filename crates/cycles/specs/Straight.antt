-- Straight on along the edges of a region up to the first turn; and so round a cycle.
use Rattle.std.specs.Prelude.{◌≡◌, refl, ◌≢◌, List, ℕ, ◌%◌, ◌≤◌, ◌<◌, length}
use Rattle.std.proofs.Common.{sym, ◌∙◌, subst, arith}
use Rattle.std.proofs.Math.Path.{ap}
use Rattle.lattice.specs.Directions.{point, opposite, edge, digit}
use Rattle.lattice.specs.Outlines.{digit-edge}
use Rattle.grid.specs.Steps.{Edge, turn, step}
use Rattle.grid.specs.Undoing.{step-edge}
use Rattle.grid.specs.East.{no_reverse}
use Rattle.steps.specs.Look.{map_at, at_margin}
use Rattle.steps.specs.Rule.{move_x, move_y, units_ahead, Moved}
use Rattle.cycles.specs.Marks.{mark}
use Rattle.cycles.specs.Points.{EdgeAt, moved_on, long_then, square_then, map_then, stepped}
use Rattle.cycles.specs.Rounds.{FirstEdge, rest, Before, After, past, less, onward}

-- From the edge e of a map m on, the rule goes straight up to a turn into the edge e'; each edge before e' is marked if it has the digit k,
-- which makes a list `map` the list map'.
pub data Straight (k side r : ℕ) (m : ℕ → ℕ → ℕ) (map' : List ℕ) (e' : ℕ) : List ℕ → ℕ → Type 0 where
  turning : {map : List ℕ} {e : ℕ} → map' ≡ mark k side r map e → e' ≡ step m e → digit e' ≢ digit e → Straight k side r m map' e' map e
  straight_on : {map : List ℕ} {e : ℕ} → digit (step m e) ≡ digit e → Straight k side r m map' e' (mark k side r map e) (step m e) → Straight k side r m map' e' map e

-- Gone straight from the edge at (x, y) with the digit d to the edge at (x', y') with the digit d' after the turn.
pub record Gone (k side r : ℕ) (map : List ℕ) (x y d : ℕ) (map' : List ℕ) (x' y' d' : ℕ) : Type 0 where
  pub x_low : x' ≤ 256
  pub y_low : y' ≤ 256
  pub low : d' < 4
  pub turned : d' % 2 ≢ d % 2
  pub straight : Straight k side r (map_at side map) map' (edge (point x' y') d') map (edge (point x y) d)

-- On the way from (column, row) in the list map₀ to (x, y): what is straight from here is straight from there.
pub record Onward (k side r : ℕ) (map₀ : List ℕ) (column row : ℕ) (map : List ℕ) (x y d : ℕ) : Type 0 where
  pub at : EdgeAt side r map x y d
  pub same_map : map_at side map ≡ map_at side map₀
  pub long : length map ≡ length map₀
  pub behind : (map' : List ℕ) (e' : ℕ) → Straight k side r (map_at side map₀) map' e' map (edge (point x y) d)
      → Straight k side r (map_at side map₀) map' e' map₀ (edge (point column row) d)

pub onward_from : {k side r : ℕ} {map : List ℕ} {x y d : ℕ} → EdgeAt side r map x y d → Onward k side r map x y map x y d
onward_from a = record { at = a; same_map = refl; long = refl; behind = λ map' e' s. s }

-- After one edge more: it is marked, and o is the digit at its end (x', y').
pub record OneFurther (k side r : ℕ) (map₀ : List ℕ) (column row : ℕ) (map : List ℕ) (x y d x' y' o : ℕ) : Type 0 where
  pub long : length map ≡ length map₀
  pub ends : o ≢ d → Gone k side r map₀ column row d map x' y' o
  pub again : o ≡ d → Onward k side r map₀ column row map x' y' d
  pub nearer : units_ahead x' y' d < units_ahead x y d

module _ {k side r column row x y d : ℕ} {map₀ map : List ℕ} (w : Onward k side r map₀ column row map x y d) where
  module _ {map' : List ℕ} (hm : map' ≡ mark k side r map (edge (point x y) d)) {x' y' o : ℕ} (hx : x' ≡ move_x x d) (hy : y' ≡ move_y y d)
      (ho : (o ≡ turn (map_at side map') r (point x' y') d) × (o < 4)) where
    stepped_here : edge (point x' y') o ≡ step (map_at side map) (edge (point x y) d)
    stepped_here = stepped w.at k hm hx hy ho.0

    moved_here : Moved x y d x' y'
    moved_here = moved_on w.at hx hy

    stepped_there : edge (point x' y') o ≡ step (map_at side map₀) (edge (point x y) d)
    stepped_there = stepped_here ∙ ap (λ m. step m (edge (point x y) d)) w.same_map

    -- The rule never goes back, so a turn leads from a row to a column, or from a column to a row.
    turns_off : o ≢ d → o % 2 ≢ d % 2
    unfolding opposite
    turns_off n h =
        let back : o ≢ opposite d = λ q. no_reverse (map_at side map) (at_margin side map w.at.square.small) r (edge (point x y) d) w.at.on_region
        (ap digit (sym stepped_here) ∙ digit-edge (point x' y') o ho.1 ∙ q ∙ ap opposite (sym (digit-edge (point x y) d w.at.low))) in
        omega (arith, back, ho.1, w.at.low)

    pub one_further : OneFurther k side r map₀ column row map' x y d x' y' o
    one_further = record {
      long = long_then w.at k hm ∙ w.long;
      ends = λ n. record {
        x_low = moved_here.x_low;
        y_low = moved_here.y_low;
        low = ho.1;
        turned = turns_off n;
        straight = w.behind map' (edge (point x' y') o)
            (turning hm stepped_there (λ h. n (sym (digit-edge (point x' y') o ho.1) ∙ h ∙ digit-edge (point x y) d w.at.low)));
      };
      again = λ h. record {
        at = record {
          square = square_then w.at k hm;
          x_low = omega (arith, moved_here.x_low);
          low = w.at.low;
          on_region = subst (λ m. Edge m r (edge (point x' y') d)) (sym (map_then w.at k hm))
              (subst (Edge (map_at side map) r) (sym stepped_here ∙ ap (edge (point x' y')) h) (step-edge (map_at side map) (at_margin side map w.at.square.small) r (edge (point x y) d) w.at.on_region));
        };
        same_map = map_then w.at k hm ∙ w.same_map;
        long = long_then w.at k hm ∙ w.long;
        behind = λ z e' s. w.behind z e' (straight_on
            (ap digit (sym stepped_there) ∙ digit-edge (point x' y') o ho.1 ∙ h ∙ sym (digit-edge (point x y) d w.at.low))
            (subst (Straight k side r (map_at side map₀) z e' (mark k side r map (edge (point x y) d))) (ap (edge (point x' y')) (sym h) ∙ stepped_there)
            (subst (λ l. Straight k side r (map_at side map₀) z e' l (edge (point x' y') d)) hm s)));
      };
      nearer = moved_here.nearer;
    }

-- The digit written out.
pub edge_with : {side r x y d o : ℕ} {map : List ℕ} → d ≡ o → EdgeAt side r map x y d → EdgeAt side r map x y o
edge_with {side} {r} {x} {y} {d} {o} {map} h a = subst (EdgeAt side r map x y) h a

pub gone_with : {k side r x y d o x' y' d' : ℕ} {map map' : List ℕ} → d ≡ o → Gone k side r map x y o map' x' y' d' → Gone k side r map x y d map' x' y' d'
gone_with {k} {side} {r} {x} {y} {d} {o} {x'} {y'} {d'} {map} {map'} h g = subst (λ a. Gone k side r map x y a map' x' y' d') (sym h) g

-- On the way round the cycle of a first edge: the run from the edge e up to the turn into e' is done.
pub record RunDone (k side r s : ℕ) (map₀ map' : List ℕ) (e e' : ℕ) : Type 0 where
  pub round : After k side r s map₀ map' e'
  pub shorter : e' ≢ s → length (rest (map_at side map₀) s (step (map_at side map₀) e')) < length (rest (map_at side map₀) s (step (map_at side map₀) e))

module _ {side r s : ℕ} {map₀ : List ℕ} (first : FirstEdge side r s map₀) where
  -- No run goes straight on through the first edge.
  pub not_first : (e : ℕ) → Edge (map_at side map₀) r e → digit (step (map_at side map₀) e) ≡ digit e → step (map_at side map₀) e ≢ s
  not_first e h same q = first.corner e h q (sym same ∙ ap digit q)

  pub run-done : {k : ℕ} {map' : List ℕ} {e' : ℕ} {map : List ℕ} {e : ℕ} → Straight k side r (map_at side map₀) map' e' map e → Before k side r s map₀ map e → RunDone k side r s map₀ map' e e'
  run-done {k} {map'} {e'} {map} {e} (turning hm here n) g =
      let p : After k side r s map₀ map' e' = past first.square g hm here in
      record {
        round = p;
        shorter = λ o. subst (λ a. length (rest (map_at side map₀) s (step (map_at side map₀) e')) < length (rest (map_at side map₀) s a)) here (less first.square p o);
      }
  run-done {k} {map'} {e'} {map} {e} (straight_on straight more) g =
      let p : After k side r s map₀ (mark k side r map e) (step (map_at side map₀) e) = past first.square g refl refl in
      let o : step (map_at side map₀) e ≢ s = not_first e g.on_region straight in
      let t : RunDone k side r s map₀ map' (step (map_at side map₀) e) e' = run-done more (onward first.square p o) in
      record { round = t.round; shorter = λ n. omega (arith, t.shorter n, less first.square p o) }
