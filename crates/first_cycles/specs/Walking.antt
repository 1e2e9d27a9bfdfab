-- The walk along one cycle that marks its westward edges: what holds before each run, and that a run keeps it.
use Rattle.std.specs.Prelude.{◌≡◌, ◌≢◌, List, ℕ, ◌+◌, ◌*◌, ◌%◌, ◌<◌, length, get_or}
use Rattle.std.proofs.Common.{sym, subst, arith}
use Rattle.interleaving.specs.Codes.{code}
use Rattle.location.specs.Levels.{side_of}
use Rattle.lattice.specs.Directions.{point, edge}
use Rattle.grid.specs.Cycles.{cycle_from}
use Rattle.steps.specs.Look.{mark_bit, map_at}
use Rattle.cycles.specs.Marks.{marks}
use Rattle.cycles.specs.Points.{EdgeAt, at_start, not_at_start}
use Rattle.cycles.specs.Rounds.{FirstEdge, left_after, Before, set_out, square-here, edge_here, onward, all_marked}
use Rattle.cycles.specs.Straight.{Straight, Gone, RunDone, run-done}
use Rattle.cycles.specs.CycleStarts.{CycleStart, CycleMarked, first_edge, cycle_marked_lem, side_here}

-- Before a run: the edge from (x, y) with the digit d is the next one.
pub record NextEdge (side r s : ℕ) (map₀ map : List ℕ) (x y d : ℕ) : Type 0 where
  pub x_low : x < 512
  pub low : d < 4
  pub round : Before 2 side r s map₀ map (edge (point x y) d)

-- After one run more, before the test for the start (column, row).
pub record OneRunMore (side r column row : ℕ) (map₀ map : List ℕ) (x y d x' y' d' : ℕ) : Type 0 where
  pub small : 4 * (512 * y' + x') + d' < 1048576
  pub long : length map ≡ length map₀
  pub ends : 4 * (512 * y' + x') + d' ≡ 4 * (512 * row + column)
      → map ≡ marks 2 side r (cycle_from (map_at side map₀) (edge (point column row) 0)) map₀
  pub again : 4 * (512 * y' + x') + d' ≢ 4 * (512 * row + column) → NextEdge side r (edge (point column row) 0) map₀ map x' y' d'
  pub shorter : 4 * (512 * y' + x') + d' ≢ 4 * (512 * row + column)
      → left_after side (edge (point column row) 0) map₀ x' y' d' < left_after side (edge (point column row) 0) map₀ x y d

module _ {side r : ℕ} {map₀ : List ℕ} (column row : ℕ) (first : FirstEdge side r (edge (point column row) 0) map₀) where
  pub at_first : column < 512 → NextEdge side r (edge (point column row) 0) map₀ map₀ column row 0
  at_first h = record { x_low = h; low = omega arith; round = set_out first.square 2 first.on_region }

  module _ {map : List ℕ} {x y d : ℕ} (w : NextEdge side r (edge (point column row) 0) map₀ map x y d) where
    pub edge_at : EdgeAt side r map x y d
    edge_at = record { square = square-here first.square w.round; x_low = w.x_low; low = w.low; on_region = edge_here first.square w.round }

    pub one_run_more : {map' : List ℕ} {x' y' d' : ℕ} → Gone 2 side r map x y d map' x' y' d' → OneRunMore side r column row map₀ map' x y d x' y' d'
    unfolding left_after
    one_run_more {map'} {x'} {y'} {d'} gone =
        let t : RunDone 2 side r (edge (point column row) 0) map₀ map' (edge (point x y) d) (edge (point x' y') d') =
        run-done first (subst (λ m. Straight 2 side r m map' (edge (point x' y') d') map (edge (point x y) d)) w.round.same_map gone.straight) w.round in
        record {
          small = omega (arith, gone.x_low, gone.y_low, gone.low);
          long = t.round.long;
          ends = λ h. all_marked first.square t.round (at_start column row x' y' d' h);
          again = λ n. record { x_low = omega (arith, gone.x_low); low = gone.low; round = onward first.square t.round (not_at_start column row x' y' d' n) };
          shorter = λ n. t.shorter (not_at_start column row x' y' d' n);
        }

    -- After a run along a row the start, an eastward edge, is not reached.
    pub record ColumnNext (map' : List ℕ) (x' y' d' : ℕ) : Type 0 where
      pub odd : d' % 2 ≡ 1
      pub next : NextEdge side r (edge (point column row) 0) map₀ map' x' y' d'
      pub nearer : left_after side (edge (point column row) 0) map₀ x' y' d' < left_after side (edge (point column row) 0) map₀ x y d

    pub row_done : {map' : List ℕ} {x' y' d' : ℕ} → d % 2 ≡ 0 → Gone 2 side r map x y d map' x' y' d' → ColumnNext map' x' y' d'
    row_done {map'} {x'} {y'} {d'} even gone =
        let t = one_run_more gone in
        let odd : d' % 2 ≡ 1 = omega (arith, gone.turned) in
        let elsewhere : 4 * (512 * y' + x') + d' ≢ 4 * (512 * row + column) = λ h. omega arith in
        record { odd = odd; next = t.again elsewhere; nearer = t.shorter elsewhere }

-- From the walk in the code's numbers to the cycle of the definitions, with the code's side.
module _ {n x y side : ℕ} {map : List ℕ} (h : CycleStart n map x y) (e : side ≡ side_of n) where
  pub ready_to_walk : FirstEdge side (get_or map (y * side + x) 0 % mark_bit) (edge (point x y) 0) map
  ready_to_walk = subst (λ s. FirstEdge s (get_or map (y * s + x) 0 % mark_bit) (edge (point x y) 0) map) (sym (side_here h e)) (first_edge h)

  pub walk_is_cycle : {map' : List ℕ}
      → map' ≡ marks 2 side (get_or map (y * side + x) 0 % mark_bit) (cycle_from (map_at side map) (edge (point x y) 0)) map → CycleMarked 2 n map (code n x y) map'
  walk_is_cycle {map'} w =
      cycle_marked_lem h 2 (omega arith)
      (subst (λ s. map' ≡ marks 2 s (get_or map (y * s + x) 0 % mark_bit) (cycle_from (map_at s map) (edge (point x y) 0)) map) (side_here h e) w)
