-- From the walk in the code's numbers to the cycle of the definitions: the promise of writing one cycle.
use Rattle.std.specs.Prelude.{◌≡◌, List, ℕ, ◌+◌, ◌*◌, ◌%◌, ◌^◌, get_or, ℤ}
use Rattle.std.proofs.Math.Path.{sym, ap, ap₂}
use Rattle.std.proofs.Common.{◌∙◌, subst, arith}
use Rattle.std.proofs.Math.ListN.{length}
use Rattle.sequences.specs.Over.{over}
use Rattle.interleaving.specs.Codes.{code}
use Rattle.location.specs.Levels.{side_of}
use Rattle.lattice.specs.Directions.{point, edge}
use Rattle.lattice.specs.Walks.{corners}
use Rattle.lattice.specs.Area.{area}
use Rattle.grid.specs.Sides.{side_at}
use Rattle.grid.specs.Cycles.{corner_of, north_side, cycle}
use Rattle.grid.specs.Closing.{corners_from_start}
use Rattle.steps.specs.Look.{mark_bit, map_at}
use Rattle.cycles.specs.Mapped.{nums_of}
use Rattle.cycles.specs.Promise.{StartsHere, cycle_marked, CycleWritten}
use Rattle.cycles.specs.CycleStarts.{CycleStart, CycleMarked, same_map, north-here, its_edges, first_edge, cycle_marked_lem, side_here}
use Rattle.cycles.specs.Walking.{Ready, CycleWalked, corners_from}

module _ {n x y : ℕ} {map out : List ℕ} (h : StartsHere n map out x y) where
  -- The numbers of the pixels; of the pixel (x, y) the code and the entry.
  abbrev nums : List ℕ
  nums = nums_of n map

  abbrev c : ℕ
  c = code n x y

  abbrev entry_here : ℕ
  entry_here = get_or map (y * 2 ^ n + x) 0 % mark_bit

  pub cycle_start : CycleStart n map x y
  cycle_start = record { small = h.small; mapped = h.mapped; x_inside = h.x_inside; y_inside = h.y_inside; starts = h.starts }

  its_corners : corners_from (map_at (2 ^ n) map) (edge (point x y) 0) ≡ corners (cycle n nums c)
  unfolding corners_from
  its_corners =
      ap₂ corners_from (same_map cycle_start) (sym (north-here cycle_start))
      ∙ sym (corners_from_start n nums h.small c h.starts)

  -- What the walk asks.
  ready-here : Ready (2 ^ n) entry_here (edge (point x y) 0) map out
  ready-here = record { first = first_edge cycle_start; room = omega (arith, ap length its_corners, h.room) }

  -- What the walk leaves is the promise.
  cycle_written : {map' out' : List ℕ} {k : ℕ} {sum : ℤ} → CycleWalked (2 ^ n) entry_here (edge (point x y) 0) map out map' out' k sum
      → CycleWritten n map out c map' out' k sum
  unfolding cycle_marked north_side corner_of side_at
  cycle_written {map'} {out'} {k} {sum} w =
      let a : CycleMarked 0 n map c map' = cycle_marked_lem cycle_start 0 (omega arith) w.marked in
      record {
        count = w.count ∙ ap length its_corners;
        list = w.list ∙ ap (λ l. over l out) its_corners;
        its_area = w.its_area ∙ ap area (its_edges cycle_start);
        area_low = w.area_low;
        in_map = a.in_map;
        mapped = a.mapped;
        same_numbers = a.same_numbers;
        same_length = a.same_length;
        beyond = a.beyond;
        marked = a.marked;
      }

  -- The same with the code's side.
  module _ {side : ℕ} (e : side ≡ side_of n) where
    pub ready_to_walk : Ready side (get_or map (y * side + x) 0 % mark_bit) (edge (point x y) 0) map out
    ready_to_walk = subst (λ s. Ready s (get_or map (y * s + x) 0 % mark_bit) (edge (point x y) 0) map out) (sym (side_here cycle_start e)) ready-here

    pub walk_is_cycle : {map' out' : List ℕ} {k : ℕ} {sum : ℤ}
        → CycleWalked side (get_or map (y * side + x) 0 % mark_bit) (edge (point x y) 0) map out map' out' k sum → CycleWritten n map out c map' out' k sum
    walk_is_cycle {map'} {out'} {k} {sum} w =
        cycle_written (subst (λ s. CycleWalked s (get_or map (y * s + x) 0 % mark_bit) (edge (point x y) 0) map out map' out' k sum) (side_here cycle_start e) w)
