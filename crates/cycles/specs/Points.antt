-- An edge in the code's numbers: its tail (x, y) and its digit d; the place of its mark, and the edge after it.
use Rattle.std.specs.Prelude.{◌≡◌, ◌≢◌, Bool, true, false, ◌&&◌, eqb, List, length}
use Rattle.std.proofs.lemmas.Grind.{common_steps}
use Rattle.std.proofs.Math.Path.{sym, ap, ap₂, subst}
use Rattle.std.proofs.Common.{◌∙◌, arith}
use Rattle.std.proofs.Common.{subst₂}
use Prim.Native.Nat.{ℕ, zero, suc, ◌+◌, ◌-◌, ◌*◌, ◌≤◌, ◌<◌}
use Rattle.std.proofs.Math.ListN.{set}
use Rattle.lattice.specs.Directions.{point, x_of, y_of, move, edge, tail, digit, head}
use Rattle.lattice.specs.Outlines.{x_of_point, y_of_point, tail-edge, digit-edge}
use Rattle.grid.specs.Steps.{Side, Edge, turn, step}
use Rattle.grid.specs.Sides.{right_x, right_y}
use Rattle.grid.specs.Undoing.{fits, step_is}
use Rattle.steps.specs.Look.{mark_bit, map_at, Square, row_small, at_margin, column_at, row_at, around_at}
use Rattle.steps.specs.Rule.{Way, way, move_x, move_y, Moved, moved}
use Rattle.cycles.specs.Marks.{mark, spot, mark_made, mark_other, length-mark, RightPixel, right_pixel, region_known, map-kept}

-- The edge from (x, y) with the digit d is an edge of the region r.
pub record EdgeAt (side r : ℕ) (map : List ℕ) (x y d : ℕ) : Type 0 where
  pub square : Square side map
  pub x_low : x < 512
  pub low : d < 4
  pub on_region : Edge (map_at side map) r (edge (point x y) d)

-- The mark of such an edge, where the digit k is marked, as the code finds its place: in the column i and the row j.
pub record MarkPlace (k side r : ℕ) (map : List ℕ) (x y d i j : ℕ) : Type 0 where
  pub row : j * side ≤ 65536
  pub inside : j * side + i < side * side
  pub known : r < mark_bit
  pub after : mark k side r map (edge (point x y) d) ≡ set map (j * side + i) (r + mark_bit)

pub record RightPlace (k side r : ℕ) (map : List ℕ) (x y d : ℕ) : Type 0 where
  pub column_above : 0 < column_at x k
  pub row_above : 0 < row_at y k
  pub place : MarkPlace k side r map x y d (column_at x k - 1) (row_at y k - 1)
  pub small : (row_at y k - 1) * side + (column_at x k - 1) < 65536

right_column : (p k : ℕ) {x : ℕ} → x_of p ≡ x → right_x p k ≡ column_at x k - 1
unfolding right_x column_at
right_column p zero e = omega (arith, e)
right_column p (suc zero) e = omega (arith, e)
right_column p (suc (suc k)) e = ap (λ v. v - 1) e

right_row : (p k : ℕ) {y : ℕ} → y_of p ≡ y → right_y p k ≡ row_at y k - 1
unfolding right_y row_at
right_row p zero e = omega (arith, e)
right_row p (suc zero) e = ap (λ v. v - 1) e
right_row p (suc (suc zero)) e = ap (λ v. v - 1) e
right_row p (suc (suc (suc k))) e = omega (arith, e)

module _ {side r x y d : ℕ} {map : List ℕ} (a : EdgeAt side r map x y d) where
  pub way_at : Way x y d
  way_at = way (map_at side map) (at_margin side map a.square.small) r x y d a.x_low a.low a.on_region

  pub mark-place : {k i j : ℕ} → d ≡ k → right_x (point x y) k ≡ i → right_y (point x y) k ≡ j → MarkPlace k side r map x y d i j
  unfolding spot
  mark-place {k} {i} {j} z column row =
      let e : ℕ = edge (point x y) d in
      let o : digit e ≡ k = digit-edge (point x y) d a.low ∙ z in
      let p : RightPixel k side r map e = right_pixel a.square e a.on_region o in
      let ei : right_x (tail e) k ≡ i = ap (λ q. right_x q k) (tail-edge (point x y) d a.low) ∙ column in
      let ej : right_y (tail e) k ≡ j = ap (λ q. right_y q k) (tail-edge (point x y) d a.low) ∙ row in
      let at : spot k side e ≡ j * side + i = ap₂ (λ v u. v * side + u) ej ei in
      record {
        row = row_small side j a.square.small (omega (arith, p.y_below, ej, a.square.small));
        inside = subst (λ q. q < side * side) at p.inside;
        known = region_known a.square e a.on_region;
        after = mark_made k side r map e o ∙ ap (λ q. set map q (r + mark_bit)) at;
      }

  -- The pixel on the right, where the digit k is marked: a column and a row less than in the map with a margin.
  pub right_place : {k : ℕ} → d ≡ k → RightPlace k side r map x y d
  unfolding right_x right_y column_at row_at
  right_place {k} z =
      let ex : x_of (point x y) ≡ x = x_of_point x y a.x_low in
      let ey : y_of (point x y) ≡ y = y_of_point x y a.x_low in
      let s : Side (map_at side map) r (point x y) k =
      subst₂ (Side (map_at side map) r) (tail-edge (point x y) d a.low) (digit-edge (point x y) d a.low ∙ z) a.on_region.side in
      let f = fits (map_at side map) (at_margin side map a.square.small) r (column_at (x_of (point x y)) k) (row_at (y_of (point x y)) k)
      a.on_region.a_region (around_at (map_at side map) (point x y) k ∙ s.on_right) in
      let p : MarkPlace k side r map x y d (column_at x k - 1) (row_at y k - 1) =
      mark-place z (right_column (point x y) k ex) (right_row (point x y) k ey) in
      record {
        column_above = subst (λ v. 0 < column_at v k) ex f.0;
        row_above = subst (λ v. 0 < row_at v k) ey f.2;
        place = p;
        small = omega (arith, p.inside, row_small side side a.square.small a.square.small);
      }

  pub no_mark : (k : ℕ) → d ≢ k → mark k side r map (edge (point x y) d) ≡ map
  no_mark k n = mark_other k side r map (edge (point x y) d) (λ h. n (sym (digit-edge (point x y) d a.low) ∙ h))

  -- One unit on.
  pub moved_on : {x' y' : ℕ} → x' ≡ move_x x d → y' ≡ move_y y d → Moved x y d x' y'
  moved_on hx hy = moved way_at a.low hx hy

  -- After its mark.
  module _ (k : ℕ) {map' : List ℕ} (hm : map' ≡ mark k side r map (edge (point x y) d)) where
    pub long_then : length map' ≡ length map
    long_then = ap length hm ∙ length-mark k side r map (edge (point x y) d)

    pub square_then : Square side map'
    square_then = record { small = a.square.small; room = omega (arith, a.square.room, long_then) }

    pub map_then : map_at side map' ≡ map_at side map
    map_then = ap (map_at side) hm ∙ map-kept a.square k (edge (point x y) d) a.on_region

    -- The code's next edge is the step's.
    pub stepped : {x' y' o : ℕ} → x' ≡ move_x x d → y' ≡ move_y y d → o ≡ turn (map_at side map') r (point x' y') d
        → edge (point x' y') o ≡ step (map_at side map) (edge (point x y) d)
    unfolding head
    stepped {x'} {y'} hx hy ho =
        let e : ℕ = edge (point x y) d in
        let here : digit e ≡ d = digit-edge (point x y) d a.low in
        let q : point x' y' ≡ head e = (moved_on hx hy).point_is ∙ sym (ap₂ move here (tail-edge (point x y) d a.low)) in
        ap₂ edge q (ho ∙ ap₂ (λ m p. turn m r p d) map_then q ∙ ap (turn (map_at side map) r (head e)) (sym here))
        ∙ sym (step_is (map_at side map) (at_margin side map a.square.small) r e a.on_region)

-- The code's test for the edge from which a walk began.
pub at_start : (column row x y d : ℕ) → 4 * (512 * y + x) + d ≡ 4 * (512 * row + column) → edge (point x y) d ≡ edge (point column row) 0
unfolding edge point
at_start column row x y d h = omega arith

pub not_at_start : (column row x y d : ℕ) → 4 * (512 * y + x) + d ≢ 4 * (512 * row + column) → edge (point x y) d ≢ edge (point column row) 0
unfolding edge point
not_at_start column row x y d n h = n (omega arith)

-- The same test field by field, as the code's `==` makes it.
abbrev pub same_edge : ℕ → ℕ → ℕ → ℕ → ℕ → Bool
same_edge column row x y d = eqb x column && (eqb y row && eqb d 0)

pub is_start : (column row x y d : ℕ) → same_edge column row x y d ≡ true → 4 * (512 * y + x) + d ≡ 4 * (512 * row + column)
is_start column row x y d h = grind (arith, common_steps)

pub is_no_start : (column row x y d : ℕ) → column < 512 → x ≤ 256 → d < 4 → same_edge column row x y d ≡ false → 4 * (512 * y + x) + d ≢ 4 * (512 * row + column)
is_no_start column row x y d low_column low_x low_d h = grind (arith, common_steps)
