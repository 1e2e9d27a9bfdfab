-- The cycle that starts at a pixel of the map that a list holds, and what the marks of its edges with the digit k leave.
use Rattle.std.specs.Prelude.{◌≡◌, ◌≢◌, ◌⊎◌, ◌↔◌, List, length}
use Rattle.std.proofs.Math.Path.{sym, ap, ap₂, subst, subst₂}
use Rattle.std.proofs.Common.{◌∙◌, arith}
use Rattle.std.proofs.Math.Logic.{inl, inr}
use Prim.Native.Nat.{ℕ, zero, suc, ◌+◌, ◌*◌, ◌/◌, ◌%◌, ◌^◌, ◌≤◌, ◌<◌}
use Rattle.std.proofs.Math.Arith.{digits_lt, digits_div, digits_mod}
use Rattle.std.proofs.Math.ListN.{get_or}
use Rattle.sequences.specs.Powers.{square_of_side}
use Rattle.interleaving.specs.Codes.{code, column, row}
use Rattle.interleaving.specs.Interleaving.{column-below, column_of_code, row_of_code}
use Rattle.location.specs.Levels.{side_of, side_is_power}
use Rattle.quadtree.specs.Raster.{place}
use Rattle.lattice.specs.Directions.{point, x_of, y_of, edge, tail, digit}
use Rattle.lattice.specs.Walks.{last_of}
use Rattle.orbits.specs.Members.{In}
use Rattle.grid.specs.Map.{region_at}
use Rattle.grid.specs.Margins.{Margin}
use Rattle.grid.specs.Steps.{Edge, step}
use Rattle.grid.specs.Undoing.{no_digit, back, back_step}
use Rattle.grid.specs.Cycles.{cycle_from, corner_of, north_side, cycle}
use Rattle.grid.specs.Sides.{side_at, side_parts, right_x, right_y}
use Rattle.grid.specs.North.{side_small}
use Rattle.grid.specs.Returning.{ring}
use Rattle.grid.specs.Starting.{StartAt, margin}
use Rattle.grid.specs.Closing.{others, Last, last_edge, start-turns}
use Rattle.steps.specs.Look.{mark_bit, map_at, Square, row_small}
use Rattle.cycles.specs.Mapped.{nums_of, Mapped, Marked, entry_of_pixel, same_nums, map_is_region}
use Rattle.cycles.specs.Marks.{spot, marks, length-marks, Held, held-edges, RightPixel, right_pixel, MarkOf}
use Rattle.cycles.specs.Marks.{marks_same, marks_bounded, marks-beyond, marks-keep, marks-set, marks_tell}
use Rattle.cycles.specs.Rounds.{FirstEdge}

-- A cycle starts at the pixel (x, y) of the map.
pub record CycleStart (n : ℕ) (map : List ℕ) (x y : ℕ) : Type 0 where
  pub small : n ≤ 8
  pub mapped : Mapped n map
  pub x_inside : x < 2 ^ n
  pub y_inside : y < 2 ^ n
  pub starts : StartAt n (nums_of n map) (code n x y)

-- The edges with the digit k of the cycle that starts at the pixel with the code c are marked. So the map's numbers and what lies
-- beyond it are as they were, and marked are the pixels that were and those whose sides in the direction k are on the cycle.
pub record CycleMarked (k n : ℕ) (map : List ℕ) (c : ℕ) (map' : List ℕ) : Type 0 where
  pub in_map : map' ≡ marks k (2 ^ n) (suc (get_or (nums_of n map) c 0)) (cycle n (nums_of n map) c) map
  pub mapped : Mapped n map'
  pub same_numbers : nums_of n map' ≡ nums_of n map
  pub same_length : length map' ≡ length map
  pub beyond : (j : ℕ) → 4 ^ n ≤ j → get_or map' j 0 ≡ get_or map j 0
  pub marked : (q : ℕ) → q < 4 ^ n → Marked n map' q ↔ (Marked n map q ⊎ In (side_at (column n q) (row n q) k) (cycle n (nums_of n map) c))

-- On the right of a side of the pixel (x, y) is that pixel.
right_of_side : (x y k : ℕ) → x < 511 → k < 4 → (right_x (tail (side_at x y k)) k ≡ x) × (right_y (tail (side_at x y k)) k ≡ y)
unfolding side_at right_x right_y point x_of y_of edge tail
right_of_side x y zero h l = (omega arith, omega arith)
right_of_side x y (suc zero) h l = (omega arith, omega arith)
right_of_side x y (suc (suc zero)) h l = (omega arith, omega arith)
right_of_side x y (suc (suc (suc zero))) h l = (omega arith, omega arith)
right_of_side x y (suc (suc (suc (suc k)))) h l = no_digit k l

module _ {n x y : ℕ} {map : List ℕ} (h : CycleStart n map x y) where
  -- The numbers of the pixels and the map with a margin; of the pixel (x, y) the code, the north side, the region, the entry and the cycle.
  abbrev nums : List ℕ
  nums = nums_of n map

  abbrev m : ℕ → ℕ → ℕ
  m = region_at n nums

  abbrev c : ℕ
  c = code n x y

  abbrev s : ℕ
  s = north_side n c

  abbrev region : ℕ
  region = suc (get_or nums c 0)

  abbrev entry_here : ℕ
  entry_here = get_or map (y * 2 ^ n + x) 0 % mark_bit

  abbrev edges : List ℕ
  edges = cycle n nums c

  pub same_map : map_at (2 ^ n) map ≡ m
  same_map = map_is_region n map h.mapped

  pub north-here : s ≡ edge (point x y) 0
  unfolding north_side corner_of
  north-here = ap₂ (λ a b. edge (point a b) 0) (column_of_code n x y h.x_inside) (row_of_code n x y h.y_inside)

  region-here : entry_here ≡ region
  region-here = entry_of_pixel n map x y h.mapped h.x_inside h.y_inside

  pub its_edges : cycle_from (map_at (2 ^ n) map) (edge (point x y) 0) ≡ edges
  unfolding cycle
  its_edges = ap₂ cycle_from same_map (sym north-here)

  square : Square (2 ^ n) map
  square = record { small = side_small n h.small; room = omega (arith, h.mapped.long, square_of_side n) }

  g : Margin m
  g = margin n nums h.small

  -- The start turns: a step leads to it from the last edge alone.
  its_corner : (e : ℕ) → Edge m region e → step m e ≡ s → digit e ≢ digit s
  its_corner e k q t =
      let l : Last m s = last_edge m g region s h.starts.north in
      let z : Edge m region (last_of s (others m s)) = (ring m g region s h.starts.north).edges (last_of s (others m s)) l.on_cycle in
      let same : e ≡ last_of s (others m s) = sym (back_step m g region e k) ∙ ap (back m) (q ∙ sym l.leads) ∙ back_step m g region (last_of s (others m s)) z in
      start-turns n nums h.small c h.starts (ap digit (sym same) ∙ t)

  -- In the code's numbers.
  pub first_edge : FirstEdge (2 ^ n) entry_here (edge (point x y) 0) map
  first_edge = record {
    square = square;
    on_region = subst (λ a. Edge a entry_here (edge (point x y) 0)) (sym same_map) (subst₂ (Edge m) (sym region-here) north-here h.starts.north);
    corner = λ e k q t. its_corner e (subst₂ (λ a r. Edge a r e) same_map region-here k)
        (ap (λ a. step a e) (sym same_map) ∙ q ∙ sym north-here) (t ∙ ap digit (sym north-here));
  }

  -- The cycle keeps to the map.
  edge_of_cycle : (e : ℕ) → In e edges → Edge (map_at (2 ^ n) map) entry_here e
  unfolding cycle
  edge_of_cycle e i = subst₂ (λ a r. Edge a r e) (sym same_map) (sym region-here) ((ring m g region s h.starts.north).edges e i)

  module _ (k : ℕ) (low : k < 4) {map' : List ℕ}
      (w : map' ≡ marks k (2 ^ n) entry_here (cycle_from (map_at (2 ^ n) map) (edge (point x y) 0)) map) where
    held-here : Held k (2 ^ n) entry_here (2 ^ n * 2 ^ n) edges map
    held-here = held-edges square k (edge (point x y) 0) edges first_edge.on_region edge_of_cycle

    its_marks : map' ≡ marks k (2 ^ n) entry_here edges map
    its_marks = w ∙ ap (λ es. marks k (2 ^ n) entry_here es map) its_edges

    entry : (j : ℕ) → get_or map' j 0 ≡ get_or (marks k (2 ^ n) entry_here edges map) j 0
    entry j = ap (λ l. get_or l j 0) its_marks

    same_entries : (j : ℕ) → get_or map' j 0 % mark_bit ≡ get_or map j 0 % mark_bit
    same_entries j = ap (λ v. v % mark_bit) (entry j) ∙ marks_same held-here j

    long_as_before : length map' ≡ length map
    long_as_before = ap length its_marks ∙ length-marks k (2 ^ n) entry_here edges map

    narrow : (q : ℕ) → column n q < 511
    narrow q = omega (arith, column-below n q, side_small n h.small)

    spot_of_side : (q : ℕ) → spot k (2 ^ n) (side_at (column n q) (row n q) k) ≡ place n q
    unfolding spot place
    spot_of_side q =
        let p = right_of_side (column n q) (row n q) k (narrow q) low in
        ap₂ (λ j i. j * 2 ^ n + i) p.1 p.0

    -- The pixel that an edge of the cycle marks has it as its side.
    marks_side : (q : ℕ) → MarkOf k (2 ^ n) edges (place n q) → In (side_at (column n q) (row n q) k) edges
    unfolding spot place
    marks_side q f =
        let e : ℕ = f.from in
        let p : RightPixel k (2 ^ n) entry_here map e = right_pixel square e (edge_of_cycle e f.stands) f.its_digit in
        let i : right_x (tail e) k ≡ column n q =
        sym (digits_mod (right_y (tail e) k) p.x_below) ∙ ap (λ v. v % 2 ^ n) f.place ∙ digits_mod (row n q) (column-below n q) in
        let j : right_y (tail e) k ≡ row n q =
        sym (digits_div (right_y (tail e) k) p.x_below) ∙ ap (λ v. v / 2 ^ n) f.place ∙ digits_div (row n q) (column-below n q) in
        subst (λ b. In b edges) (p.the_side ∙ ap₂ (λ a b. side_at a b k) i j) f.stands

    marked_there : (q : ℕ) → Marked n map' q ↔ (Marked n map q ⊎ In (side_at (column n q) (row n q) k) edges)
    unfolding Marked
    marked_there q = (
      λ b. tell (marks_tell held-here (place n q) (subst (λ v. mark_bit ≤ v) (entry (place n q)) b)),
      λ b. subst (λ v. mark_bit ≤ v) (sym (entry (place n q))) (set b),
    )
      where
        tell : (mark_bit ≤ get_or map (place n q) 0) ⊎ MarkOf k (2 ^ n) edges (place n q)
            → (mark_bit ≤ get_or map (place n q) 0) ⊎ In (side_at (column n q) (row n q) k) edges
        tell (inl b) = inl b
        tell (inr f) = inr (marks_side q f)

        set : (mark_bit ≤ get_or map (place n q) 0) ⊎ In (side_at (column n q) (row n q) k) edges
            → mark_bit ≤ get_or (marks k (2 ^ n) entry_here edges map) (place n q) 0
        set (inl b) = marks-keep held-here (place n q) b
        set (inr i) =
            subst (λ j. mark_bit ≤ get_or (marks k (2 ^ n) entry_here edges map) j 0) (spot_of_side q)
            (marks-set held-here (side_at (column n q) (row n q) k) i (side_parts m (column n q) (row n q) k (narrow q) low).direction)

    pub cycle_marked_lem : CycleMarked k n map c map'
    cycle_marked_lem = record {
      in_map = its_marks ∙ ap (λ r. marks k (2 ^ n) r edges map) region-here;
      mapped = record {
        long = omega (arith, h.mapped.long, long_as_before);
        numbered = λ j l. omega (arith, h.mapped.numbered j l, same_entries j);
        bounded = λ j l. omega (arith, entry j, marks_bounded held-here j (h.mapped.bounded j l));
      };
      same_numbers = same_nums n map map' (λ j l. same_entries j);
      same_length = long_as_before;
      beyond = λ j l. entry j ∙ marks-beyond held-here j (omega (arith, square_of_side n));
      marked = λ q l. marked_there q;
    }

  -- The code's side, and what its numbers keep below.
  module _ {side : ℕ} (e : side ≡ side_of n) where
    pub side_here : side ≡ 2 ^ n
    side_here = e ∙ side_is_power n (omega (arith, h.small))

    pub record PixelBounds : Type 0 where
      pub side_low : side ≤ 256
      pub row : y * side ≤ 65536
      pub inside : y * side + x < length map
      pub x_low : x < 256
      pub y_low : y < 256

    pub pixel_bounds : PixelBounds
    pixel_bounds =
        let w : 2 ^ n ≤ 256 = side_small n h.small in
        let b : x < 256 = omega (arith, h.x_inside) in
        let d : y < 256 = omega (arith, h.y_inside) in
        let i : y * side + x < side * side = digits_lt (omega (arith, side_here, h.y_inside)) (omega (arith, side_here, h.x_inside)) in
        record {
          side_low = omega (arith, side_here);
          row = row_small side y (omega (arith, side_here)) (omega arith);
          inside = omega (arith, i, ap (λ s. s * s) side_here, square_of_side n, h.mapped.long);
          x_low = b;
          y_low = d;
        }
