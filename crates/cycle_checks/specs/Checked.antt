-- The check of one given cycle: what is asked and promised, and that the tests decide it. A walk may begin at its first corner, and matches.
use Rattle.std.specs.Prelude.{◌≡◌, refl, Bool, true, false, not, List, length}
use Rattle.std.proofs.Math.Path.{sym, ap, ap₂}
use Rattle.std.proofs.Common.{◌∙◌, subst, subst₂, add-one}
use Rattle.std.proofs.lemmas.Bool.{false≢true}
use Prim.Native.Nat.{ℕ, suc, ◌+◌, ◌*◌, ◌/◌, ◌%◌, ◌^◌, ◌≤◌, ◌<◌}
use native.Mathlib.Omega.{arith}
use Rattle.std.proofs.Math.ListN.{get_or}
use Rattle.sequences.specs.Powers.{square_of_side}
use Rattle.interleaving.specs.Codes.{code}
use Rattle.interleaving.specs.Interleaving.{code_below, column_of_code, row_of_code}
use Rattle.interleaving.specs.Splitting.{code_wider}
use Rattle.location.specs.Levels.{side_of, side_is_power}
use Rattle.lattice.specs.Directions.{point, x_of, y_of, edge, tail, digit}
use Rattle.lattice.specs.Outlines.{x_of_point, y_of_point, tail-edge, digit-edge}
use Rattle.lattice.specs.Walks.{corners}
use Rattle.orbits.specs.Members.{In}
use Rattle.grid.specs.Map.{region_at}
use Rattle.grid.specs.Steps.{Edge}
use Rattle.grid.specs.Cycles.{cycle_from, corner_of, north_side, cycle, code_right}
use Rattle.grid.specs.Sides.{right_x, right_y}
use Rattle.grid.specs.North.{side_small, Eastward, eastward}
use Rattle.grid.specs.Returning.{ring}
use Rattle.grid.specs.Starting.{StartAt, margin}
use Rattle.grid.specs.Closing.{corners_from_start}
use Rattle.steps.specs.Look.{mark_bit, map_at, Square}
use Rattle.cycles.specs.Mapped.{nums_of, Mapped, entry_of_pixel, map_is_region}
use Rattle.cycles.specs.Marks.{spot, marks, RightPixel, right_pixel, region_known}
use Rattle.cycles.specs.Rounds.{FirstEdge}
use Rattle.cycles.specs.Walking.{corners_from}
use Rattle.cycles.specs.CycleStarts.{CycleStart, CycleMarked, same_map, north-here, its_edges, first_edge, cycle_marked_lem}
use Rattle.given_outlines.specs.Starts.{code_at}
use Rattle.given_outlines.specs.CycleByCycle.{start_told, FromItsStart, first_pixel}
use Rattle.sequences.specs.Says.{Says, says_no, denied}
use Rattle.cycle_checks.specs.Comparing.{Matches, Compared, code_of_edge}

-- The list is a map of regions.
pub record Checkable (n : ℕ) (map : List ℕ) : Type 0 where
  pub small : n ≤ 8
  pub mapped : Mapped n map

-- The answer says whether the corners `points`, owned by the region `owner`, are a cycle of the map from its start. Where they are, its
-- eastward edges are marked; where not, the content of the map is free.
pub record CycleChecked (n owner : ℕ) (points map map' : List ℕ) (ok : Bool) : Type 0 where
  pub long : length map' ≡ length map
  pub answer : Says ok (FromItsStart n (nums_of n map) owner points)
  pub marked : ok ≡ true → CycleMarked 0 n map (start_told n points) map'

-- A point told by its coordinates.
coordinates : (x y p : ℕ) → x < 512 → p ≡ point x y → (x_of p ≡ x) × (y_of p ≡ y)
coordinates x y p h e = (ap x_of e ∙ x_of_point x y h, ap y_of e ∙ y_of_point x y h)

-- The first corner of the cycle is (x, y).
record FirstCorner (n : ℕ) (points map : List ℕ) (x y : ℕ) : Type 0 where
  pub small : n ≤ 8
  pub mapped : Mapped n map
  pub narrow : x < 512
  pub told : get_or points 0 0 ≡ point x y

module _ {n x y : ℕ} {points map : List ℕ} (h : FirstCorner n points map x y) where
  -- The start pixel that the first corner (x, y) tells.
  its_code : start_told n points ≡ code n x y
  unfolding code_at
  its_code = let c = coordinates x y (get_or points 0 0) h.narrow h.told in ap₂ (code n) c.0 c.1

  -- ---- from the walk to the definition

  module _ (owner : ℕ) (first : FirstEdge (2 ^ n) (owner + 1) (edge (point x y) 0) map) where
    pixel : RightPixel 0 (2 ^ n) (owner + 1) map (edge (point x y) 0)
    pixel = right_pixel first.square (edge (point x y) 0) first.on_region (digit-edge (point x y) 0 (omega arith))

    x-is : right_x (tail (edge (point x y) 0)) 0 ≡ x
    unfolding right_x
    x-is = ap x_of (tail-edge (point x y) 0 (omega arith)) ∙ x_of_point x y h.narrow

    y_is : right_y (tail (edge (point x y) 0)) 0 ≡ y
    unfolding right_y
    y_is = ap y_of (tail-edge (point x y) 0 (omega arith)) ∙ y_of_point x y h.narrow

    x_inside : x < 2 ^ n
    x_inside = omega (arith, pixel.x_below, x-is)

    y_inside : y < 2 ^ n
    y_inside = omega (arith, pixel.y_below, y_is)

    owner_here : owner ≡ get_or (nums_of n map) (code n x y) 0
    unfolding spot
    owner_here =
        let e : get_or map (y * 2 ^ n + x) 0 % mark_bit ≡ owner + 1 = ap₂ (λ (i j : ℕ). get_or map (j * 2 ^ n + i) 0 % mark_bit) (sym x-is) (sym y_is) ∙ pixel.here in
        omega (arith, e, entry_of_pixel n map x y h.mapped x_inside y_inside)

    north_is : north_side n (code n x y) ≡ edge (point x y) 0
    unfolding north_side corner_of
    north_is = ap₂ (λ (a b : ℕ). edge (point a b) 0) (column_of_code n x y x_inside) (row_of_code n x y y_inside)

    north : Edge (region_at n (nums_of n map)) (suc (get_or (nums_of n map) (code n x y) 0)) (north_side n (code n x y))
    north =
        subst (λ (m : ℕ → ℕ → ℕ). Edge m (suc (get_or (nums_of n map) (code n x y) 0)) (north_side n (code n x y))) (map_is_region n map h.mapped)
        (subst₂ (Edge (map_at (2 ^ n) map)) (add-one owner ∙ ap suc owner_here) (sym north_is) first.on_region)

    same_code : (e : ℕ) → In e (cycle n (nums_of n map) (code n x y)) → digit e ≡ 0 → code_right 8 e ≡ code_right n e
    unfolding cycle code_right
    same_code e i z =
        let r : ℕ = suc (get_or (nums_of n map) (code n x y) 0) in
        let g : Edge (region_at n (nums_of n map)) r e = (ring (region_at n (nums_of n map)) (margin n (nums_of n map) h.small) r (north_side n (code n x y)) north).edges e i in
        let w : Eastward n (nums_of n map) h.small r e = eastward n (nums_of n map) h.small r e g z in
        code_wider n 8 (x_of (tail e)) (y_of (tail e)) h.small w.x_below w.y_below

    starts-here : Matches (2 ^ n) (edge (point x y) 0) map points → StartAt n (nums_of n map) (code n x y)
    unfolding cycle
    starts-here a = record {
      inside = code_below n x y;
      north = north;
      least = λ e i z. omega (
        arith,
        a.least e (subst (In e) (ap₂ cycle_from (sym (map_is_region n map h.mapped)) north_is) i) z,
        code_of_edge x y 0 h.narrow (omega arith),
        code_wider n 8 x y h.small x_inside y_inside,
        same_code e i z,
      );
    }

  -- The cycle that starts at (x, y): its entry in the map, and its corners.
  cycle_start : x < 2 ^ n → y < 2 ^ n → StartAt n (nums_of n map) (code n x y) → CycleStart n map x y
  cycle_start a b s = record { small = h.small; mapped = h.mapped; x_inside = a; y_inside = b; starts = s }

  module _ (c : CycleStart n map x y) where
    walk-corners : corners_from (map_at (2 ^ n) map) (edge (point x y) 0) ≡ corners (cycle n (nums_of n map) (start_told n points))
    unfolding corners_from
    walk-corners =
        ap₂ corners_from (same_map c) (sym (north-here c)) ∙ sym (corners_from_start n (nums_of n map) h.small (code n x y) c.starts)
        ∙ ap (λ (d : ℕ). corners (cycle n (nums_of n map) d)) (sym its_code)

    entry_is : (owner : ℕ) → owner ≡ get_or (nums_of n map) (code n x y) 0 → get_or map (y * 2 ^ n + x) 0 % mark_bit ≡ owner + 1
    entry_is owner e = entry_of_pixel n map x y h.mapped c.x_inside c.y_inside ∙ ap suc (sym e) ∙ sym (add-one owner)

  module _ (owner : ℕ) (first : FirstEdge (2 ^ n) (owner + 1) (edge (point x y) 0) map) (a : Matches (2 ^ n) (edge (point x y) 0) map points) where
    started : CycleStart n map x y
    started = cycle_start (x_inside owner first) (y_inside owner first) (starts-here owner first a)

    from_its_start : FromItsStart n (nums_of n map) owner points
    from_its_start = record {
      starts = subst (StartAt n (nums_of n map)) (sym its_code) started.starts;
      its_owner = owner_here owner first ∙ ap (λ (d : ℕ). get_or (nums_of n map) d 0) (sym its_code);
      its_corners = a.corners_are ∙ walk-corners started;
    }

    its_marks : {map' : List ℕ} → map' ≡ marks 0 (2 ^ n) (owner + 1) (cycle_from (map_at (2 ^ n) map) (edge (point x y) 0)) map
        → CycleMarked 0 n map (start_told n points) map'
    its_marks {map'} w =
        subst (λ (d : ℕ). CycleMarked 0 n map d map') (sym its_code) (cycle_marked_lem started 0 (omega arith)
        (w ∙ ap (λ (r : ℕ). marks 0 (2 ^ n) r (cycle_from (map_at (2 ^ n) map) (edge (point x y) 0)) map) (sym (entry_is started owner (owner_here owner first)))))

  -- ---- from the definition to the walk

  module _ (owner : ℕ) (f : FromItsStart n (nums_of n map) owner points) where
    start-here : CycleStart n map x y
    start-here =
        let p = first_pixel h.small f in
        let c = coordinates x y (get_or points 0 0) h.narrow h.told in
        cycle_start (omega (arith, p.x_inside, c.0)) (omega (arith, p.y_inside, c.1)) (subst (StartAt n (nums_of n map)) its_code f.starts)

    its_first_edge : FirstEdge (2 ^ n) (owner + 1) (edge (point x y) 0) map
    its_first_edge =
        subst (λ (r : ℕ). FirstEdge (2 ^ n) r (edge (point x y) 0) map)
        (entry_is start-here owner (f.its_owner ∙ ap (λ (d : ℕ). get_or (nums_of n map) d 0) its_code)) (first_edge start-here)

    its_match : Matches (2 ^ n) (edge (point x y) 0) map points
    its_match = record {
      corners_are = f.its_corners ∙ sym (walk-corners start-here);
      least = λ e i z.
          let k : In e (cycle n (nums_of n map) (code n x y)) = subst (In e) (its_edges start-here) i in
          omega (
            arith,
            start-here.starts.least e k z,
            code_of_edge x y 0 h.narrow (omega arith),
            code_wider n 8 x y h.small start-here.x_inside start-here.y_inside,
            same_code owner its_first_edge e k z,
          );
    }

-- ---- the tests in the code's order

module _ {n : ℕ} {map : List ℕ} (ok : Checkable n map) (points : List ℕ) where
  first-corner : FirstCorner n points map (get_or points 0 0 % 512) (get_or points 0 0 / 512)
  unfolding point
  first-corner = record { small = ok.small; mapped = ok.mapped; narrow = omega arith; told = omega arith }

module _ {n : ℕ} {map : List ℕ} (ok : Checkable n map) (owner : ℕ) (points : List ℕ) where
  refused : (FromItsStart n (nums_of n map) owner points → ⊥) → CycleChecked n owner points map map false
  refused no_cycle = record { long = refl; answer = says_no no_cycle; marked = λ e. absurd (false≢true e) }

  pub no_corner : length points ≡ 0 → CycleChecked n owner points map map false
  no_corner e = refused (λ f. omega (arith, (first_pixel ok.small f).some))

  pub south_of_image : 262144 ≤ get_or points 0 0 → CycleChecked n owner points map map false
  unfolding y_of
  south_of_image big = refused (λ f. omega (arith, (first_pixel ok.small f).y_inside, side_small n ok.small))

  pub no_region : mark_bit ≤ owner → CycleChecked n owner points map map false
  no_region big =
      refused (λ f.
      let first = its_first_edge (first-corner ok points) owner f in
      omega (arith, region_known first.square (edge (point (get_or points 0 0 % 512) (get_or points 0 0 / 512)) 0) first.on_region))

  -- With the code's side.
  module _ {side : ℕ} (e : side ≡ side_of n) where
    side_here : side ≡ 2 ^ n
    side_here = e ∙ side_is_power n (omega (arith, ok.small))

    pub square-here : Square side map
    square-here = record {
      small = omega (arith, side_here, side_small n ok.small);
      room = omega (arith, ap (λ (s : ℕ). s * s) side_here, square_of_side n, ok.mapped.long);
    }

    abbrev its_edge : ℕ
    its_edge = edge (point (get_or points 0 0 % 512) (get_or points 0 0 / 512)) 0

    pub no_walk : {begins : Bool} → Says begins (FirstEdge side (owner + 1) its_edge map) → not begins ≡ true
        → CycleChecked n owner points map map false
    no_walk says no_edge =
        refused (λ f. denied says no_edge (subst (λ (s : ℕ). FirstEdge s (owner + 1) its_edge map) (sym side_here) (its_first_edge (first-corner ok points) owner f)))

    pub walked : {map' : List ℕ} {matches : Bool} → FirstEdge side (owner + 1) its_edge map → Compared side (owner + 1) its_edge map points map' matches
        → CycleChecked n owner points map map' matches
    walked {map'} {matches} first compared =
        let f : FirstEdge (2 ^ n) (owner + 1) its_edge map = subst (λ (s : ℕ). FirstEdge s (owner + 1) its_edge map) side_here first in
        let c : Compared (2 ^ n) (owner + 1) its_edge map points map' matches =
        subst (λ (s : ℕ). Compared s (owner + 1) its_edge map points map' matches) side_here compared in
        record {
          long = c.long;
          answer = (λ t. from_its_start (first-corner ok points) owner f (c.answer.0 t), λ g. c.answer.1 (its_match (first-corner ok points) owner g));
          marked = λ t. its_marks (first-corner ok points) owner f (c.answer.0 t) (c.marked t);
        }
