-- The unit edges of all regions are the unit sides of the listed outlines, each once: they are equally many.
use Rattle.std.specs.Prelude.{◌≡◌, refl, ◌↔◌, length, get_or}
use Rattle.std.proofs.Common.{sym, ap, ◌∙◌, length-append}
use mathlib.Core.List.{List, [], ◌∷◌, flat_map}
use Prim.Native.Nat.{ℕ, zero, suc, ◌+◌, ◌^◌, ◌≤◌, ◌<◌}
use Rattle.std.proofs.Math.Decide.{ℕ_discrete}
use native.Mathlib.Omega.{arith}
use Rattle.interleaving.specs.Codes.{code}
use Rattle.lattice.specs.Directions.{point, x_of, y_of, edge, tail, digit}
use Rattle.orbits.specs.Members.{In, in_first, in_later, in_flat, flat_in}
use Rattle.grid.specs.Map.{region_at}
use Rattle.grid.specs.Margins.{Pixel, pixel_at, region-inside}
use Rattle.grid.specs.Steps.{Edge}
use Rattle.grid.specs.Undoing.{digit-below_four}
use Rattle.grid.specs.Sides.{side_at, side_parts, right_x, right_y, RightOf, edge_is_side}
use Rattle.grid.specs.North.{side_small}
use Rattle.grid.specs.Cycles.{cycle, north_side}
use Rattle.grid.specs.Listing.{start_codes}
use Rattle.grid.specs.Returning.{ring}
use Rattle.grid.specs.Starting.{StartAt, margin}
use Rattle.grid.specs.Keeping.{start-codes_distinct}
use Rattle.grid.specs.Listed.{listing-length, listed_start, CycleThrough, find}
use Rattle.grid.specs.Bounds.{edges_distinct}
use Rattle.winding.specs.Sums.{same, same_yes, same_no, sum}
use Rattle.winding.specs.Tallies.{tally, occurrences, occurrences_none, occurrences_one}
use Rattle.one_pixel.specs.OneOfMany.{sum-zero, sum_only}
use Rattle.one_pixel.specs.SideSums.{over_sides, sides_same, sides_none, sides-add}
use Rattle.one_pixel.specs.UnitEdges.{edge_at, unit_edges, edge_exactly, edges_over_sides}

-- ---- lists of lists

sum_first : (k : ℕ) (f : ℕ → ℕ) → sum (suc k) f ≡ f 0 + sum k (λ i. f (suc i))
unfolding sum
sum_first zero f = omega arith
sum_first (suc k) f = omega (arith, sum_first k f)

length-flat : (f : ℕ → List ℕ) (l : List ℕ) → length (flat_map f l) ≡ sum (length l) (λ k. length (f (get_or l k 0)))
unfolding sum flat_map
length-flat f [] = refl
length-flat f (x ∷ l) =
    omega (arith, length-append (f x) (flat_map f l), length-flat f l, sum_first (length l) (λ k. length (f (get_or (x ∷ l) k 0))))

-- ---- sides of pixels as edges

-- The pixel on the right of its side d is that pixel.
right_of_side : (x y d : ℕ) → x < 511 → (right_x (tail (side_at x y d)) d ≡ x) × (right_y (tail (side_at x y d)) d ≡ y)
unfolding side_at point edge tail right_x right_y x_of y_of
right_of_side x y zero low = (omega arith, omega arith)
right_of_side x y (suc zero) low = (omega arith, omega arith)
right_of_side x y (suc (suc zero)) low = (omega arith, omega arith)
right_of_side x y (suc (suc (suc d))) low = (omega arith, omega arith)

-- So an edge is one side of one pixel.
one_side : (w x y e : ℕ) → w < 511 → x < w → y < w → e ≡ side_at x y (digit e) → over_sides w (λ i j d. same (side_at i j d) e) ≡ 1
unfolding over_sides
one_side w x y e low a b side =
    sum_only 4 (digit e) _ (digit-below_four e) (λ d h other. sum-zero w _ (λ j l. sum-zero w _ (λ i k. same_no (side_at i j d) e (λ q. other (way i j d k h q)))))
    ∙ sum_only w y _ b (λ j l other. sum-zero w _ (λ i k. same_no (side_at i j (digit e)) e (λ q. other (place i j k q).1)))
    ∙ sum_only w x _ a (λ i k other. same_no (side_at i y (digit e)) e (λ q. other (place i y k q).0))
    ∙ same_yes (side_at x y (digit e)) e (sym side)
  where
    way : (i j d : ℕ) → i < w → d < 4 → side_at i j d ≡ e → d ≡ digit e
    way i j d k h q = sym (side_parts (λ X Y. 0) i j d (omega arith) h).direction ∙ ap digit q

    place : (i j : ℕ) → i < w → side_at i j (digit e) ≡ e → (i ≡ x) × (j ≡ y)
    place i j k q =
        let there = right_of_side i j (digit e) (omega arith) in
        let here = right_of_side x y (digit e) (omega arith) in (
          sym there.0 ∙ ap (λ (t : ℕ). right_x (tail t) (digit e)) (q ∙ side) ∙ here.0,
          sym there.1 ∙ ap (λ (t : ℕ). right_y (tail t) (digit e)) (q ∙ side) ∙ here.1,
        )

module _ (n : ℕ) (nums : List ℕ) (small : n ≤ 8) where
  abbrev m : ℕ → ℕ → ℕ
  m = region_at n nums

  -- In a list of edges, how often each side stands adds to the length.
  sides_counted : (es : List ℕ) → ((e : ℕ) → In e es → (r : ℕ) × Edge m (suc r) e) → over_sides (2 ^ n) (λ x y d. occurrences (side_at x y d) es) ≡ length es
  unfolding occurrences tally
  sides_counted [] each = sides_none (2 ^ n)
  sides_counted (e ∷ es) each =
      omega (
        arith,
        sides-add (2 ^ n) (λ x y d. same (side_at x y d) e) (λ x y d. occurrences (side_at x y d) es),
        first (each e (in_first e es)),
        sides_counted es (λ a i. each a (in_later a e es i)),
      )
    where
      first : (r : ℕ) × Edge m (suc r) e → over_sides (2 ^ n) (λ x y d. same (side_at x y d) e) ≡ 1
      first (r, h) =
          let x : ℕ = right_x (tail e) (digit e) in
          let y : ℕ = right_y (tail e) (digit e) in
          let s : RightOf m (suc r) e x y = edge_is_side m (margin n nums small) (suc r) e h in
          let p : Pixel n nums (suc x) (suc y) (suc r) = pixel_at n nums (suc x) (suc y) (suc r) (omega arith) s.in_region in
          one_side (2 ^ n) x y e (omega (arith, side_small n small)) (omega (arith, p.from_x, p.x_below)) (omega (arith, p.from_y, p.y_below)) s.the_side

  -- ---- the edges of all listed outlines

  module _ (count : ℕ) (known : (c : ℕ) → c < 4 ^ n → get_or nums c 0 < count) where
    abbrev codes : List ℕ
    codes = start_codes n nums count

    abbrev edges : List ℕ
    edges = flat_map (cycle n nums) (start_codes n nums count)

    only_edges : (e : ℕ) → In e edges → (r : ℕ) × Edge m (suc r) e
    unfolding cycle
    only_edges e i =
        let f = in_flat (cycle n nums) codes e i in
        let s : StartAt n nums f.0 = listed_start n nums count small f.0 f.1 in
        (get_or nums f.0 0, (ring m (margin n nums small) (suc (get_or nums f.0 0)) (north_side n f.0) s.north).edges e f.2)

    all_edges : (r e : ℕ) → Edge m (suc r) e → In e edges
    all_edges r e h =
        let f : CycleThrough n nums count small known r e = find n nums count small known r e h in
        flat_in (cycle n nums) codes (get_or codes f.cycle-number 0) e
        (f.cycle-number, omega (arith, f.listed, listing-length n nums count), refl) f.stands

    -- Among them a side stands once where it is an edge, and else not at all.
    edge_once : (x y d : ℕ) → x < 2 ^ n → y < 2 ^ n → d < 4 → occurrences (side_at x y d) edges ≡ edge_at m x y d
    unfolding edge_at
    edge_once x y d a b h = pick (ℕ_discrete (edge_at m x y d) 1)
      where
        exactly : (r : ℕ) → Edge m (suc r) (side_at x y d) ↔ ((m (suc x) (suc y) ≡ suc r) × (edge_at m x y d ≡ 1))
        exactly r = edge_exactly m (suc r) x y d (omega (arith, side_small n small)) h (omega arith)

        pick : Dec (edge_at m x y d ≡ 1) → occurrences (side_at x y d) edges ≡ edge_at m x y d
        pick (yes one) =
            occurrences_one (side_at x y d) edges (edges_distinct n nums small codes (start-codes_distinct n nums count) (listed_start n nums count small))
            (all_edges (get_or nums (code n x y) 0) (side_at x y d) ((exactly (get_or nums (code n x y) 0)).1 (region-inside n nums x y a b, one)))
            ∙ sym one
        pick (no other) =
            occurrences_none (side_at x y d) edges (λ i. let e = only_edges (side_at x y d) i in other ((exactly e.0).0 e.1).1)
            ∙ omega arith

    edges_counted : length edges ≡ unit_edges n nums count
    edges_counted =
        sym (sides_counted edges only_edges) ∙ sides_same (2 ^ n) _ (edge_at m) edge_once ∙ sym (edges_over_sides n nums count known)

-- The unit sides of all listed outlines are as many as the unit edges of all regions.
pub listed_sides_are_unit_edges : (n : ℕ) (nums : List ℕ) → n ≤ 8 → (count : ℕ) → ((c : ℕ) → c < 4 ^ n → get_or nums c 0 < count)
    → sum (length (start_codes n nums count)) (λ k. length (cycle n nums (get_or (start_codes n nums count) k 0))) ≡ unit_edges n nums count
listed_sides_are_unit_edges n nums small count known =
    sym (length-flat (cycle n nums) (start_codes n nums count)) ∙ edges_counted n nums small count known
