-- All edges of a region, each once: they wind once around each of its pixels and not around any other, so their area is the number of its
-- pixels.
use Rattle.std.specs.Prelude.{◌≡◌, refl, ◌≢◌, List, ℕ, zero, suc, ◌+◌, ◌-◌, ◌<◌, pos}
use Rattle.std.proofs.Common.{sym, ap, ◌∙◌, arith}
use Rattle.std.proofs.Math.Decide.{ℕ_discrete}
use Rattle.sequences.specs.Differences.{difference_pos}
use Rattle.lattice.specs.Directions.{point, edge}
use Rattle.lattice.specs.Area.{area}
use Rattle.orbits.specs.Members.{In, Distinct}
use Rattle.grid.specs.Steps.{Edge}
use Rattle.grid.specs.Sides.{side_at, beyond, side_is_edge}
use Rattle.winding.specs.Sums.{same, same_yes, same_no}
use Rattle.winding.specs.Crossings.{crossings, Winds, x_sum, area_is_difference}
use Rattle.winding.specs.Pixels.{over_pixels, pixels_same, pixels-add, AllFit, x_sum_over_pixels, no_crossings_east}
use Rattle.winding.specs.Neighbours.{Neighbours, beside_west, neighbours_back, crossed, both_inside, both_outside}

module _ (m : ℕ → ℕ → ℕ) (r : ℕ) (a_region : 0 < r) (es : List ℕ) (edges : (e : ℕ) → In e es → Edge m r e) (once : Distinct es)
    (all : (e : ℕ) → Edge m r e → In e es) where
  -- The winding number around (X, Y) is 1 where the place lies in the region, else 0.
  abbrev WindsInside : ℕ → ℕ → Type 0
  WindsInside X Y = Winds (same (m X Y) r) es X Y

  -- So it is around the pixel (x, y) where it is so around the next place to the east.
  westward : (x y : ℕ) → suc x < 511 → WindsInside (suc (suc x)) (suc y) → WindsInside (suc x) (suc y)
  unfolding side_at beyond
  westward x y low east = pick (ℕ_discrete (m (suc (suc x)) (suc y)) r) (ℕ_discrete (m (suc x) (suc y)) r)
    where
      n : Neighbours m r es (edge (point (suc x) (suc y)) 1) (edge (point (suc x) y) 3) (suc (suc x)) (suc y) (suc x) (suc y)
      n = beside_west m r es edges (suc x) y low

      pick : Dec (m (suc (suc x)) (suc y) ≡ r) → Dec (m (suc x) (suc y) ≡ r) → WindsInside (suc x) (suc y)
      pick (yes a) (yes b) = omega (arith, east, both_inside n a b, same_yes (m (suc (suc x)) (suc y)) r a, same_yes (m (suc x) (suc y)) r b)
      pick (yes a) (no b) =
          let i : In (edge (point (suc x) (suc y)) 1) es = all (side_at (suc x) y 1) ((side_is_edge m r (suc x) y 1 low (omega arith) a_region a).1 b) in
          omega (arith, east, crossed n once i, same_yes (m (suc (suc x)) (suc y)) r a, same_no (m (suc x) (suc y)) r b)
      pick (no a) (yes b) =
          let i : In (edge (point (suc x) y) 3) es = all (side_at x y 3) ((side_is_edge m r x y 3 (omega arith) (omega arith) a_region b).1 a) in
          omega (arith, east, crossed (neighbours_back n) once i, same_no (m (suc (suc x)) (suc y)) r a, same_yes (m (suc x) (suc y)) r b)
      pick (no a) (no b) = omega (arith, east, both_outside n a b, same_no (m (suc (suc x)) (suc y)) r a, same_no (m (suc x) (suc y)) r b)

  -- An image of side w holds the region.
  module _ (w : ℕ) (small : w < 511) (fits : AllFit w es) (none_east : (Y : ℕ) → m (suc w) Y ≢ r) where
    from_east : (k x y : ℕ) → x + k ≡ w → WindsInside (suc x) (suc y)
    from_east zero x y h =
        let e : x ≡ w = omega arith in
        omega (
          arith,
          no_crossings_east w 3 refl (suc x) (suc y) (omega arith) es fits,
          no_crossings_east w 1 refl (suc x) (suc y) (omega arith) es fits,
          same_no (m (suc x) (suc y)) r (λ k. none_east (suc y) (ap (λ (u : ℕ). m (suc u) (suc y)) (sym e) ∙ k)),
        )
    from_east (suc k) x y h = westward x y (omega arith) (from_east k (suc x) y (omega arith))

    pub winds_inside : (x y : ℕ) → x < w → WindsInside (suc x) (suc y)
    winds_inside x y h = from_east (w - x) x y (omega arith)

    pub area_is_pixels : area es ≡ pos (over_pixels w (λ X Y. same (m X Y) r))
    area_is_pixels =
        let pixels : ℕ = over_pixels w (λ X Y. same (m X Y) r) in
        let more : x_sum 3 es ≡ x_sum 1 es + pixels =
        x_sum_over_pixels w 3 refl es fits
        ∙ pixels_same w (crossings 3 es) (λ X Y. crossings 1 es X Y + same (m X Y) r) (λ x y a b. winds_inside x y a)
        ∙ pixels-add w (crossings 1 es) (λ X Y. same (m X Y) r)
        ∙ ap (λ (s : ℕ). s + pixels) (sym (x_sum_over_pixels w 1 refl es fits)) in
        area_is_difference es ∙ difference_pos (x_sum 3 es) (x_sum 1 es) (omega (arith, more)) ∙ ap pos (omega (arith, more))
