-- The winding number of a cycle around the least pixel of its region, 1 or 0, and which of its two sums of x is the larger one.
use Rattle.std.specs.Prelude.{◌≡◌, refl, ◌≢◌, List, ℕ, zero, suc, ◌%◌, ◌^◌, ◌≤◌, ◌<◌, get_or}
use Rattle.std.proofs.Common.{sym, ap, ◌∙◌, subst, arith}
use Rattle.interleaving.specs.Codes.{column, row}
use Rattle.interleaving.specs.Interleaving.{column-below, row_below}
use Rattle.lattice.specs.Directions.{point, edge}
use Rattle.orbits.specs.Members.{In}
use Rattle.grid.specs.Map.{region_at}
use Rattle.grid.specs.Margins.{region_of_code}
use Rattle.grid.specs.Cycles.{corner_of, north_side, cycle}
use Rattle.grid.specs.North.{side_small}
use Rattle.grid.specs.Starting.{StartAt, one_start}
use Rattle.grid.specs.Outer.{LeastPixel, north_apart, least_starts}
use Rattle.grid.specs.Unseen.{first_in_cycle}
use Rattle.components.specs.Numbers.{numbers}
use Rattle.winding.specs.Crossings.{crossings, Winds, x_sum}
use Rattle.winding.specs.Pixels.{over_pixels, pixels_less, AllFit, x_sum_over_pixels, no_crossings_north}
use Rattle.winding.specs.Neighbours.{ClosedWalk, Neighbours, beside_north, not_crossed, crossed}
use Rattle.winding.specs.Columns.{Between, zero_down, between}
use Rattle.winding.specs.Inside.{cycle_closed, vertical_fits, same_in_region}

-- The cycle from the start c, and the least pixel a of its region.
module _ (n : ℕ) (px : List ℕ) (small : n ≤ 8) (c : ℕ) (begins : StartAt n (numbers n px) c) (a : ℕ) (least : LeastPixel n (numbers n px) a)
    (owner : get_or (numbers n px) a 0 ≡ get_or (numbers n px) c 0) where
  abbrev nums : List ℕ
  nums = numbers n px

  abbrev r : ℕ
  r = suc (get_or (numbers n px) c 0)

  abbrev m : ℕ → ℕ → ℕ
  m = region_at n (numbers n px)

  abbrev es : List ℕ
  es = cycle n (numbers n px) c

  closed : ClosedWalk m r es
  closed = cycle_closed n nums small c begins

  -- Its winding number around the pixel with the code b is k.
  abbrev WindsAround : ℕ → ℕ → Type 0
  WindsAround k b = Winds k es (suc (column n b)) (suc (row n b))

  -- The columns of the image.
  low : (x : ℕ) → x < 2 ^ n → x < 511
  low x h = omega (arith, side_small n small)

  north_of_lem : (b : ℕ)
      → Neighbours m r es (north_side n b) (edge (point (suc (column n b)) (row n b)) 2) (suc (column n b)) (suc (row n b)) (suc (column n b)) (row n b)
  unfolding north_side corner_of
  north_of_lem b = beside_north m r es closed (column n b) (row n b) (low (column n b) (column-below n b))

  fit : AllFit (2 ^ n) es
  fit e i v = vertical_fits n nums r e (closed.edges e i) v

  -- It is 0 north of the image, and further down to the least pixel.
  zero-north : (X : ℕ) → Winds 0 es X 0
  zero-north X = omega (arith, no_crossings_north (2 ^ n) 3 refl X es fit, no_crossings_north (2 ^ n) 1 refl X es fit)

  outside-north : (Z : ℕ) → Z ≤ row n a → m (suc (column n a)) Z ≢ r
  outside-north Z l e = north_apart n nums a least Z l (e ∙ ap suc (sym owner))

  zero_above : Winds 0 es (suc (column n a)) (row n a)
  zero_above = zero_down m r es closed (column n a) (low (column n a) (column-below n a)) (zero-north (suc (column n a))) (row n a) outside-north

  -- Around all pixels of the region it is what it is around the least one.
  pub inside : (k : ℕ) → WindsAround k a → (X Y : ℕ) → m X Y ≡ r → Winds k es X Y
  inside k h X Y e = omega (arith, same_in_region n px small (get_or nums c 0) es closed a least.inside owner X Y e)

  everywhere : (k : ℕ) → k ≤ 1 → WindsAround k a → (x Y : ℕ) → x < 2 ^ n → Between k es (suc x) Y
  everywhere k l h x Y b = between m r es closed x (low x b) (zero-north (suc x)) k l (inside k h) Y

  x_sum_lem : (d : ℕ) → d % 2 ≡ 1 → x_sum d es ≡ over_pixels (2 ^ n) (crossings d es)
  x_sum_lem d v = x_sum_over_pixels (2 ^ n) d v es fit

  -- The first cycle: its winding number is nowhere below 0.
  module _ (first : c ≡ a) where
    once_around_least : WindsAround 1 a
    once_around_least = omega (arith, zero_above, crossed (north_of_lem a) closed.once (subst (λ x. In (north_side n x) es) first (first_in_cycle n nums small c)))

    pub north-below_south : x_sum 1 es < x_sum 3 es
    north-below_south =
        omega (
          arith,
          x_sum_lem 3 refl,
          x_sum_lem 1 refl,
          pixels_less (2 ^ n) (crossings 1 es) (crossings 3 es) (column n a) (row n a) (column-below n a) (row_below n a) (omega (arith, once_around_least))
              (λ x y h k. omega (arith, everywhere 1 (omega arith) once_around_least x (suc y) h)),
        )

  -- Any other cycle of the region: its winding number is nowhere above 0, and -1 around the pixel north of its start.
  module _ (other : c ≢ a) where
    pub not_around_least : WindsAround 0 a
    not_around_least =
        omega (
          arith,
          zero_above,
          not_crossed (north_of_lem a)
              (λ i. other (one_start n nums small c a (north_side n a) begins (least_starts n nums small a least) i (first_in_cycle n nums small a)))
              (λ i. outside-north (row n a) (omega arith) ((north_of_lem a).on_left i).0),
        )

    north_of_start : suc (crossings 3 es (suc (column n c)) (row n c)) ≡ crossings 1 es (suc (column n c)) (row n c)
    north_of_start =
        omega (
          arith,
          inside 0 not_around_least (suc (column n c)) (suc (row n c)) (region_of_code n nums c begins.inside),
          crossed (north_of_lem c) closed.once (first_in_cycle n nums small c),
        )

    pub south_below_north : x_sum 3 es < x_sum 1 es
    south_below_north = from (row n c) refl north_of_start
      where
        from : (Y : ℕ) → row n c ≡ Y → suc (crossings 3 es (suc (column n c)) Y) ≡ crossings 1 es (suc (column n c)) Y → x_sum 3 es < x_sum 1 es
        from zero h l = absurd (omega (arith, zero-north (suc (column n c))))
        from (suc y) h l =
            omega (
              arith,
              x_sum_lem 3 refl,
              x_sum_lem 1 refl,
              pixels_less (2 ^ n) (crossings 3 es) (crossings 1 es) (column n c) y (column-below n c) (omega (arith, row_below n c)) (omega arith)
                  (λ x z b k. omega (arith, everywhere 0 (omega arith) not_around_least x (suc z) b)),
            )
