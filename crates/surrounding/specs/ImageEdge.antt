-- The winding number of a cycle is 0 around the pixels at the image's edge that are outside its region, and the same along a path outside
-- the region.
use Rattle.std.specs.Prelude.{◌≡◌, ◌≢◌, List, ℕ, suc, ◌^◌, ◌≤◌, ◌<◌, get_or}
use Rattle.std.proofs.Math.Path.{refl}
use Rattle.std.proofs.Common.{sym, subst}
use native.Mathlib.Omega.{arith}
use Rattle.interleaving.specs.Codes.{column, row}
use Rattle.interleaving.specs.Interleaving.{column-below}
use Rattle.grid.specs.Map.{region_at}
use Rattle.grid.specs.Margins.{region_of_code, region_east, region_south}
use Rattle.grid.specs.Cycles.{cycle}
use Rattle.grid.specs.North.{side_small}
use Rattle.grid.specs.Starting.{StartAt}
use Rattle.winding.specs.Crossings.{Winds}
use Rattle.winding.specs.Pixels.{AllFit, no_crossings_north, no_crossings_east, no_crossings_south}
use Rattle.winding.specs.Neighbours.{ClosedWalk, SameWinding, Neighbours, beside_west, beside_north, neighbours_back, both_outside}
use Rattle.winding.specs.Inside.{cycle_closed, vertical_fits}
use Rattle.surrounding.specs.Surrounds.{Outside, start, on, AtEdge, west, north, east, south}
use Rattle.surrounding.specs.Paths.{outside_end}
use Rattle.surrounding.specs.Diagonals.{same_near}
use Rattle.surrounding.specs.Rows.{zero-west}

-- The cycle from the start c.
module _ (n : ℕ) (nums : List ℕ) (small : n ≤ 8) (c : ℕ) (begins : StartAt n nums c) where
  abbrev m : ℕ → ℕ → ℕ
  m = region_at n nums

  abbrev r : ℕ
  r = suc (get_or nums c 0)

  abbrev es : List ℕ
  es = cycle n nums c

  closed : ClosedWalk m r es
  closed = cycle_closed n nums small c begins

  fit : AllFit (2 ^ n) es
  fit e i v = vertical_fits n nums r e (closed.edges e i) v

  low : (d : ℕ) → column n d < 256
  low d = omega (arith, column-below n d, side_small n small)

  -- The pixel d is outside the region.
  out : (d : ℕ) → d < 4 ^ n → get_or nums d 0 ≢ get_or nums c 0 → m (suc (column n d)) (suc (row n d)) ≢ r
  out d l h e = h (omega (arith, region_of_code n nums d l, e))

  -- From a place beyond the image's edge.
  from_beyond : {s t A B X Y : ℕ} → Neighbours m r es s t A B X Y → m A B ≢ r → m X Y ≡ 0 → Winds 0 es X Y → Winds 0 es A B
  from_beyond b h k z = omega (arith, z, both_outside b h (λ e. omega arith))

  pub zero_at_edge : (d : ℕ) → d < 4 ^ n → get_or nums d 0 ≢ get_or nums c 0 → AtEdge n d → Winds 0 es (suc (column n d)) (suc (row n d))
  unfolding region_at
  zero_at_edge d l h (west e) =
      from_beyond (beside_west m r es closed.edges (column n d) (row n d) (omega (arith, low d))) (out d l h)
      (subst (λ X. m X (suc (row n d)) ≡ 0) (sym e) refl)
      (subst (λ X. Winds 0 es X (suc (row n d))) (sym e) (zero-west (suc (row n d)) closed.from es closed.walk))
  zero_at_edge d l h (north e) =
      from_beyond (beside_north m r es closed (column n d) (row n d) (omega (arith, low d))) (out d l h)
      (subst (λ Y. m (suc (column n d)) Y ≡ 0) (sym e) refl)
      (subst (λ Y. Winds 0 es (suc (column n d)) Y) (sym e)
      (omega (arith, no_crossings_north (2 ^ n) 3 refl (suc (column n d)) es fit, no_crossings_north (2 ^ n) 1 refl (suc (column n d)) es fit)))
  zero_at_edge d l h (east e) =
      from_beyond (neighbours_back (beside_west m r es closed.edges (suc (column n d)) (row n d) (omega (arith, low d)))) (out d l h)
      (region_east n nums (suc (column n d)) (suc (row n d)) (omega arith))
      (omega (
        arith,
        no_crossings_east (2 ^ n) 3 refl (suc (suc (column n d))) (suc (row n d)) (omega arith) es fit,
        no_crossings_east (2 ^ n) 1 refl (suc (suc (column n d))) (suc (row n d)) (omega arith) es fit,
      ))
  zero_at_edge d l h (south e) =
      from_beyond (neighbours_back (beside_north m r es closed (column n d) (suc (row n d)) (omega (arith, low d)))) (out d l h)
      (region_south n nums (suc (column n d)) (suc (row n d)) (omega arith))
      (omega (
        arith,
        no_crossings_south (2 ^ n) 3 refl (suc (column n d)) (suc (suc (row n d))) (omega arith) es fit,
        no_crossings_south (2 ^ n) 1 refl (suc (column n d)) (suc (suc (row n d))) (omega arith) es fit,
      ))

  -- Along a path outside the region.
  pub same_outside : (a : ℕ) {d : ℕ} → Outside n nums (get_or nums c 0) a d → SameWinding es (suc (column n a)) (suc (row n a)) (suc (column n d)) (suc (row n d))
  same_outside a (start l h) = refl
  same_outside a (on {d} {e} p s h) =
      omega (
        arith,
        same_outside a p,
        same_near n nums small c begins (column n d) (row n d) (column n e) (row n e) (low d) (low e) s.columns s.rows
            (out d s.from (outside_end p)) (out e s.to h),
      )
