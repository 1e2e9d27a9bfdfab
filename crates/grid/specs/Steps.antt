-- Unit edges of a region, and the rule of steps. A map's value r above 0 stands for the region r - 1 (`region_at`).
use Rattle.std.specs.Prelude.{◌≡◌, refl, ◌≢◌, true, false, ℕ, ◌<◌, eqb}
use Rattle.lattice.specs.Directions.{point, right_of, left_of, edge, tail, digit, head}
use Rattle.grid.specs.Figures.{figure5b}
use Rattle.grid.specs.Map.{region_at, around}

-- A unit side from the point p in the direction d that has a pixel of the region r on its right and none on its left. "A unit side
-- of a pixel in region R is an edge of R if the pixel beyond is in another region or outside the image. It is walked with R on its
-- right" (document 01, "Outlines").
pub record Side (m : ℕ → ℕ → ℕ) (r p d : ℕ) : Type 0 where
  pub digit-below : d < 4
  pub on_right : around m p d ≡ r
  pub on_left : around m p (left_of d) ≢ r

-- The unit edge e is an edge of the region r.
pub record Edge (m : ℕ → ℕ → ℕ) (r e : ℕ) : Type 0 where
  pub a_region : 0 < r
  pub side : Side m r (tail e) (digit e)

-- "After an edge, look at the two pixels ahead of its end, where the next edge begins. If the one ahead on the right is not in R,
-- turn right. If it is and the one ahead on the left is not, go straight. If both are, turn left" (document 01, "Outlines"): the
-- next direction at the point p in the region r, coming with d.
unfoldable pub turn : (ℕ → ℕ → ℕ) → ℕ → ℕ → ℕ → ℕ
unfolding around right_of left_of
turn m r p d =
    elim (eqb (around m p d) r) [
      | false ↦ right_of d
      | true ↦ elim (eqb (around m p (left_of d)) r) [ false ↦ d | true ↦ left_of d ]
    ]

-- At figure 5(b)'s pinch (2, 2) the outline of region 0 turns right, after a westward edge and after an eastward one.
right_at_a_pinch : (turn (region_at 2 figure5b) 1 (point 2 2) 2 ≡ right_of 2) × (turn (region_at 2 figure5b) 1 (point 2 2) 0 ≡ right_of 0)
unfolding turn region_at figure5b point
right_at_a_pinch = (refl, refl)

-- The edge after e, in the region on the right of e.
unfoldable pub step : (ℕ → ℕ → ℕ) → ℕ → ℕ
unfolding around edge tail digit head turn
step m e = edge (head e) (turn m (around m (tail e) (digit e)) (head e) (digit e))
