-- The winding numbers of a closed walk along edges of a region down a column of places, from above the image.
use Rattle.std.specs.Prelude.{◌≡◌, ◌≢◌, List, ℕ, zero, suc, ◌+◌, ◌≤◌, ◌<◌}
use Rattle.std.proofs.Common.{arith}
use Rattle.lattice.specs.Directions.{point, edge}
use Rattle.orbits.specs.Members.{In, in_dec}
use Rattle.winding.specs.Crossings.{crossings, Winds}
use Rattle.winding.specs.Neighbours.{ClosedWalk, Neighbours, beside_north, neighbours_back, not_crossed, crossed, both_outside}

-- The winding number around the place (X, Y) is k or k - 1.
abbrev pub Between : ℕ → List ℕ → ℕ → ℕ → Type 0
Between k es X Y = (crossings 1 es X Y + k ≤ suc (crossings 3 es X Y)) × (crossings 3 es X Y ≤ crossings 1 es X Y + k)

-- It is 0 at the top of the column of the pixels with this x.
module _ (m : ℕ → ℕ → ℕ) (r : ℕ) (es : List ℕ) (c : ClosedWalk m r es) (x : ℕ) (small : x < 511) (top : Winds 0 es (suc x) 0) where
  -- And further down, until the region is met.
  pub zero_down : (Y : ℕ) → ((Z : ℕ) → Z ≤ Y → m (suc x) Z ≢ r) → Winds 0 es (suc x) Y
  zero_down zero f = top
  zero_down (suc Y) f =
      omega (
        arith,
        zero_down Y (λ Z l. f Z (omega arith)),
        both_outside (beside_north m r es c x Y small) (f (suc Y) (omega arith)) (f Y (omega arith)),
      )

  -- Where it is k, 0 or 1, all over the region, it is k or k - 1 everywhere.
  module _ (k : ℕ) (low : k ≤ 1) (inside : (X Y : ℕ) → m X Y ≡ r → Winds k es X Y) where
    next : (Y : ℕ) → Between k es (suc x) Y → Between k es (suc x) (suc Y)
    next Y b = pick (in_dec (edge (point x Y) 0) es) (in_dec (edge (point (suc x) Y) 2) es)
      where
        n : Neighbours m r es (edge (point x Y) 0) (edge (point (suc x) Y) 2) (suc x) (suc Y) (suc x) Y
        n = beside_north m r es c x Y small

        pick : Dec (In (edge (point x Y) 0) es) → Dec (In (edge (point (suc x) Y) 2) es) → Between k es (suc x) (suc Y)
        pick (yes i) j = let e = inside (suc x) (suc Y) (n.on_right i).0 in (omega arith, omega arith)
        pick (no i) (yes j) =
            let e = inside (suc x) Y (n.on_left j).0 in
            let f = crossed (neighbours_back n) c.once j in
            (omega arith, omega arith)
        pick (no i) (no j) = let e = not_crossed n i j in (omega arith, omega arith)

    pub between : (Y : ℕ) → Between k es (suc x) Y
    between zero = (omega arith, omega arith)
    between (suc Y) = next Y (between Y)
