-- The map of a numbered image with a margin around it, and the four pixels around a lattice point.
use Rattle.std.specs.Prelude.{◌≡◌, refl, true, false, ◌&&◌, List, ℕ, zero, suc, ◌^◌, get_or, ltb}
use Rattle.interleaving.specs.Codes.{code}
use Rattle.lattice.specs.Directions.{x_of, y_of}
use Rattle.grid.specs.Figures.{figure5b}

-- `nums` holds the region numbers of the 4^n pixels in rising location code. The map with a margin at (X, Y): 1 plus the region
-- number of the pixel (X - 1, Y - 1), and 0 where that is outside the image, which belongs to no region.
unfoldable pub region_at : ℕ → List ℕ → ℕ → ℕ → ℕ
unfolding code
region_at n nums zero Y = 0
region_at n nums (suc x) zero = 0
region_at n nums (suc x) (suc y) = elim (ltb x (2 ^ n) && ltb y (2 ^ n)) [ true ↦ suc (get_or nums (code n x y) 0) | false ↦ 0 ]

-- No region lies west, north, east and south of figure 5(b), whose side is 4.
outside_no_region : (region_at 2 figure5b 0 1 ≡ 0) × (region_at 2 figure5b 1 0 ≡ 0) × (region_at 2 figure5b 5 1 ≡ 0) × (region_at 2 figure5b 1 5 ≡ 0)
unfolding region_at figure5b
outside_no_region = (refl, refl, refl, refl)

-- What a map m has at the four pixels around the lattice point p, told by a digit: 0 southeast, 1 northeast, 2 northwest,
-- 3 southwest. Seen from p in the direction d, the pixel ahead on the right is d, ahead on the left `left_of d`, behind on the left
-- `opposite d`, behind on the right `right_of d`.
unfoldable pub around : (ℕ → ℕ → ℕ) → ℕ → ℕ → ℕ
unfolding x_of y_of
around m p zero = m (suc (x_of p)) (suc (y_of p))
around m p (suc zero) = m (suc (x_of p)) (y_of p)
around m p (suc (suc zero)) = m (x_of p) (y_of p)
around m p (suc (suc (suc d))) = m (x_of p) (suc (y_of p))
