-- Cycles: the edges the rule of steps runs through, and where a cycle starts.
use Rattle.std.specs.Prelude.{◌≡◌, refl, Bool, true, false, List, [], ◌∷◌, ℕ, eqb, leb}
use Rattle.interleaving.specs.Codes.{code, column, row}
use Rattle.lattice.specs.Directions.{point, x_of, y_of, edge, tail, digit}
use Rattle.orbits.specs.Orbits.{orbit}
use Rattle.grid.specs.Figures.{hook}
use Rattle.grid.specs.Map.{region_at, around}
use Rattle.grid.specs.Steps.{step}

-- Every edge of an image of side 256 is below this number (`edge_bound` of East.antt): 4 times 257 rows of 512 points.
abbrev pub edge_limit : ℕ
edge_limit = 526336

-- "An outline, or cycle, is the edges the rule runs through from one edge until that edge comes again" (document 01, "Outlines").
-- `edge_limit` only bounds the search for the return (`ring` of Returning.antt: the list is the walk up to the first return).
unfoldable pub cycle_from : (ℕ → ℕ → ℕ) → ℕ → List ℕ
unfolding orbit step
cycle_from m e = orbit edge_limit (step m) e

-- The northwest corner of the pixel with the code c, and its north side, walked eastward.
unfoldable pub corner_of : ℕ → ℕ → ℕ
unfolding point column row
corner_of n c = point (column n c) (row n c)

unfoldable pub north_side : ℕ → ℕ → ℕ
unfolding corner_of edge
north_side n c = edge (corner_of n c) 0

-- The cycle through the north side of the pixel with the code c.
unfoldable pub cycle : ℕ → List ℕ → ℕ → List ℕ
unfolding cycle_from north_side region_at
cycle n nums c = cycle_from (region_at n nums) (north_side n c)

-- The code of the pixel on the right of an eastward edge.
unfoldable pub code_right : ℕ → ℕ → ℕ
unfolding code tail x_of y_of
code_right n e = code n (x_of (tail e)) (y_of (tail e))

-- No eastward edge of the list has a right-hand pixel with a code smaller than c.
unfoldable pub least_of : ℕ → ℕ → List ℕ → Bool
unfolding digit code_right
least_of n c [] = true
least_of n c (e ∷ es) =
    elim (eqb (digit e) 0) [
      | false ↦ least_of n c es
      | true ↦ elim (leb c (code_right n e)) [ true ↦ least_of n c es | false ↦ false ]
    ]

-- "It starts at the tail of its eastward edge whose right-hand pixel has the least code" (document 01, "Outlines"): a cycle starts
-- at the pixel with the code c if its north side is an edge and no eastward edge of the cycle through it has a right-hand pixel
-- with a smaller code.
unfoldable pub is_start : ℕ → List ℕ → ℕ → Bool
unfolding around region_at corner_of cycle least_of
is_start n nums c =
    elim (eqb (around (region_at n nums) (corner_of n c) 1) (around (region_at n nums) (corner_of n c) 0)) [
      | true ↦ false
      | false ↦ least_of n c (cycle n nums c)
    ]

-- The eastward edges of the hook have the pixels with the codes 2, 3 and 4 on their right: it starts at the least of them.
starts_at_least_code : (is_start 2 hook 2 ≡ true) × (is_start 2 hook 3 ≡ false) × (is_start 2 hook 4 ≡ false)
unfolding is_start hook
starts_at_least_code = (refl, refl, refl)
