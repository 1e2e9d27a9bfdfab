-- Walks along unit edges: straight ones, the walk around an outline's corners, the corners of a walk.
use Rattle.std.specs.Prelude.{ℕ, zero, suc, ◌-◌, true, false, List, [], ◌∷◌, ◌++◌, ◌==◌, nat_lt}
use Rattle.lattice.specs.Directions.{x_of, y_of, move, edge, tail, digit}

-- k unit edges from p with the digit d.
unfoldable pub run : ℕ → ℕ → ℕ → List ℕ
unfolding move edge
run d zero p = []
run d (suc k) p = edge p d ∷ run d k (move d p)

-- The unit edges walked straight from the point p to the point q of the same row or column.
unfoldable pub straight : ℕ → ℕ → List ℕ
unfolding run x_of y_of
straight p q =
    elim (y_of p == y_of q) [
      | true ↦ elim (nat_lt (x_of p) (x_of q)) [ true ↦ run 0 (x_of q - x_of p) p | false ↦ run 2 (x_of p - x_of q) p ]
      | false ↦ elim (nat_lt (y_of p) (y_of q)) [ true ↦ run 3 (y_of q - y_of p) p | false ↦ run 1 (y_of p - y_of q) p ]
    ]

-- From the corner p through the corners listed, and then to `close`.
unfoldable pub walk_from : ℕ → List ℕ → ℕ → List ℕ
unfolding straight
walk_from p [] close = straight p close
walk_from p (c ∷ cs) close = straight p c ++ walk_from c cs close

-- "The unit sides in a listed outline are those walked straight from each listed corner to the next, and from the last to
-- the first" (document 01, "Outlines").
unfoldable pub outline : List ℕ → List ℕ
unfolding walk_from
outline [] = []
outline (c ∷ cs) = walk_from c cs c

-- The tails of the edges whose digit differs from that of the edge before; d is the digit before the first.
unfoldable pub turns : ℕ → List ℕ → List ℕ
unfolding tail digit
turns d [] = []
turns d (e ∷ es) = elim (d == digit e) [ true ↦ turns (digit e) es | false ↦ tail e ∷ turns (digit e) es ]

-- The last edge of a walk.
unfoldable pub last_of : ℕ → List ℕ → ℕ
last_of e [] = e
last_of e (f ∷ es) = last_of f es

-- "Its corners, from that start, are the tails of its edges whose direction differs from that of the edge before (the last
-- edge stands before the first)" (document 01, "Outlines").
unfoldable pub corners : List ℕ → List ℕ
unfolding turns last_of digit
corners [] = []
corners (e ∷ es) = turns (digit (last_of e es)) (e ∷ es)
