-- Section 2's quadtree of an image: the one merged list of blocks.
use Rattle.std.specs.Prelude.{Bool, true, false, List, [], ◌∷◌, ◌++◌, ℕ, zero, suc, ◌+◌, ◌^◌, get_or, eqb}
use Rattle.quadtree.specs.Blocks.{Block}

-- Whether the k pixels from the code c on have the colour v. Here as everywhere an image is the list `px` of its colours in
-- rising location code.
unfoldable pub alike : List ℕ → ℕ → ℕ → ℕ → Bool
alike px v c zero = true
alike px v c (suc k) = elim (eqb (get_or px c 0) v) [ true ↦ alike px v (suc c) k | false ↦ false ]

-- The square of level m at the code c: "Each quadrant that is not homogeneous (i.e., whose pixels do not all have the same
-- associated value) is further decomposed", in the order northwest, northeast, southwest, southeast (document 000, section 2).
unfoldable pub quadrant : List ℕ → ℕ → ℕ → List Block
unfolding alike
quadrant px zero c = record { code = c; level = 0; colour = get_or px c 0 } ∷ []
quadrant px (suc m) c =
    elim (alike px (get_or px c 0) c (4 ^ suc m)) [
      | true ↦ record { code = c; level = suc m; colour = get_or px c 0 } ∷ []
      | false ↦ quadrant px m c ++ (quadrant px m (c + 4 ^ m) ++ (quadrant px m (c + 4 ^ m + 4 ^ m) ++ quadrant px m (c + 4 ^ m + 4 ^ m + 4 ^ m)))
    ]

-- The linear quadtree of an image of side 2^n.
unfoldable pub quadtree : ℕ → List ℕ → List Block
unfolding quadrant
quadtree n px = quadrant px n 0
