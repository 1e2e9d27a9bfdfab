-- Region numbers, executable: the classes of neighbours of one colour, numbered by their least codes.
use Rattle.std.specs.Prelude.{◌≡◌, refl, true, false, List, [], ◌∷◌, map, ℕ, zero, suc, ◌-◌, ◌^◌, get_or, eqb}
use Rattle.interleaving.specs.Codes.{code, column, row}
use Rattle.quadtree.specs.Blocks.{Block, blocks, paint}
use Rattle.unions.specs.Pairs.{Pair, pair_of}
use Rattle.unions.specs.Classes.{classes}
use Rattle.unions.specs.Counting.{below}

-- The code of the pixel west, and of the pixel north, of the pixel c. In the first column, and in the first row, there is none:
-- there it is c itself, and a pixel paired with itself joins nothing.
unfoldable pub west_of : ℕ → ℕ → ℕ
unfolding code column row
west_of n c = code n (column n c - 1) (row n c)

unfoldable pub north_of : ℕ → ℕ → ℕ
unfolding code column row
north_of n c = code n (column n c) (row n c - 1)

-- The pair of the pixels c and d in front of `rest`, where both have one colour.
unfoldable pub pair_if_alike : List ℕ → ℕ → ℕ → List Pair → List Pair
pair_if_alike px c d rest = elim (eqb (get_or px c 0) (get_or px d 0)) [ true ↦ pair_of c d ∷ rest | false ↦ rest ]

-- The pairs of each pixel with a code below k and its west and its north neighbour, where both have one colour.
unfoldable pub alike_pairs : ℕ → List ℕ → ℕ → List Pair
unfolding west_of north_of pair_if_alike
alike_pairs n px zero = []
alike_pairs n px (suc c) = pair_if_alike px c (west_of n c) (pair_if_alike px c (north_of n c) (alike_pairs n px c))

-- For each code of an image of side 2^n the least code of its region.
unfoldable pub representatives : ℕ → List ℕ → List ℕ
unfolding classes alike_pairs
representatives n px = classes (4 ^ n) (alike_pairs n px (4 ^ n))

-- For each code its region number: how many regions have a smaller least code. "Region numbers are 0, 1, 2, .. by each region's
-- least location code" (document 01, "Regions").
unfoldable pub numbers : ℕ → List ℕ → List ℕ
unfolding representatives below
numbers n px = let rs = representatives n px in map (below (λ c. get_or rs c 0)) rs

-- How many regions there are.
unfoldable pub regions : ℕ → List ℕ → ℕ
unfolding representatives below
regions n px = let rs = representatives n px in below (λ c. get_or rs c 0) (4 ^ n)

-- "region numbers for its blocks" (document 01): each block has the number of its first pixel.
unfoldable pub labels : ℕ → List Block → List ℕ
unfolding numbers paint
labels n bs = let ns = numbers n (paint bs) in map (λ (b : Block). get_or ns b.code 0) bs

-- Dials 2, 4 and 5 of document 01.
dial_2 : labels 2 (blocks (0 ∷ 1 ∷ 2 ∷ 3 ∷ 4 ∷ 8 ∷ 12 ∷ []) (0 ∷ 0 ∷ 0 ∷ 0 ∷ 1 ∷ 1 ∷ 1 ∷ []) (1 ∷ 1 ∷ 1 ∷ 2 ∷ 1 ∷ 1 ∷ 3 ∷ []))
    ≡ 0 ∷ 0 ∷ 0 ∷ 1 ∷ 0 ∷ 0 ∷ 2 ∷ []
unfolding labels blocks
dial_2 = refl

dial_4 : (numbers 1 (1 ∷ 2 ∷ 2 ∷ 1 ∷ []) ≡ 0 ∷ 1 ∷ 2 ∷ 3 ∷ []) × (regions 1 (1 ∷ 2 ∷ 2 ∷ 1 ∷ []) ≡ 4)
unfolding numbers regions
dial_4 = (refl, refl)

dial_5 : (numbers 1 (1 ∷ 1 ∷ 2 ∷ 2 ∷ []) ≡ 0 ∷ 0 ∷ 1 ∷ 1 ∷ []) × (regions 1 (1 ∷ 1 ∷ 2 ∷ 2 ∷ []) ≡ 2)
unfolding numbers regions
dial_5 = (refl, refl)
