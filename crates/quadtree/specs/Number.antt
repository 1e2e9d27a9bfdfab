-- The number of a block list: which of the causes 1 to 8 applies first (document 01, "When the answer is a number").
use Rattle.std.specs.Prelude.{Bool, true, false, not, ◌&&◌, ◌||◌, List, [], ◌∷◌, ℕ, suc, ◌+◌, ◌%◌, ◌^◌, length, eqb, ltb}
use Rattle.sequences.specs.Cases.{first, when}
use Rattle.quadtree.specs.Blocks.{Block, blocks}

-- The cause that a block meets in an image of side 2^n of which `sum` pixels are covered before it, 0 for none: 3 "a level above n";
-- 4 "a code is not the sum of 4^level over the blocks before it, or that sum is already 4^n"; 5 "a code is not a multiple of 4^level".
unfoldable pub fault_of : ℕ → ℕ → ℕ → ℕ → ℕ
unfolding first when
fault_of n sum code level =
    first (when (ltb n level) 3)
    (first (when (not (eqb code sum) || eqb sum (4 ^ n)) 4)
    (when (not (eqb (code % 4 ^ level) 0)) 5))

-- "per block in list order 3, 4, 5, then 6": 6 "the list ends with less than 4^n pixels covered".
unfoldable pub cover : ℕ → ℕ → List Block → ℕ
unfolding first when fault_of
cover n sum [] = when (ltb sum (4 ^ n)) 6
cover n sum (b ∷ bs) = first (fault_of n sum b.code b.level) (cover n (sum + 4 ^ b.level) bs)

-- Whether four numbers are equal.
unfoldable pub four_alike : ℕ → ℕ → ℕ → ℕ → Bool
four_alike a b c d = eqb b a && (eqb c a && eqb d a)

-- Cause 7 at one place but for the colours: four successive blocks "of equal level below n .., the first code a multiple of
-- 4^(level+1)".
unfoldable pub four_siblings : ℕ → Block → Block → Block → Block → Bool
unfolding four_alike
four_siblings n a b c d = ltb a.level n && (eqb (a.code % 4 ^ suc a.level) 0 && four_alike a.level b.level c.level d.level)

-- Cause 7 at one place: such blocks "of .. equal colour".
unfoldable pub mergeable : ℕ → Block → Block → Block → Block → Bool
unfolding four_alike four_siblings
mergeable n a b c d = four_siblings n a b c d && four_alike a.colour b.colour c.colour d.colour

-- Cause 7 anywhere in the list.
unfoldable pub siblings : ℕ → List Block → Bool
unfolding mergeable
siblings n [] = false
siblings n (a ∷ []) = false
siblings n (a ∷ b ∷ []) = false
siblings n (a ∷ b ∷ c ∷ []) = false
siblings n (a ∷ b ∷ c ∷ d ∷ bs) = elim (mergeable n a b c d) [ true ↦ true | false ↦ siblings n (b ∷ c ∷ d ∷ bs) ]

-- "Block lists: 1, 2, then per block in list order 3, 4, 5, then 6, 7": 0 where the list is accepted.
unfoldable pub number : ℕ → List ℕ → List ℕ → List ℕ → ℕ
unfolding first when cover siblings blocks
number n codes levels colours =
    first (when (ltb 8 n) 1)
    (first (when (not (eqb (length codes) (length levels) && eqb (length levels) (length colours))) 2)
    (first (cover n 0 (blocks codes levels colours)) (when (siblings n (blocks codes levels colours)) 7)))

-- "then 8": the number where lists are lent besides, of which some may be shorter than its need.
unfoldable pub number_with : Bool → ℕ → List ℕ → List ℕ → List ℕ → ℕ
unfolding first when number
number_with short n codes levels colours = first (number n codes levels colours) (when short 8)
