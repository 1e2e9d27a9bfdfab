-- The numbers of a block list end with 7, and those of the numbering with 8: a larger number has another cause.
use Rattle.std.specs.Prelude.{Bool, true, false, not, ◌&&◌, ◌||◌, List, [], ◌∷◌, ℕ, zero, suc, ◌+◌, ◌*◌, ◌%◌, ◌^◌, ◌≤◌, length, eqb, ltb}
use Rattle.std.proofs.Common.{arith}
use Rattle.sequences.specs.Cases.{first, when}
use Rattle.quadtree.specs.Blocks.{Block, blocks}
use Rattle.quadtree.specs.Number.{fault_of, cover, siblings, number, number_with}
use Rattle.regions.specs.Promise.{numbering_number}

first_low : (a b k : ℕ) → a ≤ k → b ≤ k → first a b ≤ k
unfolding first
first_low zero b k g h = h
first_low (suc a) b k g h = g

when_low : (t : Bool) (j k : ℕ) → j ≤ k → when t j ≤ k
unfolding when
when_low true j k h = h
when_low false j k h = omega arith

fault_low : (n sum code level : ℕ) → fault_of n sum code level ≤ 6
unfolding fault_of
fault_low n sum code level =
    let four : Bool = not (eqb code sum) || eqb sum (4 ^ n) in
    let five : Bool = not (eqb (code % 4 ^ level) 0) in
    first_low (when (ltb n level) 3) (first (when four 4) (when five 5)) 6 (when_low (ltb n level) 3 6 (omega arith))
    (first_low (when four 4) (when five 5) 6 (when_low four 4 6 (omega arith)) (when_low five 5 6 (omega arith)))

cover_low : (n sum : ℕ) (bs : List Block) → cover n sum bs ≤ 6
unfolding cover
cover_low n sum [] = when_low (ltb sum (4 ^ n)) 6 6 (omega arith)
cover_low n sum (b ∷ bs) =
    first_low (fault_of n sum b.code b.level) (cover n (sum + 4 ^ b.level) bs) 6 (fault_low n sum b.code b.level) (cover_low n (sum + 4 ^ b.level) bs)

number_low : (n : ℕ) (cs ls ks : List ℕ) → number n cs ls ks ≤ 7
unfolding number
number_low n cs ls ks =
    let found : ℕ = cover n 0 (blocks cs ls ks) in
    let seven : Bool = siblings n (blocks cs ls ks) in
    let unlike : Bool = not (eqb (length cs) (length ls) && eqb (length ls) (length ks)) in
    first_low (when (ltb 8 n) 1) (first (when unlike 2) (first found (when seven 7))) 7 (when_low (ltb 8 n) 1 7 (omega arith))
    (first_low (when unlike 2) (first found (when seven 7)) 7 (when_low unlike 2 7 (omega arith))
    (first_low found (when seven 7) 7 (omega (arith, cover_low n 0 (blocks cs ls ks))) (when_low seven 7 7 (omega arith))))

pub numbering_at_most_eight : (n : ℕ) (cs ls ks labels₀ work₀ : List ℕ) → numbering_number n cs ls ks labels₀ work₀ ≤ 8
unfolding numbering_number number_with
numbering_at_most_eight n cs ls ks labels₀ work₀ =
    let short : Bool = ltb (length labels₀) (length cs) || ltb (length work₀) (2 * 4 ^ n) in
    first_low (number n cs ls ks) (when short 8) 8 (omega (arith, number_low n cs ls ks)) (when_low short 8 8 (omega arith))
