-- The three lists of a block list, and the block list of three lists.
use Rattle.std.specs.Prelude.{◌≡◌, refl, List, [], ◌∷◌, map, ℕ, suc, length}
use Rattle.std.proofs.Common.{ap, arith}
use Rattle.std.proofs.Math.Nat.{suc_inj}
use Rattle.quadtree.specs.Blocks.{Block, blocks}

abbrev pub codes : List Block → List ℕ
codes bs = map (λ (b : Block). b.code) bs

abbrev pub levels : List Block → List ℕ
levels bs = map (λ (b : Block). b.level) bs

abbrev pub colours : List Block → List ℕ
colours bs = map (λ (b : Block). b.colour) bs

-- Blocks from their own three lists.
pub blocks_of_fields : (bs : List Block) → blocks (codes bs) (levels bs) (colours bs) ≡ bs
unfolding blocks
blocks_of_fields [] = refl
blocks_of_fields (b ∷ bs) = ap (λ (l : List Block). b ∷ l) (blocks_of_fields bs)

-- Three lists of equal length from their blocks.
pub codes_of_blocks : (cs ls ks : List ℕ) → length cs ≡ length ls → length ls ≡ length ks → codes (blocks cs ls ks) ≡ cs
unfolding blocks
codes_of_blocks [] ls ks e f = refl
codes_of_blocks (c ∷ cs) [] ks e f = absurd (omega arith)
codes_of_blocks (c ∷ cs) (l ∷ ls) [] e f = absurd (omega arith)
codes_of_blocks (c ∷ cs) (l ∷ ls) (k ∷ ks) e f = ap (λ (x : List ℕ). c ∷ x) (codes_of_blocks cs ls ks (suc_inj e) (suc_inj f))

pub levels_of_blocks : (cs ls ks : List ℕ) → length cs ≡ length ls → length ls ≡ length ks → levels (blocks cs ls ks) ≡ ls
unfolding blocks
levels_of_blocks [] [] ks e f = refl
levels_of_blocks [] (l ∷ ls) ks e f = absurd (omega arith)
levels_of_blocks (c ∷ cs) [] ks e f = absurd (omega arith)
levels_of_blocks (c ∷ cs) (l ∷ ls) [] e f = absurd (omega arith)
levels_of_blocks (c ∷ cs) (l ∷ ls) (k ∷ ks) e f = ap (λ (x : List ℕ). l ∷ x) (levels_of_blocks cs ls ks (suc_inj e) (suc_inj f))

pub colours_of_blocks : (cs ls ks : List ℕ) → length cs ≡ length ls → length ls ≡ length ks → colours (blocks cs ls ks) ≡ ks
unfolding blocks
colours_of_blocks [] [] [] e f = refl
colours_of_blocks [] [] (k ∷ ks) e f = absurd (omega arith)
colours_of_blocks [] (l ∷ ls) ks e f = absurd (omega arith)
colours_of_blocks (c ∷ cs) [] ks e f = absurd (omega arith)
colours_of_blocks (c ∷ cs) (l ∷ ls) [] e f = absurd (omega arith)
colours_of_blocks (c ∷ cs) (l ∷ ls) (k ∷ ks) e f = ap (λ (x : List ℕ). k ∷ x) (colours_of_blocks cs ls ks (suc_inj e) (suc_inj f))

pub length-blocks : (cs ls ks : List ℕ) → length cs ≡ length ls → length ls ≡ length ks → length (blocks cs ls ks) ≡ length cs
unfolding blocks
length-blocks [] ls ks e f = refl
length-blocks (c ∷ cs) [] ks e f = absurd (omega arith)
length-blocks (c ∷ cs) (l ∷ ls) [] e f = absurd (omega arith)
length-blocks (c ∷ cs) (l ∷ ls) (k ∷ ks) e f = ap suc (length-blocks cs ls ks (suc_inj e) (suc_inj f))
