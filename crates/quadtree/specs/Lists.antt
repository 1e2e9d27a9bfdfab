-- Three lists of equal length as one list of blocks, place by place.
use Rattle.std.specs.Prelude.{◌≡◌, refl, List, [], ◌∷◌, ℕ, zero, suc, ◌+◌, ◌<◌, length, get_or, drop}
use Rattle.std.proofs.Common.{sym, ap, ◌∙◌, add-one, arith}
use Rattle.quadtree.specs.Blocks.{Block, blocks}
use Rattle.quadtree.specs.Fields.{length-blocks as count_of_blocks}

pub record EqualLengths (codes levels colours : List ℕ) : Type 0 where
  pub levels_too : length codes ≡ length levels
  pub colours_too : length levels ≡ length colours

-- The block at the place i of a block list.
unfoldable pub block_of : List ℕ → List ℕ → List ℕ → ℕ → Block
block_of codes levels colours i = record { code = get_or codes i 0; level = get_or levels i 0; colour = get_or colours i 0 }

pub length-blocks : (cs ls ks : List ℕ) → EqualLengths cs ls ks → length (blocks cs ls ks) ≡ length cs
length-blocks cs ls ks e = count_of_blocks cs ls ks e.levels_too e.colours_too

-- The rest of a block list from the place i on begins with the block there.
pub rest_of_blocks : (cs ls ks : List ℕ) → EqualLengths cs ls ks → (i : ℕ) → i < length cs
    → drop i (blocks cs ls ks) ≡ block_of cs ls ks i ∷ drop (suc i) (blocks cs ls ks)
unfolding blocks block_of
rest_of_blocks [] ls ks e i h = absurd (omega arith)
rest_of_blocks (c ∷ cs) [] ks e i h = absurd (omega (arith, e.levels_too))
rest_of_blocks (c ∷ cs) (l ∷ ls) [] e i h = absurd (omega (arith, e.colours_too))
rest_of_blocks (c ∷ cs) (l ∷ ls) (k ∷ ks) e zero h = refl
rest_of_blocks (c ∷ cs) (l ∷ ls) (k ∷ ks) e (suc i) h =
    rest_of_blocks cs ls ks (record { levels_too = omega (arith, e.levels_too); colours_too = omega (arith, e.colours_too) }) i (omega arith)

pub rest-after : (cs ls ks : List ℕ) → EqualLengths cs ls ks → (i : ℕ) → i < length cs
    → drop i (blocks cs ls ks) ≡ block_of cs ls ks i ∷ drop (i + 1) (blocks cs ls ks)
rest-after cs ls ks e i h = rest_of_blocks cs ls ks e i h ∙ ap (λ (k : ℕ). block_of cs ls ks i ∷ drop k (blocks cs ls ks)) (sym (add-one i))
