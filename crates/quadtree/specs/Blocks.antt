-- Blocks, and what a block list paints.
use Rattle.std.specs.Prelude.{List, [], ◌∷◌, ◌++◌, ℕ, ◌+◌, ◌^◌, replicate}

-- A block has a code, "that of its northwest pixel", a level, "its side is 2^level", and a colour (document 01, "The dial as blocks").
pub record Block : Type 0 where
  pub code : ℕ
  pub level : ℕ
  pub colour : ℕ

-- "A block list is three lent lists of equal length: codes, levels, colours" (document 01): its blocks, one after the other.
unfoldable pub blocks : List ℕ → List ℕ → List ℕ → List Block
blocks [] ls ks = []
blocks (c ∷ cs) [] ks = []
blocks (c ∷ cs) (l ∷ ls) [] = []
blocks (c ∷ cs) (l ∷ ls) (k ∷ ks) = record { code = c; level = l; colour = k } ∷ blocks cs ls ks

-- The number of pixels of blocks: the sum of 4^level.
unfoldable pub pixels : List Block → ℕ
pixels [] = 0
pixels (b ∷ bs) = 4 ^ b.level + pixels bs

-- The colours, in rising location code, of what the blocks of an accepted list cover. A block's pixels have the codes from
-- its own on, so blocks in rising code order paint one after the other.
unfoldable pub paint : List Block → List ℕ
paint [] = []
paint (b ∷ bs) = replicate (4 ^ b.level) b.colour ++ paint bs
