-- Images for facts computed beside the definitions: the region numbers of their pixels in rising location code.
use Rattle.std.specs.Prelude.{List, [], ◌∷◌, ℕ}

-- Figure 5(a) of document 000: a middle of 2 by 2 pixels is region 1.
unfoldable pub figure5a : List ℕ
figure5a = 0 ∷ 0 ∷ 0 ∷ 1 ∷ 0 ∷ 0 ∷ 1 ∷ 0 ∷ 0 ∷ 1 ∷ 0 ∷ 0 ∷ 1 ∷ 0 ∷ 0 ∷ 0 ∷ []

-- Figure 5(b): region 0 touches itself at the point (2, 2), between region 1 in the northwest and region 2 in the southeast.
unfoldable pub figure5b : List ℕ
figure5b = 0 ∷ 0 ∷ 0 ∷ 1 ∷ 0 ∷ 0 ∷ 0 ∷ 0 ∷ 0 ∷ 0 ∷ 0 ∷ 0 ∷ 2 ∷ 2 ∷ 2 ∷ 2 ∷ []

-- A hook: region 1 has the pixels (0, 1), (1, 1), (2, 1) and (2, 0). Of its north sides that of (2, 0) comes first row by row, that
-- of (0, 1) by location code.
unfoldable pub hook : List ℕ
hook = 0 ∷ 0 ∷ 1 ∷ 1 ∷ 1 ∷ 2 ∷ 1 ∷ 2 ∷ 2 ∷ 2 ∷ 2 ∷ 2 ∷ 2 ∷ 2 ∷ 2 ∷ 2 ∷ []
