-- The chain code of corners: "one byte 48 plus digit for each unit edge, from the first corner" (document 01, "Path, chain and
-- picture"). So a string "lists" the "unit steps" of a cycle form (document 02, m).
use Rattle.std.specs.Prelude.{List, map, ℕ, ◌+◌}
use Rattle.lattice.specs.Directions.{digit}
use Rattle.lattice.specs.Walks.{outline}

-- The byte of a unit edge.
unfoldable pub byte_of : ℕ → ℕ
byte_of e = 48 + digit e

-- The bytes of a walk, and of the walk from each corner to the next and from the last to the first.
unfoldable pub bytes_of : List ℕ → List ℕ
bytes_of es = map byte_of es

unfoldable pub chain_of : List ℕ → List ℕ
chain_of cs = bytes_of (outline cs)
