-- A saying read off the table: the region numbers of dial 2, block for block.
use Rattle.std.specs.Prelude.{◌≡◌, [], ◌∷◌}
use Rattle.quadtree.specs.Blocks.{blocks}
use Rattle.components.specs.Numbers.{labels}
use Rattle.examples.specs.Table.{table, dials}

pub dial_2_labels : labels 2 (blocks (0 ∷ 1 ∷ 2 ∷ 3 ∷ 4 ∷ 8 ∷ 12 ∷ []) (0 ∷ 0 ∷ 0 ∷ 0 ∷ 1 ∷ 1 ∷ 1 ∷ []) (1 ∷ 1 ∷ 1 ∷ 2 ∷ 1 ∷ 1 ∷ 3 ∷ []))
    ≡ 0 ∷ 0 ∷ 0 ∷ 1 ∷ 0 ∷ 0 ∷ 2 ∷ []
unfolding table
dial_2_labels = dials.1.0.1.0
