-- Pixels that belong together: a 4-connected path of one colour joins them.
use Rattle.std.specs.Prelude.{◌≡◌, ◌≢◌, List, ℕ, suc, ◌^◌, ◌<◌, get_or}
use Rattle.std.proofs.Common.{sym}
use Rattle.interleaving.specs.Codes.{column, row}

-- One step north, east, south or west leads from the pixel with the code c to the pixel with the code d, in an image of side 2^n:
-- x grows east and y south (document 01, "The dial as blocks"). "Touching corners join nothing" (document 01, "Regions").
pub data Step (n c d : ℕ) : Type 0 where
  north : column n d ≡ column n c → suc (row n d) ≡ row n c → Step n c d
  east : column n d ≡ suc (column n c) → row n d ≡ row n c → Step n c d
  south : column n d ≡ column n c → row n d ≡ suc (row n c) → Step n c d
  west : suc (column n d) ≡ column n c → row n d ≡ row n c → Step n c d

-- Two pixels of the image are neighbours.
pub record Beside (n c d : ℕ) : Type 0 where
  pub from : c < 4 ^ n
  pub to : d < 4 ^ n
  pub step : Step n c d

-- "Touching corners join nothing": neighbours share a column or a row.
pub corners_join_nothing : (n c d : ℕ) → column n c ≢ column n d → row n c ≢ row n d → ¬ Beside n c d
corners_join_nothing n c d f g b = pick b.step
  where
    pick : Step n c d → ⊥
    pick (north x y) = f (sym x)
    pick (east x y) = g (sym y)
    pick (south x y) = f (sym x)
    pick (west x y) = g (sym y)

-- A path of one colour from the pixel c, stepping north, east, south or west through pixels with codes below m. An image is
-- the list `px` of its colours in rising location code.
pub data Connected (n : ℕ) (px : List ℕ) (m c : ℕ) : ℕ → Type 0 where
  start : c < m → Connected n px m c c
  on : {d e : ℕ} → Connected n px m c d → Beside n d e → e < m → get_or px e 0 ≡ get_or px d 0 → Connected n px m c e

-- "Two pixels belong together exactly when a 4-connected path of one colour joins them" (document 01, "Regions"): a path inside
-- the image.
abbrev pub Joined : ℕ → List ℕ → ℕ → ℕ → Type 0
Joined n px c d = Connected n px (4 ^ n) c d
