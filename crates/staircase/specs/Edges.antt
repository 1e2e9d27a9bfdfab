-- Unit edges that are walked east or north, the two cells beside each, and what it is that edges form one path.
use Rattle.std.specs.Prelude.{◌≡◌, ◌⊎◌, ◌↔◌, ◌≢◌, Bool, ℕ, suc, ◌-◌, ◌*◌, ◌≤◌, ◌<◌, length}
use mathlib.Core.List.{List, [], ◌∷◌, Memᴰ, Nodup}

pub data Direction : Type 0 where
  east : Direction
  north : Direction

-- A unit edge: its tail (x, y) and its direction.
pub record UnitEdge : Type 0 where
  pub x : ℕ
  pub y : ℕ
  pub direction : Direction

abbrev pub east_from : ℕ → ℕ → UnitEdge
east_from x y = record { x = x; y = y; direction = east }

abbrev pub north_from : ℕ → ℕ → UnitEdge
north_from x y = record { x = x; y = y; direction = north }

-- Where an edge ends: one further east, or one further north.
unfoldable pub end_x : UnitEdge → ℕ
end_x e = elim e.direction [ east ↦ suc e.x | north ↦ e.x ]

unfoldable pub end_y : UnitEdge → ℕ
end_y e = elim e.direction [ east ↦ e.y | north ↦ e.y - 1 ]

-- A cell of the image with a margin: the pixel (x, y) is the cell (x + 1, y + 1).
pub record Cell : Type 0 where
  pub column : ℕ
  pub row : ℕ

-- The cells on the left and on the right of who walks an edge. From (x, y) eastward these are the pixels (x, y - 1) and (x, y),
-- from (x, y) northward (x - 1, y - 1) and (x, y - 1).
unfoldable pub left_cell : UnitEdge → Cell
left_cell e = elim e.direction [ east ↦ record { column = suc e.x; row = e.y } | north ↦ record { column = e.x; row = e.y } ]

unfoldable pub right_cell : UnitEdge → Cell
right_cell e = elim e.direction [ east ↦ record { column = suc e.x; row = suc e.y } | north ↦ record { column = suc e.x; row = e.y } ]

-- A cell is a pixel of an image of side w.
pub record InImage (w : ℕ) (c : Cell) : Type 0 where
  pub from_west : 0 < c.column
  pub to_east : c.column ≤ w
  pub from_north : 0 < c.row
  pub to_south : c.row ≤ w

-- A side of an image of side w has a pixel of the image on at least one of its two sides.
abbrev pub SideOf : ℕ → UnitEdge → Type 0
SideOf w e = InImage w (left_cell e) ⊎ InImage w (right_cell e)

-- "The border between done and not done": the sides of an image of side w whose two cells differ in the test `done`.
pub record Border (w : ℕ) (done : ℕ → ℕ → Bool) (e : UnitEdge) : Type 0 where
  pub side : SideOf w e
  pub differ : done (left_cell e).column (left_cell e).row ≢ done (right_cell e).column (right_cell e).row

-- Edges that lead from (x, y) to (x', y'): each begins where the one before ends.
unfoldable pub Leads : ℕ → ℕ → List UnitEdge → ℕ → ℕ → Type 0
Leads x y [] x' y' = (x ≡ x') × (y ≡ y')
Leads x y (e ∷ es) x' y' = (e.x ≡ x) × (e.y ≡ y) × Leads (end_x e) (end_y e) es x' y'

-- Edges that are, each once, exactly those of a kind, and one path "from the image's southwest corner to its northeast corner ...
-- exactly 2 times 2^n unit edges long" (document 01, "Regions"), where w is the image's side.
pub record OnePath (w : ℕ) (Kind : UnitEdge → Type 0) (path : List UnitEdge) : Type 0 where
  pub long : length path ≡ 2 * w
  pub joined : Leads 0 w path w 0
  pub exactly : (e : UnitEdge) → Memᴰ e path ↔ Kind e
  pub once : Nodup path
