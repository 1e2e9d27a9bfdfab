-- Which region surrounds which (document 02, request h). `nums` holds the region numbers of the 4^n pixels in rising location code.
use Rattle.std.specs.Prelude.{◌≡◌, refl, ◌≢◌, List, [], ◌∷◌, ℕ, suc, ◌^◌, ◌≤◌, ◌<◌, get_or}
use Rattle.std.proofs.Common.{arith, lit<, lit≤}
use Rattle.interleaving.specs.Codes.{column, row}
use Rattle.grid.specs.Figures.{figure5b}

-- "with diagonal steps allowed": the pixels with the codes c and d lie at most one column and at most one row apart. A step that stays
-- where it is leads nowhere new.
pub record Near (n c d : ℕ) : Type 0 where
  pub from : c < 4 ^ n
  pub to : d < 4 ^ n
  pub columns : (column n c ≤ suc (column n d)) × (column n d ≤ suc (column n c))
  pub rows : (row n c ≤ suc (row n d)) × (row n d ≤ suc (row n c))

-- The pixels (1, 1) and (2, 2) of an image of side 4.
near_over_a_corner : Near 2 3 12
unfolding column row
near_over_a_corner = record { from = lit< tt; to = lit< tt; columns = (lit≤ tt, lit≤ tt); rows = (lit≤ tt, lit≤ tt) }

-- "path .. through pixels outside R": from the pixel c, where no pixel of the path lies in the region r, the first and the last neither.
-- "a path of one pixel counts".
pub data Outside (n : ℕ) (nums : List ℕ) (r c : ℕ) : ℕ → Type 0 where
  start : c < 4 ^ n → get_or nums c 0 ≢ r → Outside n nums r c c
  on : {d e : ℕ} → Outside n nums r c d → Near n d e → get_or nums e 0 ≢ r → Outside n nums r c e

-- "a pixel at the image's edge": in its first or last column, or in its first or last row.
pub data AtEdge (n c : ℕ) : Type 0 where
  west : column n c ≡ 0 → AtEdge n c
  north : row n c ≡ 0 → AtEdge n c
  east : suc (column n c) ≡ 2 ^ n → AtEdge n c
  south : suc (row n c) ≡ 2 ^ n → AtEdge n c

-- In an image of side 4: the pixels (0, 1), (1, 0), (3, 1) and (1, 3).
at_each_edge : AtEdge 2 2 × AtEdge 2 1 × AtEdge 2 7 × AtEdge 2 11
unfolding column row
at_each_edge = (west refl, north refl, east refl, south refl)

-- A path outside the region r "reaches a pixel at the image's edge" from the pixel c.
pub record Escapes (n : ℕ) (nums : List ℕ) (r c : ℕ) : Type 0 where
  pub end : ℕ
  pub path : Outside n nums r c end
  pub at_edge : AtEdge n end

-- In an image of side 2 the pixel (1, 1), which is region 1, lies at the image's edge. In figure 5(b) a path leads from the only pixel of
-- region 1 over a corner and through region 2.
of_one_pixel : Escapes 1 (0 ∷ 0 ∷ 0 ∷ 1 ∷ []) 0 3
unfolding column row
of_one_pixel = record { end = 3; path = start (lit< tt) (λ e. omega arith); at_edge = east refl }

over_a_corner : Escapes 2 figure5b 0 3
unfolding column row figure5b
over_a_corner =
    let first : Outside 2 figure5b 0 3 3 = start (lit< tt) (λ e. omega arith) in
    let second : Outside 2 figure5b 0 3 12 = on first near_over_a_corner (λ e. omega arith) in
    let third : Near 2 12 13 = record { from = lit< tt; to = lit< tt; columns = (lit≤ tt, lit≤ tt); rows = (lit≤ tt, lit≤ tt) } in
    record { end = 13; path = on second third (λ e. omega arith); at_edge = east refl }

-- "Region R surrounds S if no path from S through pixels outside R, with diagonal steps allowed, reaches a pixel at the image's edge; R
-- and S differ". Of a number s that no pixel has it says nothing: every other number surrounds it. A number r that no pixel has
-- surrounds no region, since what surrounds has the smaller number (`surrounding_is_smaller`).
pub record Surrounds (n : ℕ) (nums : List ℕ) (r s : ℕ) : Type 0 where
  pub differ : r ≢ s
  pub shut : (c : ℕ) → get_or nums c 0 ≡ s → ¬ Escapes n nums r c

not_itself : (n : ℕ) (nums : List ℕ) (r : ℕ) → ¬ Surrounds n nums r r
not_itself n nums r s = s.differ refl
