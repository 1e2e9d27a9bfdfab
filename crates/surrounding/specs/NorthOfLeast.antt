-- The pixel north of a region's least pixel: it lies in another region, with a smaller number, and the side between them is an edge of
-- that region.
use Rattle.std.specs.Prelude.{◌≡◌, ◌≢◌, List, get_or}
use Rattle.std.proofs.Math.Path.{sym}
use Rattle.std.proofs.Common.{ap, ap₂, ◌∙◌, arith}
use Prim.Native.Nat.{ℕ, suc, ◌-◌, ◌^◌, ◌≤◌, ◌<◌}
use Rattle.interleaving.specs.Codes.{column, row}
use Rattle.interleaving.specs.Interleaving.{column-below, row_below, column_of_code, row_of_code}
use Rattle.grid.specs.Map.{region_at}
use Rattle.grid.specs.Margins.{region_of_code}
use Rattle.grid.specs.Steps.{Edge}
use Rattle.grid.specs.Sides.{beyond, side_is_edge}
use Rattle.grid.specs.North.{side_small}
use Rattle.grid.specs.Outer.{LeastPixel, nothing-north}
use Rattle.components.proofs.Joined.{connected_to}
use Rattle.components.specs.Numbers.{numbers, north_of}
use Rattle.components.proofs.Neighbours.{north-le, north_beside}
use Rattle.components.specs.Numbered.{LeastCode}
use Rattle.components.proofs.Numbered.{one_number_exactly_when_joined, numbers_rise_with_least_codes}
use Rattle.surrounding.specs.SouthSides.{south_side}

-- The least pixel c of a region, not in the first row; the region t of the pixel north of it, and the least pixel a of t.
pub record Below (n : ℕ) (nums : List ℕ) (c t a : ℕ) : Type 0 where
  pub least : LeastPixel n nums c
  pub lower : 0 < row n c
  pub region : get_or nums (north_of n c) 0 ≡ t
  pub first : LeastPixel n nums a
  pub of_region_lem : get_or nums a 0 ≡ t

module _ {n : ℕ} {nums : List ℕ} {c t a : ℕ} (b : Below n nums c t a) where
  pub north-column : column n (north_of n c) ≡ column n c
  unfolding north_of
  north-column = column_of_code n (column n c) (row n c - 1) (column-below n c)

  pub north-row : suc (row n (north_of n c)) ≡ row n c
  unfolding north_of
  north-row = omega (arith, row_of_code n (column n c) (row n c - 1) (omega (arith, row_below n c)), b.lower)

  north-inside : north_of n c < 4 ^ n
  north-inside = (north_beside n c b.least.inside b.lower).to

  pub other_region : get_or nums c 0 ≢ t
  unfolding north_of
  other_region e = nothing-north n nums c b.least (row n c - 1) (omega (arith, b.lower)) (b.region ∙ sym e)

  pub region-north : region_at n nums (suc (column n (north_of n c))) (suc (row n (north_of n c))) ≡ suc t
  region-north = region_of_code n nums (north_of n c) north-inside ∙ ap suc b.region

  region-here : region_at n nums (suc (column n (north_of n c))) (suc (suc (row n (north_of n c)))) ≡ suc (get_or nums c 0)
  region-here = ap₂ (λ x y. region_at n nums (suc x) (suc y)) north-column north-row ∙ region_of_code n nums c b.least.inside

  -- The side between them.
  pub side_between : n ≤ 8 → Edge (region_at n nums) (suc t) (south_side n (north_of n c))
  unfolding south_side beyond
  side_between small =
      let q : ℕ = north_of n c in
      let low : column n q < 511 = omega (arith, column-below n q, side_small n small) in
      (side_is_edge (region_at n nums) (suc t) (column n q) (row n q) 2 low (omega arith) (omega arith) region-north).1
      (λ e. other_region (omega (arith, region-here, e)))

-- The region to the north has the smaller number.
module _ (n : ℕ) (px : List ℕ) where
  abbrev nums : List ℕ
  nums = numbers n px

  least_code : (d : ℕ) → LeastPixel n nums d → LeastCode n px d
  least_code d p = record {
    inside = p.inside;
    least = λ e j. p.least e (connected_to j) (sym ((one_number_exactly_when_joined n px d e p.inside (connected_to j)).1 j));
  }

  pub smaller_number : {c t a : ℕ} → Below n nums c t a → t < get_or nums c 0
  smaller_number {c} {t} {a} b =
      let q : ℕ = north_of n c in
      let le : a ≤ q = b.first.least q (north-inside b) (b.region ∙ sym b.of_region_lem) in
      let apart : q ≢ c = λ e. other_region b (ap (λ x. get_or nums x 0) (sym e) ∙ b.region) in
      omega (
        arith,
        b.of_region_lem,
        numbers_rise_with_least_codes n px a c (least_code a b.first) (least_code c b.least) (omega (arith, le, apart, north-le n c b.least.inside)),
      )
