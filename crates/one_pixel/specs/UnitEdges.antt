-- The directed unit edges of all regions: how many there are.
use Rattle.std.specs.Prelude.{◌≡◌, refl, ◌≢◌, ◌↔◌, List, [], ◌∷◌, ℕ, suc, ◌-◌, ◌*◌, ◌^◌, ◌<◌, get_or}
use Rattle.std.proofs.Common.{sym, ap, ◌∙◌, mul_comm, mul-one, arith}
use Rattle.interleaving.specs.Codes.{code}
use Rattle.interleaving.specs.Interleaving.{code_below}
use Rattle.lattice.specs.Directions.{tail}
use Rattle.components.specs.Numbers.{numbers, regions}
use Rattle.grid.specs.Figures.{figure5b}
use Rattle.grid.specs.Map.{region_at, around}
use Rattle.grid.specs.Margins.{region-inside}
use Rattle.grid.specs.Steps.{Edge}
use Rattle.grid.specs.Sides.{side_at, beyond, Parts, side_parts, side_is_edge}
use Rattle.winding.specs.Sums.{same, same_yes, same_no, same_flip, at_most_yes, sum, sum_same, sum_times, sum_one}
use Rattle.one_pixel.specs.SideSums.{over_sides, sides_same, sides_swap}

-- 1 where the side d of the pixel (x, y) is an edge of the pixel's region on the map m, else 0: "A unit side of a pixel in region R is an
-- edge of R if the pixel beyond is in another region or outside the image" (document 01, "Outlines").
unfoldable pub edge_at : (ℕ → ℕ → ℕ) → ℕ → ℕ → ℕ → ℕ
unfolding same beyond
edge_at m x y d = 1 - same (beyond m x y d) (m (suc x) (suc y))

-- How many edges the region r has: over the sides of its pixels.
unfoldable pub region_edges : ℕ → List ℕ → ℕ → ℕ
unfolding over_sides same region_at edge_at
region_edges n nums r = over_sides (2 ^ n) (λ x y d. same (region_at n nums (suc x) (suc y)) (suc r) * edge_at (region_at n nums) x y d)

-- "The number of directed unit edges over all regions" (document 02, request j): of the first `count` regions of an image whose pixels
-- have the region numbers `nums`.
unfoldable pub unit_edges : ℕ → List ℕ → ℕ → ℕ
unfolding sum region_edges
unit_edges n nums count = sum count (region_edges n nums)

-- Dial 4 of document 01 has four regions of one pixel. Figure 5(b): the outlines of its three regions have 20, 4 and 8 unit edges.
dial_4 : unit_edges 1 (numbers 1 (1 ∷ 2 ∷ 2 ∷ 1 ∷ [])) (regions 1 (1 ∷ 2 ∷ 2 ∷ 1 ∷ [])) ≡ 16
unfolding unit_edges numbers regions
dial_4 = refl

figure_5b : (region_edges 2 figure5b 0 ≡ 20) × (region_edges 2 figure5b 1 ≡ 4) × (region_edges 2 figure5b 2 ≡ 8) × (unit_edges 2 figure5b 3 ≡ 32)
unfolding unit_edges figure5b
figure_5b = (refl, refl, refl, refl)

-- The test is document 01's edge: a side is an edge of r exactly where its pixel lies in r and the test gives 1.
pub edge_exactly : (m : ℕ → ℕ → ℕ) (r x y d : ℕ) → x < 511 → d < 4 → 0 < r
    → Edge m r (side_at x y d) ↔ ((m (suc x) (suc y) ≡ r) × (edge_at m x y d ≡ 1))
unfolding edge_at
edge_exactly m r x y d low h a_region = (
  λ e. let p : Parts m x y d = side_parts m x y d low h in
      let own : m (suc x) (suc y) ≡ r = sym (ap (around m (tail (side_at x y d))) p.direction ∙ p.here) ∙ e.side.on_right in
      let other : beyond m x y d ≢ r = (side_is_edge m r x y d low h a_region own).0 e in
      (own, omega (arith, same_no (beyond m x y d) (m (suc x) (suc y)) (λ q. other (q ∙ own)))),
  λ t. (side_is_edge m r x y d low h a_region t.0).1 (λ q. omega (arith, t.1, same_yes (beyond m x y d) (m (suc x) (suc y)) (q ∙ sym t.0))),
)

-- Where each number is below the count, the edges of all regions are counted over the sides of all pixels.
pub edges_over_sides : (n : ℕ) (nums : List ℕ) (count : ℕ) → ((c : ℕ) → c < 4 ^ n → get_or nums c 0 < count)
    → unit_edges n nums count ≡ over_sides (2 ^ n) (edge_at (region_at n nums))
unfolding unit_edges region_edges
edges_over_sides n nums count known =
    sides_swap count (2 ^ n) (λ r x y d. same (region_at n nums (suc x) (suc y)) (suc r) * edge_at (region_at n nums) x y d)
    ∙ sides_same (2 ^ n) _ (edge_at (region_at n nums)) (λ x y d a b h.
    in_one_region (region_at n nums (suc x) (suc y)) (get_or nums (code n x y) 0) (edge_at (region_at n nums) x y d)
    (region-inside n nums x y a b) (known (code n x y) (code_below n x y)))
  where
    in_one_region : (i v t : ℕ) → i ≡ suc v → v < count → sum count (λ r. same i (suc r) * t) ≡ t
    in_one_region i v t own l =
        sum_same count _ (λ r. t * same (suc r) (suc v))
        (λ r b. mul_comm (same i (suc r)) t ∙ ap (λ (s : ℕ). t * s) (same_flip i (suc r) ∙ ap (same (suc r)) own))
        ∙ sum_times count t (λ r. same (suc r) (suc v))
        ∙ ap (λ (s : ℕ). t * s) (sum_one count v ∙ at_most_yes (suc v) count l)
        ∙ mul-one t
