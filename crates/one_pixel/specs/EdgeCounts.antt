-- One pixel of another colour moves the number of unit edges by at most 8 (document 02, request j).
use Rattle.std.specs.Prelude.{◌≡◌, refl, ◌≢◌, List, get_or, set, replicate}
use Rattle.std.proofs.Common.{sym, ap, ap₂, ◌∙◌}
use Prim.Native.Nat.{ℕ, zero, suc, ◌+◌, ◌-◌, ◌*◌, ◌^◌, ◌≤◌, ◌<◌}
use Rattle.std.proofs.Math.Decide.{ℕ_discrete}
use native.Mathlib.Omega.{arith}
use Rattle.interleaving.specs.Codes.{code, column, row}
use Rattle.interleaving.specs.Interleaving.{code_below, column_of_code, row_of_code}
use Rattle.components.specs.Joined.{Step, north, east, south, west, Beside}
use Rattle.components.specs.Numbers.{numbers, regions}
use Rattle.components.proofs.Numbered.{number-below-regions, neighbours_of_one_number_exactly_when_alike}
use Rattle.grid.specs.Map.{region_at}
use Rattle.grid.specs.Margins.{Pixel, pixel_at, region-inside}
use Rattle.grid.specs.Sides.{beyond}
use Rattle.winding.specs.Sums.{same, same_yes, same_no, sum}
use Rattle.one_pixel.specs.Agreeing.{AgreeBut, agree_back}
use Rattle.one_pixel.specs.OneOfMany.{same_follows, square_once}
use Rattle.one_pixel.specs.SideSums.{over_sides, sides-le, sides-add}
use Rattle.one_pixel.specs.UnitEdges.{edge_at, unit_edges, edges_over_sides}

module _ (n c : ℕ) (px qx : List ℕ) (agree : AgreeBut c px qx) where
  -- The maps of both images.
  abbrev before : ℕ → ℕ → ℕ
  before = region_at n (numbers n px)

  abbrev after : ℕ → ℕ → ℕ
  after = region_at n (numbers n qx)

  -- 1 at the place of the pixel with the code c, else 0.
  abbrev mark : ℕ → ℕ → ℕ
  mark X Y = same Y (suc (row n c)) * same X (suc (column n c))

  marked : (x y X Y : ℕ) → x < 2 ^ n → y < 2 ^ n → X ≡ suc x → Y ≡ suc y → code n x y ≡ c → mark X Y ≡ 1
  marked x y X Y a b p q e =
      ap₂ ◌*◌ (same_yes Y (suc (row n c)) (q ∙ ap suc (sym (row_of_code n x y b) ∙ ap (row n) e)))
      (same_yes X (suc (column n c)) (p ∙ ap suc (sym (column_of_code n x y a) ∙ ap (column n) e)))

  -- Neighbours other than c that have one number in the first image have one in the second.
  still_one : (d e : ℕ) → Beside n d e → d ≢ c → e ≢ c → get_or (numbers n px) d 0 ≡ get_or (numbers n px) e 0
      → get_or (numbers n qx) d 0 ≡ get_or (numbers n qx) e 0
  still_one d e b f g one =
      (neighbours_of_one_number_exactly_when_alike n qx d e b).1
      (agree e g ∙ (neighbours_of_one_number_exactly_when_alike n px d e b).0 one ∙ sym (agree d f))

  -- The side between the pixel (x, y) and the place (X, Y): if it is an edge now, it was one, or c is at one of both places.
  abbrev Moves : ℕ → ℕ → ℕ → ℕ → Type 0
  Moves x y X Y = 1 - same (after X Y) (after (suc x) (suc y)) ≤ 1 - same (before X Y) (before (suc x) (suc y)) + (mark (suc x) (suc y) + mark X Y)

  side_moves : (x y X Y : ℕ) → x < 2 ^ n → y < 2 ^ n
      → ((d e : ℕ) → column n d ≡ x → row n d ≡ y → suc (column n e) ≡ X → suc (row n e) ≡ Y → Step n d e) → Moves x y X Y
  side_moves x y X Y a b step = pick (ℕ_discrete (before X Y) 0)
    where
      here : (nums : List ℕ) → region_at n nums (suc x) (suc y) ≡ suc (get_or nums (code n x y) 0)
      here nums = region-inside n nums x y a b

      -- (X, Y) is the place of the pixel (u, v).
      by : (u v : ℕ) → u < 2 ^ n → v < 2 ^ n → X ≡ suc u → Y ≡ suc v → Dec (code n x y ≡ c) → Dec (code n u v ≡ c) → Moves x y X Y
      by u v i j p q (yes e) g = omega (arith, marked x y (suc x) (suc y) a b refl refl e)
      by u v i j p q (no f) (yes g) = omega (arith, marked u v X Y i j p q g)
      by u v i j p q (no f) (no g) = omega (arith, same_follows (before X Y) (before (suc x) (suc y)) (after X Y) (after (suc x) (suc y)) still)
        where
          there : (nums : List ℕ) → region_at n nums X Y ≡ suc (get_or nums (code n u v) 0)
          there nums = ap₂ (region_at n nums) p q ∙ region-inside n nums u v i j

          beside : Beside n (code n x y) (code n u v)
          beside = record {
            from = code_below n x y;
            to = code_below n u v;
            step = step (code n x y) (code n u v) (column_of_code n x y a) (row_of_code n x y b)
                (ap suc (column_of_code n u v i) ∙ sym p) (ap suc (row_of_code n u v j) ∙ sym q);
          }

          still : before X Y ≡ before (suc x) (suc y) → after X Y ≡ after (suc x) (suc y)
          still e =
              let one : get_or (numbers n px) (code n x y) 0 ≡ get_or (numbers n px) (code n u v) 0 = omega (arith, here (numbers n px), there (numbers n px)) in
              omega (arith, here (numbers n qx), there (numbers n qx), still_one (code n x y) (code n u v) beside f g one)

      pick : Dec (before X Y ≡ 0) → Moves x y X Y
      pick (yes z) = omega (arith, same_no (before X Y) (before (suc x) (suc y)) (λ e. omega (arith, here (numbers n px))))
      pick (no z) =
          let p : Pixel n (numbers n px) X Y (before X Y) = pixel_at n (numbers n px) X Y (before X Y) (omega arith) refl in
          by p.x p.y p.x_below p.y_below p.from_x p.from_y (ℕ_discrete (code n x y) c) (ℕ_discrete (code n p.x p.y) c)

  edge_moves : (x y d : ℕ) → x < 2 ^ n → y < 2 ^ n → edge_at after x y d ≤ edge_at before x y d + (mark (suc x) (suc y) + beyond mark x y d)
  unfolding edge_at beyond
  edge_moves x y zero a b = side_moves x y (suc x) y a b (λ d e p q i j. north (omega arith) (omega arith))
  edge_moves x y (suc zero) a b = side_moves x y x (suc y) a b (λ d e p q i j. west (omega arith) (omega arith))
  edge_moves x y (suc (suc zero)) a b = side_moves x y (suc x) (suc (suc y)) a b (λ d e p q i j. south (omega arith) (omega arith))
  edge_moves x y (suc (suc (suc d))) a b = side_moves x y (suc (suc x)) (suc y) a b (λ d e p q i j. east (omega arith) (omega arith))

  -- Four sides are those of c, and beyond four sides c lies.
  four_own : over_sides (2 ^ n) (λ x y d. mark (suc x) (suc y)) ≤ 4
  unfolding over_sides sum
  four_own = omega (arith, square_once (2 ^ n) (suc (column n c)) (suc (row n c)) suc suc (λ i. omega arith) (λ i. omega arith))

  four_beyond : over_sides (2 ^ n) (beyond mark) ≤ 4
  unfolding over_sides sum beyond
  four_beyond =
      let once = square_once (2 ^ n) (suc (column n c)) (suc (row n c)) in
      omega (
        arith,
        once suc (λ i. i) (λ i. omega arith) (λ i. omega arith),
        once (λ i. i) suc (λ i. omega arith) (λ i. omega arith),
        once suc (λ i. suc (suc i)) (λ i. omega arith) (λ i. omega arith),
        once (λ i. suc (suc i)) suc (λ i. omega arith) (λ i. omega arith),
      )

  edges_grow_by_eight_at_most : unit_edges n (numbers n qx) (regions n qx) ≤ unit_edges n (numbers n px) (regions n px) + 8
  edges_grow_by_eight_at_most =
      omega (
        arith,
        edges_over_sides n (numbers n px) (regions n px) (number-below-regions n px),
        edges_over_sides n (numbers n qx) (regions n qx) (number-below-regions n qx),
        sides-le (2 ^ n) (edge_at after) (λ x y d. edge_at before x y d + (mark (suc x) (suc y) + beyond mark x y d)) edge_moves,
        sides-add (2 ^ n) (edge_at before) (λ x y d. mark (suc x) (suc y) + beyond mark x y d),
        sides-add (2 ^ n) (λ x y d. mark (suc x) (suc y)) (beyond mark),
        four_own,
        four_beyond,
      )

-- "The number of directed unit edges over all regions moves by at most 8" (document 02, request j).
pub edges_move_by_eight_at_most : (n c : ℕ) (px qx : List ℕ) → AgreeBut c px qx
    → (unit_edges n (numbers n qx) (regions n qx) ≤ unit_edges n (numbers n px) (regions n px) + 8)
    × (unit_edges n (numbers n px) (regions n px) ≤ unit_edges n (numbers n qx) (regions n qx) + 8)
edges_move_by_eight_at_most n c px qx agree =
    (edges_grow_by_eight_at_most n c px qx agree, edges_grow_by_eight_at_most n c qx px (agree_back c px qx agree))

-- One pixel in an image of one colour: its four sides become edges of two regions.
eight_more : (unit_edges 2 (numbers 2 (replicate 16 5)) (regions 2 (replicate 16 5)) ≡ 16)
    × (unit_edges 2 (numbers 2 (set (replicate 16 5) 3 7)) (regions 2 (set (replicate 16 5) 3 7)) ≡ 24)
unfolding unit_edges numbers regions
eight_more = (refl, refl)
