-- The area as the sum of the winding numbers over all pixels: southward and northward crossings, each by itself.
use Rattle.std.specs.Prelude.{◌≡◌, refl}
use Rattle.std.proofs.Math.Path.{sym, ap₂}
use Rattle.std.proofs.Common.{ap, ◌∙◌, mul-one, arith}
use mathlib.Core.List.{List, [], ◌∷◌}
use Prim.Native.Nat.{ℕ, zero, suc, ◌+◌, ◌*◌, ◌%◌, ◌≤◌, ◌<◌}
use Rattle.std.proofs.Math.Nat.{mul_comm}
use Rattle.std.proofs.Math.Decide.{ℕ_discrete}
use Rattle.lattice.specs.Directions.{x_of, tail, digit}
use Rattle.orbits.specs.Members.{In, in_first, in_later}
use Rattle.winding.specs.Sums.{same, at_most, same_no, at_most_no, sum, sum_same, sum_none, sum-add, sum_times, sum-le, sum_less, sum_at_most, sum_one}
use Rattle.winding.specs.Tallies.{tally, tally_none}
use Rattle.winding.specs.Edges.{row_of}
use Rattle.winding.specs.Crossings.{crosses, crosses_yes, crosses_no, crossings, x_sum}

-- The sum over the places of the pixels of an image of side w, row by row.
unfoldable pub over_pixels : ℕ → (ℕ → ℕ → ℕ) → ℕ
unfolding sum
over_pixels w f = sum w (λ y. sum w (λ x. f (suc x) (suc y)))

pub pixels_same : (w : ℕ) (f g : ℕ → ℕ → ℕ) → ((x y : ℕ) → x < w → y < w → f (suc x) (suc y) ≡ g (suc x) (suc y)) → over_pixels w f ≡ over_pixels w g
unfolding over_pixels
pixels_same w f g h = sum_same w _ _ (λ y b. sum_same w _ _ (λ x a. h x y a b))

pixels_none : (w : ℕ) (f : ℕ → ℕ → ℕ) → ((X Y : ℕ) → f X Y ≡ 0) → over_pixels w f ≡ 0
unfolding over_pixels
pixels_none w f h = sum_none w _ (λ y. sum_none w _ (λ x. h (suc x) (suc y)))

pub pixels-add : (w : ℕ) (f g : ℕ → ℕ → ℕ) → over_pixels w (λ X Y. f X Y + g X Y) ≡ over_pixels w f + over_pixels w g
unfolding over_pixels
pixels-add w f g =
    sum_same w _ _ (λ y b. sum-add w (λ x. f (suc x) (suc y)) (λ x. g (suc x) (suc y)))
    ∙ sum-add w (λ y. sum w (λ x. f (suc x) (suc y))) (λ y. sum w (λ x. g (suc x) (suc y)))

-- No pixel has less in g than in f, and one has more.
pub pixels_less : (w : ℕ) (f g : ℕ → ℕ → ℕ) (x y : ℕ) → x < w → y < w → f (suc x) (suc y) < g (suc x) (suc y)
    → ((i j : ℕ) → i < w → j < w → f (suc i) (suc j) ≤ g (suc i) (suc j)) → over_pixels w f < over_pixels w g
unfolding over_pixels
pixels_less w f g x y a b l h =
    sum_less w _ _ y b (sum_less w _ _ x a l (λ i k. h i y k b)) (λ j q. sum-le w _ _ (λ i k. h i j k q))

-- In one row of the image, x pixels lie west of a vertical edge with this x.
pixels-west : (w c x y : ℕ) → x ≤ w → y < w → over_pixels w (λ X Y. c * at_most X x * same Y (suc y)) ≡ c * x
unfolding over_pixels at_most
pixels-west w c x y h k =
    sum_same w _ (λ j. c * x * same (suc j) (suc y)) (λ j b. in_row (same (suc j) (suc y)))
    ∙ sum_times w (c * x) (λ j. same (suc j) (suc y))
    ∙ ap (λ (s : ℕ). c * x * s) (omega (arith, sum_one w y)) ∙ mul-one (c * x)
  where
    in_row : (s : ℕ) → sum w (λ i. c * at_most (suc i) x * s) ≡ c * x * s
    in_row s =
        sum_same w _ (λ i. s * (c * at_most (suc i) x)) (λ i b. mul_comm (c * at_most (suc i) x) s)
        ∙ sum_times w s (λ i. c * at_most (suc i) x)
        ∙ ap (λ (k : ℕ). s * k) (sum_times w c (λ i. at_most (suc i) x) ∙ ap (λ (k : ℕ). c * k) (omega (arith, sum_at_most w x)))
        ∙ mul_comm s (c * x)

-- The vertical edge e lies within the image of side w; all vertical edges of a list do.
pub record WithinImage (w e : ℕ) : Type 0 where
  pub x_within : x_of (tail e) ≤ w
  pub row_above : 0 < row_of e
  pub row_within : row_of e ≤ w

abbrev pub AllFit : ℕ → List ℕ → Type 0
AllFit w es = (e : ℕ) → In e es → digit e % 2 ≡ 1 → WithinImage w e

module _ (w d : ℕ) (vertical : d % 2 ≡ 1) where
  edge_over_pixels : (e : ℕ) → (digit e % 2 ≡ 1 → WithinImage w e) → x_of (tail e) * same (digit e) d ≡ over_pixels w (λ X Y. crosses d X Y e)
  unfolding crosses
  edge_over_pixels e fits = pick (ℕ_discrete (digit e) d)
    where
      in_row : (x Y : ℕ) → x ≤ w → 0 < Y → Y ≤ w → x * same (digit e) d ≡ over_pixels w (λ X Z. same (digit e) d * at_most X x * same Z Y)
      in_row x zero a b c = absurd (omega arith)
      in_row x (suc y) a b c = mul_comm x (same (digit e) d) ∙ sym (pixels-west w (same (digit e) d) x y a (omega arith))

      pick : Dec (digit e ≡ d) → x_of (tail e) * same (digit e) d ≡ over_pixels w (λ X Y. crosses d X Y e)
      pick (yes h) = let f = fits (ap (λ k. k % 2) h ∙ vertical) in in_row (x_of (tail e)) (row_of e) f.x_within f.row_above f.row_within
      pick (no h) =
          ap (λ (s : ℕ). x_of (tail e) * s) (same_no (digit e) d h)
          ∙ sym (pixels_none w (λ X Y. crosses d X Y e) (λ X Y. crosses_no d X Y e h) ∙ omega arith)

  -- The sum of x over the edges with the digit d is, over all pixels, the sum of the crossings of the ray east of the pixel.
  pub x_sum_over_pixels : (es : List ℕ) → AllFit w es → x_sum d es ≡ over_pixels w (crossings d es)
  unfolding x_sum crossings tally
  x_sum_over_pixels [] fits = sym (pixels_none w (λ X Y. 0) (λ X Y. refl))
  x_sum_over_pixels (e ∷ es) fits =
      ap₂ ◌+◌ (edge_over_pixels e (fits e (in_first e es))) (x_sum_over_pixels es (λ a i. fits a (in_later a e es i)))
      ∙ sym (pixels-add w (λ X Y. crosses d X Y e) (crossings d es))

  no_crossings : (X Y : ℕ) (es : List ℕ) → AllFit w es → ((e : ℕ) → WithinImage w e → at_most X (x_of (tail e)) * same Y (row_of e) ≡ 0) → crossings d es X Y ≡ 0
  unfolding crossings
  no_crossings X Y es fits none = tally_none (crosses d X Y) es (λ e i. pick e (fits e i) (ℕ_discrete (digit e) d))
    where
      pick : (e : ℕ) → (digit e % 2 ≡ 1 → WithinImage w e) → Dec (digit e ≡ d) → crosses d X Y e ≡ 0
      pick e fit (no h) = crosses_no d X Y e h
      pick e fit (yes h) = crosses_yes d X Y e h ∙ none e (fit (ap (λ k. k % 2) h ∙ vertical))

  -- No such edge crosses a ray north of the image, one south of it, or one that begins east of it.
  pub no_crossings_north : (X : ℕ) (es : List ℕ) → AllFit w es → crossings d es X 0 ≡ 0
  no_crossings_north X es fits =
      no_crossings X 0 es fits (λ e f. ap (λ (s : ℕ). at_most X (x_of (tail e)) * s) (same_no 0 (row_of e) (omega (arith, f.row_above))) ∙ omega arith)

  pub no_crossings_south : (X Y : ℕ) → w < Y → (es : List ℕ) → AllFit w es → crossings d es X Y ≡ 0
  no_crossings_south X Y far es fits =
      no_crossings X Y es fits (λ e f. ap (λ (s : ℕ). at_most X (x_of (tail e)) * s) (same_no Y (row_of e) (omega (arith, f.row_within))) ∙ omega arith)

  pub no_crossings_east : (X Y : ℕ) → w < X → (es : List ℕ) → AllFit w es → crossings d es X Y ≡ 0
  no_crossings_east X Y far es fits =
      no_crossings X Y es fits (λ e f. ap (λ (s : ℕ). s * same Y (row_of e)) (at_most_no X (x_of (tail e)) (omega (arith, f.x_within))) ∙ omega arith)
