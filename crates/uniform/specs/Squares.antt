-- Squares of a raster that have one colour, row by row and by codes.
use Rattle.std.specs.Prelude.{◌≡◌, refl, Bool, true, false, List, length}
use Rattle.std.proofs.Math.Path.{sym, ap}
use Rattle.std.proofs.Common.{◌∙◌, subst, add-one, eq-eqb, ne_eqb}
use Rattle.std.proofs.lemmas.Bool.{false≢true}
use Prim.Native.Nat.{ℕ, zero, suc, ◌+◌, ◌-◌, ◌*◌, ◌%◌, ◌^◌, ◌≤◌, ◌<◌}
use Rattle.std.proofs.Math.Nat.{add-mul}
use native.Mathlib.Omega.{arith}
use Rattle.std.proofs.Math.ListN.{get_or}
use Rattle.sequences.specs.Cases.{same_test}
use Rattle.interleaving.specs.Codes.{column, row}
use Rattle.location.specs.Squares.{square_in_image, for_block_for_square}
use Rattle.quadtree.specs.Quadtree.{alike}
use Rattle.quadtree.specs.Painting.{alike_each, each_alike}
use Rattle.quadtree.specs.Raster.{place, in_code_order}
use Rattle.quadtree.specs.Orders.{in_code_order_at}
use Rattle.squares.specs.Rows.{RowsFit, rows_fit_next}

-- A run of pixels, tested from its first on up to the place e.
pub run-ended : (px : List ℕ) (v c k : ℕ) → k ≡ 0 → true ≡ alike px v c k
unfolding alike
run-ended px v c k h = rw h refl

pub run_goes_on : (px : List ℕ) (v c e : ℕ) → c < e → get_or px c 0 ≡ v → alike px v c (e - c) ≡ alike px v (c + 1) (e - (c + 1))
unfolding alike
run_goes_on px v c e l h =
    let k : e - c ≡ suc (e - (c + 1)) = omega arith in
    ap (alike px v c) k ∙ rw (eq-eqb (get_or px c 0) v h, alike) (ap (λ (d : ℕ). alike px v d (e - (c + 1))) (sym (add-one c)))

pub run_breaks : (px : List ℕ) (v c e : ℕ) → c < e → (get_or px c 0 ≡ v → ⊥) → false ≡ alike px v c (e - c)
unfolding alike
run_breaks px v c e l h =
    let k : e - c ≡ suc (e - (c + 1)) = omega arith in
    sym (ap (alike px v c) k ∙ rw (ne_eqb (get_or px c 0) v h, alike))

-- Whether k rows of s pixels from the place `at` on, in a raster of rows of w, have the colour v.
unfoldable pub rows_alike : List ℕ → ℕ → ℕ → ℕ → ℕ → ℕ → Bool
unfolding alike
rows_alike raster v w at s zero = true
rows_alike raster v w at s (suc k) = elim (alike raster v at s) [ true ↦ rows_alike raster v w (at + w) s k | false ↦ false ]

pub rows-alike-row : (raster : List ℕ) (v w at s k : ℕ) → alike raster v at s ≡ true → rows_alike raster v w at s (suc k) ≡ rows_alike raster v w (at + w) s k
unfolding rows_alike
rows-alike-row raster v w at s k h = rw (h, rows_alike)

pub rows-alike_stop : (raster : List ℕ) (v w at s k : ℕ) → alike raster v at s ≡ false → rows_alike raster v w at s (suc k) ≡ false
unfolding rows_alike
rows-alike_stop raster v w at s k h = rw (h, rows_alike)

pub rows-alike_none : (raster : List ℕ) (v w at s : ℕ) → rows_alike raster v w at s 0 ≡ true
unfolding rows_alike
rows-alike_none raster v w at s = refl

-- Every pixel of the rows has the colour.
rows_each : (raster : List ℕ) (v w at s k : ℕ) → rows_alike raster v w at s k ≡ true
    → (x y : ℕ) → x < s → y < k → get_or raster (at + y * w + x) 0 ≡ v
rows_each raster v w at s zero h x y a b = absurd (omega arith)
rows_each raster v w at s (suc k) h x y a b = by (alike raster v at s) refl y b (rows_each raster v w (at + w) s k)
  where
    by : (t : Bool) → alike raster v at s ≡ t → (y : ℕ) → y < suc k
        → (rows_alike raster v w (at + w) s k ≡ true → (x y : ℕ) → x < s → y < k → get_or raster (at + w + y * w + x) 0 ≡ v)
        → get_or raster (at + y * w + x) 0 ≡ v
    by false e y b ih = absurd (false≢true (sym (rows-alike_stop raster v w at s k e) ∙ h))
    by true e zero b ih =
        let z : at + 0 * w + x ≡ at + x = omega arith in
        ap (λ (i : ℕ). get_or raster i 0) z ∙ alike_each raster v at s e x a
    by true e (suc y) b ih =
        let z : at + suc y * w + x ≡ at + w + y * w + x = omega (arith, add-mul y 1 w) in
        ap (λ (i : ℕ). get_or raster i 0) z ∙ ih (sym (rows-alike-row raster v w at s k e) ∙ h) x y a (omega arith)

each_rows : (raster : List ℕ) (v w at s k : ℕ) → ((x y : ℕ) → x < s → y < k → get_or raster (at + y * w + x) 0 ≡ v)
    → rows_alike raster v w at s k ≡ true
each_rows raster v w at s zero h = rows-alike_none raster v w at s
each_rows raster v w at s (suc k) h =
    rows-alike-row raster v w at s k (each_alike raster v at s (λ i l.
    let z : at + i ≡ at + 0 * w + i = omega arith in
    ap (λ (j : ℕ). get_or raster j 0) z ∙ h i 0 l (omega arith)))
    ∙ each_rows raster v w (at + w) s k (λ x y a b.
    let z : at + w + y * w + x ≡ at + suc y * w + x = omega (arith, add-mul y 1 w) in
    ap (λ (j : ℕ). get_or raster j 0) z ∙ h x (suc y) a (omega arith))

-- The square of a block has one colour exactly where the block's codes have.
module _ (n l c : ℕ) (level : l ≤ n) (inside : c < 4 ^ n) (multiple : c % 4 ^ l ≡ 0) (raster : List ℕ) (v : ℕ) where
  px : List ℕ
  px = in_code_order n raster

  Painted : ℕ → ℕ → Type 0
  Painted x y = get_or raster (y * 2 ^ n + x) 0 ≡ v

  by_code : ((i : ℕ) → i < 4 ^ l → get_or px (c + i) 0 ≡ v) → (d : ℕ) → c ≤ d → d < c + 4 ^ l → Painted (column n d) (row n d)
  unfolding px Painted place
  by_code h d a b =
      let z : c + (d - c) ≡ d = omega arith in
      sym (in_code_order_at n raster d (omega (arith, square_in_image n l c level inside multiple)))
      ∙ ap (λ (e : ℕ). get_or px e 0) (sym z) ∙ h (d - c) (omega arith)

  by_pixel : ((x y : ℕ) → x < 2 ^ l → y < 2 ^ l → get_or raster (place n c + y * 2 ^ n + x) 0 ≡ v)
      → (x y : ℕ) → column n c ≤ x → x < column n c + 2 ^ l → row n c ≤ y → y < row n c + 2 ^ l → Painted x y
  unfolding Painted place
  by_pixel h x y a b d e =
      let y' : ℕ = y - row n c in
      let x' : ℕ = x - column n c in
      let ey : y ≡ row n c + y' = omega arith in
      let z : y * 2 ^ n + x ≡ row n c * 2 ^ n + column n c + y' * 2 ^ n + x' =
      omega (arith, ap (λ (t : ℕ). t * 2 ^ n) ey, add-mul (row n c) y' (2 ^ n)) in
      ap (λ (i : ℕ). get_or raster i 0) z ∙ h x' y' (omega arith) (omega arith)

  from_codes : ((d : ℕ) → c ≤ d → d < c + 4 ^ l → Painted (column n d) (row n d)) → (i : ℕ) → i < 4 ^ l → get_or px (c + i) 0 ≡ v
  unfolding px Painted place
  from_codes h i k =
      in_code_order_at n raster (c + i) (omega (arith, square_in_image n l c level inside multiple)) ∙ h (c + i) (omega arith) (omega arith)

  from_pixels : ((x y : ℕ) → column n c ≤ x → x < column n c + 2 ^ l → row n c ≤ y → y < row n c + 2 ^ l → Painted x y)
      → (x y : ℕ) → x < 2 ^ l → y < 2 ^ l → get_or raster (place n c + y * 2 ^ n + x) 0 ≡ v
  unfolding Painted place
  from_pixels h x y a b =
      let z : row n c * 2 ^ n + column n c + y * 2 ^ n + x ≡ (row n c + y) * 2 ^ n + (column n c + x) = omega (arith, add-mul (row n c) y (2 ^ n)) in
      ap (λ (i : ℕ). get_or raster i 0) z ∙ h (column n c + x) (row n c + y) (omega arith) (omega arith) (omega arith) (omega arith)

  pub square-alike : rows_alike raster v (2 ^ n) (place n c) (2 ^ l) (2 ^ l) ≡ alike (in_code_order n raster) v c (4 ^ l)
  unfolding px
  square-alike =
      same_test (rows_alike raster v (2 ^ n) (place n c) (2 ^ l) (2 ^ l)) (alike (in_code_order n raster) v c (4 ^ l))
      (λ h. each_alike px v c (4 ^ l) (from_codes ((for_block_for_square n l c level inside multiple Painted).1 (by_pixel (rows_each raster v (2 ^ n) (place n c) (2 ^ l) (2 ^ l) h)))))
      (λ h. each_rows raster v (2 ^ n) (place n c) (2 ^ l) (2 ^ l) (from_pixels ((for_block_for_square n l c level inside multiple Painted).0 (by_code (alike_each px v c (4 ^ l) h)))))

-- The pass over the rows of a square, y of s rows done.
pub record Rows (raster : List ℕ) (v w at s from y : ℕ) : Type 0 where
  pub within : y ≤ s
  pub fit : RowsFit (length raster) w from s (s - y)
  pub same : rows_alike raster v w from s (s - y) ≡ rows_alike raster v w at s s

module _ {raster : List ℕ} {v w at s : ℕ} where
  pub rows_none : RowsFit (length raster) w at s s → Rows raster v w at s at 0
  rows_none fit = let e : s - 0 ≡ s = omega arith in record { within = omega arith; fit = λ j h. fit j (omega arith); same = ap (rows_alike raster v w at s) e }

  module _ {from y : ℕ} (r : Rows raster v w at s from y) where
    pub row_fits : y < s → from + s ≤ length raster
    row_fits h = omega (arith, r.fit 0 (omega arith))

    module _ (more : y < s) where
      left : s - y ≡ suc (s - (y + 1))
      left = omega (arith, more)

      pub rows_more : alike raster v from s ≡ true → Rows raster v w at s (from + w) (y + 1)
      rows_more h = record {
        within = omega (arith, more);
        fit = rows_fit_next (length raster) w from s (s - (y + 1)) (subst (RowsFit (length raster) w from s) left r.fit);
        same = sym (ap (rows_alike raster v w from s) left ∙ rows-alike-row raster v w from s (s - (y + 1)) h) ∙ r.same;
      }

      pub rows_stop : alike raster v from s ≡ false → false ≡ rows_alike raster v w at s s
      rows_stop h = sym (ap (rows_alike raster v w from s) left ∙ rows-alike_stop raster v w from s (s - (y + 1)) h) ∙ r.same

    pub rows_all : s ≤ y → true ≡ rows_alike raster v w at s s
    rows_all h =
        let e : s - y ≡ 0 = omega arith in
        sym (ap (rows_alike raster v w from s) e ∙ rows-alike_none raster v w from s) ∙ r.same
