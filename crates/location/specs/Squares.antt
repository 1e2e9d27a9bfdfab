-- Blocks are squares: the 4 ^ l codes from a multiple of 4 ^ l on are those of the pixels of a square of side 2 ^ l.
use Rattle.std.specs.Prelude.{◌≡◌, ◌↔◌, ℕ, suc, ◌+◌, ◌-◌, ◌*◌, ◌/◌, ◌%◌, ◌^◌, ◌≤◌, ◌<◌}
use Rattle.std.proofs.Common.{sym, ap, ap₂, ◌∙◌, subst₂, div-add-mod', div-lt_iff_lt-mul, le-div_iff_mul-le, add-mul, mul_assoc, mul_comm, mul-le-mul_right, arith, pow-add}
use Rattle.sequences.specs.Powers.{pow2_pos, pow4_pos}
use Rattle.interleaving.specs.Codes.{code, column, row}
use Rattle.interleaving.specs.Interleaving.{column-below, row_below, column_of_code, row_of_code, code_of_coordinates}
use Rattle.interleaving.specs.Splitting.{code_high, column_of_multiple, row_of_multiple}

-- A number lies in the stretch of length w at q * w exactly where its quotient is q.
quotient_in_stretch : (w q v : ℕ) → 0 < w → v / w ≡ q → (q * w ≤ v) × (v < q * w + w)
quotient_in_stretch w q v p e = (
  (le-div_iff_mul-le p).0 (omega arith),
  let h : v < suc q * w = (div-lt_iff_lt-mul p).0 (omega arith) in omega (arith, add-mul q 1 w),
)

stretch_has_quotient : (w q v : ℕ) → 0 < w → q * w ≤ v → v < q * w + w → v / w ≡ q
stretch_has_quotient w q v p a b =
    let low : q ≤ v / w = (le-div_iff_mul-le p).1 a in
    let high : v / w < suc q = (div-lt_iff_lt-mul p).1 (omega (arith, add-mul q 1 w)) in
    omega arith

-- Below a power, a multiple of a lower power leaves room for one more of it.
room : (w q m : ℕ) → q < m → q * w + w ≤ m * w
room w q m h = let g : suc q * w ≤ m * w = mul-le-mul_right w h in omega (arith, add-mul q 1 w)

-- The block at code c of level l, in an image of side 2 ^ k.
module _ (k l c : ℕ) (level : l ≤ k) (inside : c < 4 ^ k) (multiple : c % 4 ^ l ≡ 0) where
  digits_apart : k ≡ l + (k - l)
  digits_apart = omega arith

  -- the code's high digits, and what k digits are worth
  code_apart : c ≡ c / 4 ^ l * 4 ^ l
  code_apart = omega (arith, div-add-mod' c (4 ^ l))

  codes_apart : 4 ^ k ≡ 4 ^ (k - l) * 4 ^ l
  codes_apart = ap (λ (j : ℕ). 4 ^ j) digits_apart ∙ pow-add 4 l (k - l) ∙ mul_comm (4 ^ l) (4 ^ (k - l))

  sides_apart : 2 ^ k ≡ 2 ^ (k - l) * 2 ^ l
  sides_apart = ap (λ (j : ℕ). 2 ^ j) digits_apart ∙ pow-add 2 l (k - l) ∙ mul_comm (2 ^ l) (2 ^ (k - l))

  high_below : c / 4 ^ l < 4 ^ (k - l)
  high_below = (div-lt_iff_lt-mul (pow4_pos l)).1 (omega (arith, codes_apart))

  column_apart : column k c ≡ column (k - l) (c / 4 ^ l) * 2 ^ l
  column_apart = ap₂ column digits_apart code_apart ∙ column_of_multiple l (k - l) (c / 4 ^ l)

  row_apart : row k c ≡ row (k - l) (c / 4 ^ l) * 2 ^ l
  row_apart = ap₂ row digits_apart code_apart ∙ row_of_multiple l (k - l) (c / 4 ^ l)

  -- The square lies within the image, and the block within its codes.
  pub square_in_image : (column k c + 2 ^ l ≤ 2 ^ k) × (row k c + 2 ^ l ≤ 2 ^ k) × (c + 4 ^ l ≤ 4 ^ k)
  square_in_image =
      let q : ℕ = c / 4 ^ l in
      let m : ℕ = k - l in (
        omega (arith, column_apart, sides_apart, room (2 ^ l) (column m q) (2 ^ m) (column-below m q)),
        omega (arith, row_apart, sides_apart, room (2 ^ l) (row m q) (2 ^ m) (row_below m q)),
        omega (arith, code_apart, codes_apart, room (4 ^ l) q (4 ^ m) high_below),
      )

  -- the code of a pixel within its block, by its high digits
  code_quotient : (x y : ℕ) → code k x y / 4 ^ l ≡ code (k - l) (x / 2 ^ l) (y / 2 ^ l)
  code_quotient x y = ap (λ (j : ℕ). code j x y / 4 ^ l) digits_apart ∙ code_high l (k - l) x y

  -- "A block is always a quadrant of section 2": its codes are exactly those of the pixels of its square.
  pub block_is_square : (x y : ℕ) → x < 2 ^ k → y < 2 ^ k
      → ((c ≤ code k x y) × (code k x y < c + 4 ^ l)) ↔ ((column k c ≤ x) × (x < column k c + 2 ^ l) × (row k c ≤ y) × (y < row k c + 2 ^ l))
  block_is_square x y hx hy = (to, from)
    where
      q : ℕ
      q = c / 4 ^ l

      m : ℕ
      m = k - l

      x_below : x / 2 ^ l < 2 ^ m
      x_below = (div-lt_iff_lt-mul (pow2_pos l)).1 (omega (arith, sides_apart))

      y_below : y / 2 ^ l < 2 ^ m
      y_below = (div-lt_iff_lt-mul (pow2_pos l)).1 (omega (arith, sides_apart))

      to : (c ≤ code k x y) × (code k x y < c + 4 ^ l) → (column k c ≤ x) × (x < column k c + 2 ^ l) × (row k c ≤ y) × (y < row k c + 2 ^ l)
      to h =
          let same : code m (x / 2 ^ l) (y / 2 ^ l) ≡ q = sym (code_quotient x y) ∙ stretch_has_quotient (4 ^ l) q (code k x y) (pow4_pos l) (omega (arith, code_apart)) (omega (arith, code_apart)) in
          let ex : x / 2 ^ l ≡ column m q = sym (column_of_code m (x / 2 ^ l) (y / 2 ^ l) x_below) ∙ ap (column m) same in
          let ey : y / 2 ^ l ≡ row m q = sym (row_of_code m (x / 2 ^ l) (y / 2 ^ l) y_below) ∙ ap (row m) same in
          let sx = quotient_in_stretch (2 ^ l) (column m q) x (pow2_pos l) ex in
          let sy = quotient_in_stretch (2 ^ l) (row m q) y (pow2_pos l) ey in
          omega (arith, column_apart, row_apart)

      from : (column k c ≤ x) × (x < column k c + 2 ^ l) × (row k c ≤ y) × (y < row k c + 2 ^ l) → (c ≤ code k x y) × (code k x y < c + 4 ^ l)
      from h =
          let ex : x / 2 ^ l ≡ column m q = stretch_has_quotient (2 ^ l) (column m q) x (pow2_pos l) (omega (arith, column_apart)) (omega (arith, column_apart)) in
          let ey : y / 2 ^ l ≡ row m q = stretch_has_quotient (2 ^ l) (row m q) y (pow2_pos l) (omega (arith, row_apart)) (omega (arith, row_apart)) in
          let same : code k x y / 4 ^ l ≡ q = code_quotient x y ∙ ap₂ (code m) ex ey ∙ code_of_coordinates m q high_below in
          let s = quotient_in_stretch (4 ^ l) q (code k x y) (pow4_pos l) same in
          omega (arith, code_apart)

  pub pixel_in_block : (x y : ℕ) → column k c ≤ x → x < column k c + 2 ^ l → row k c ≤ y → y < row k c + 2 ^ l → (c ≤ code k x y) × (code k x y < c + 4 ^ l)
  pixel_in_block x y a b d e = (block_is_square x y (omega (arith, square_in_image)) (omega (arith, square_in_image))).1 (a, b, d, e)

  -- What holds of every code of the block holds of every pixel of the square, and the other way round.
  pub for_block_for_square {ℓ} : (P : ℕ → ℕ → Type ℓ)
      → ((d : ℕ) → c ≤ d → d < c + 4 ^ l → P (column k d) (row k d))
      ↔ ((x y : ℕ) → column k c ≤ x → x < column k c + 2 ^ l → row k c ≤ y → y < row k c + 2 ^ l → P x y)
  for_block_for_square P = (to, from)
    where
      to : ((d : ℕ) → c ≤ d → d < c + 4 ^ l → P (column k d) (row k d)) → (x y : ℕ) → column k c ≤ x → x < column k c + 2 ^ l → row k c ≤ y → y < row k c + 2 ^ l → P x y
      to f x y a b d e =
          let hx : x < 2 ^ k = omega (arith, square_in_image) in
          let hy : y < 2 ^ k = omega (arith, square_in_image) in
          let h = pixel_in_block x y a b d e in
          subst₂ P (column_of_code k x y hx) (row_of_code k x y hy) (f (code k x y) h.0 h.1)

      from : ((x y : ℕ) → column k c ≤ x → x < column k c + 2 ^ l → row k c ≤ y → y < row k c + 2 ^ l → P x y) → (d : ℕ) → c ≤ d → d < c + 4 ^ l → P (column k d) (row k d)
      from g d a b =
          let same : code k (column k d) (row k d) ≡ d = code_of_coordinates k d (omega (arith, square_in_image)) in
          let h = (block_is_square (column k d) (row k d) (column-below k d) (row_below k d)).0 (omega arith, omega arith) in
          g (column k d) (row k d) h.0 h.1 h.2 h.3

-- The four quadrants of a square one level up.
quadrant-digit-column : (j q i : ℕ) → i < 4 → column (suc j) (q * 4 + i) ≡ column (suc j) (q * 4) + i % 2
unfolding column
quadrant-digit-column j q i h =
    let a : (q * 4 + i) % 2 ≡ i % 2 = omega arith in
    let b : (q * 4 + i) / 4 ≡ q = omega arith in
    let d : q * 4 % 2 ≡ 0 = omega arith in
    let e : q * 4 / 4 ≡ q = omega arith in
    rw (a, b, d, e) (omega arith)

quadrant-digit-row : (j q i : ℕ) → i < 4 → row (suc j) (q * 4 + i) ≡ row (suc j) (q * 4) + i / 2
unfolding row
quadrant-digit-row j q i h =
    let a : (q * 4 + i) / 2 % 2 ≡ i / 2 = omega arith in
    let b : (q * 4 + i) / 4 ≡ q = omega arith in
    let d : q * 4 / 2 % 2 ≡ 0 = omega arith in
    let e : q * 4 / 4 ≡ q = omega arith in
    rw (a, b, d, e) (omega arith)

quadrant-code : (l c i : ℕ) → c % 4 ^ (l + 1) ≡ 0 → (c ≡ c / 4 ^ (l + 1) * 4 * 4 ^ l) × (c + i * 4 ^ l ≡ (c / 4 ^ (l + 1) * 4 + i) * 4 ^ l)
quadrant-code l c i d =
    let q : ℕ = c / 4 ^ (l + 1) in
    let e : c ≡ q * 4 ^ (l + 1) = omega (arith, div-add-mod' c (4 ^ (l + 1))) in
    let f : q * 4 ^ (l + 1) ≡ q * 4 * 4 ^ l = ap (λ (p : ℕ). q * p) (pow-add 4 l 1 ∙ mul_comm (4 ^ l) 4) ∙ sym (mul_assoc q 4 (4 ^ l)) in
    (e ∙ f, omega (arith, add-mul (q * 4) i (4 ^ l)))

-- "So the quadrants come in the order northwest, northeast, southwest, southeast": quadrant i lies i % 2 sides east and i / 2 south.
pub quadrant-column : (k l c i : ℕ) → l + 1 ≤ k → c % 4 ^ (l + 1) ≡ 0 → i < 4 → column k (c + i * 4 ^ l) ≡ column k c + i % 2 * 2 ^ l
quadrant-column k l c i h d f =
    let q : ℕ = c / 4 ^ (l + 1) in
    let j : ℕ = k - suc l in
    let w : k ≡ l + suc j = omega arith in
    let at : (p : ℕ) → column k (p * 4 ^ l) ≡ column (suc j) p * 2 ^ l = λ p. ap (λ (z : ℕ). column z (p * 4 ^ l)) w ∙ column_of_multiple l (suc j) p in
    let e = quadrant-code l c i d in
    let lhs : column k (c + i * 4 ^ l) ≡ (column (suc j) (q * 4) + i % 2) * 2 ^ l = ap (column k) e.1 ∙ at (q * 4 + i) ∙ ap (λ (z : ℕ). z * 2 ^ l) (quadrant-digit-column j q i f) in
    let rhs : column k c ≡ column (suc j) (q * 4) * 2 ^ l = ap (column k) e.0 ∙ at (q * 4) in
    omega (arith, add-mul (column (suc j) (q * 4)) (i % 2) (2 ^ l))

pub quadrant-row : (k l c i : ℕ) → l + 1 ≤ k → c % 4 ^ (l + 1) ≡ 0 → i < 4 → row k (c + i * 4 ^ l) ≡ row k c + i / 2 * 2 ^ l
quadrant-row k l c i h d f =
    let q : ℕ = c / 4 ^ (l + 1) in
    let j : ℕ = k - suc l in
    let w : k ≡ l + suc j = omega arith in
    let at : (p : ℕ) → row k (p * 4 ^ l) ≡ row (suc j) p * 2 ^ l = λ p. ap (λ (z : ℕ). row z (p * 4 ^ l)) w ∙ row_of_multiple l (suc j) p in
    let e = quadrant-code l c i d in
    let lhs : row k (c + i * 4 ^ l) ≡ (row (suc j) (q * 4) + i / 2) * 2 ^ l = ap (row k) e.1 ∙ at (q * 4 + i) ∙ ap (λ (z : ℕ). z * 2 ^ l) (quadrant-digit-row j q i f) in
    let rhs : row k c ≡ row (suc j) (q * 4) * 2 ^ l = ap (row k) e.0 ∙ at (q * 4) in
    omega (arith, add-mul (row (suc j) (q * 4)) (i / 2) (2 ^ l))
