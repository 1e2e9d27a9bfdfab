-- The low and the high digits of a location code: how code, column and row of l + m digits come from those of l and of m.
use Rattle.std.specs.Prelude.{◌≡◌, refl, ℕ, zero, suc, ◌+◌, ◌-◌, ◌*◌, ◌/◌, ◌%◌, ◌^◌, ◌≤◌, ◌<◌}
use Rattle.std.proofs.Common.{sym, ap, ap₂, ◌∙◌, zero-add, suc-add, div-one, one-mul, mul_assoc, mul_comm, mul-div_cancel, pow-suc, arith}
use Rattle.std.proofs.Math.Nat.{div-div-eq-div-mul, div-eq_of_lt, add-mul-div_left, mul-mod_left, pow-succ'}
use Rattle.std.proofs.Math.Arith.{mod-mul}
use Rattle.sequences.specs.Powers.{pow2_pos, pow4_pos}
use Rattle.interleaving.specs.Codes.{code, column, row}
use Rattle.interleaving.specs.Interleaving.{code_below}

-- One division by 2 ^ (l + 1) in two steps, and one by 4 ^ (l + 1).
half_then : (l x : ℕ) → x / 2 / 2 ^ l ≡ x / 2 ^ suc l
half_then l x = div-div-eq-div-mul x 2 (2 ^ l) ∙ ap (λ (p : ℕ). x / p) (sym (pow-succ' 2 l))

quarter_then : (l c : ℕ) → c / 4 / 4 ^ l ≡ c / 4 ^ suc l
quarter_then l c = div-div-eq-div-mul c 4 (4 ^ l) ∙ ap (λ (p : ℕ). c / p) (sym (pow-succ' 4 l))

two_more : (l a : ℕ) → 2 * (2 ^ l * a) ≡ 2 ^ suc l * a
two_more l a = sym (mul_assoc 2 (2 ^ l) a) ∙ ap (λ (p : ℕ). p * a) (sym (pow-succ' 2 l))

four_more : (l a : ℕ) → 4 * (4 ^ l * a) ≡ 4 ^ suc l * a
four_more l a = sym (mul_assoc 4 (4 ^ l) a) ∙ ap (λ (p : ℕ). p * a) (sym (pow-succ' 4 l))

pub code_split : (l m x y : ℕ) → code (l + m) x y ≡ code l x y + 4 ^ l * code m (x / 2 ^ l) (y / 2 ^ l)
unfolding code
code_split zero m x y =
    ap (λ (k : ℕ). code k x y) (zero-add m)
    ∙ sym (zero-add (4 ^ 0 * code m (x / 2 ^ 0) (y / 2 ^ 0)) ∙ one-mul (code m (x / 1) (y / 1)) ∙ ap₂ (code m) (div-one x) (div-one y))
code_split (suc l) m x y =
    let high : code m (x / 2 / 2 ^ l) (y / 2 / 2 ^ l) ≡ code m (x / 2 ^ suc l) (y / 2 ^ suc l) = ap₂ (code m) (half_then l x) (half_then l y) in
    let h : ℕ = code m (x / 2 / 2 ^ l) (y / 2 / 2 ^ l) in
    let more : 4 * (4 ^ l * h) ≡ 4 ^ suc l * code m (x / 2 ^ suc l) (y / 2 ^ suc l) = four_more l h ∙ ap (λ (d : ℕ). 4 ^ suc l * d) high in
    ap (λ (k : ℕ). code k x y) (suc-add l m) ∙ omega (arith, code_split l m (x / 2) (y / 2), more)

pub column_split : (l m c : ℕ) → column (l + m) c ≡ column l c + 2 ^ l * column m (c / 4 ^ l)
unfolding column
column_split zero m c =
    ap (λ (k : ℕ). column k c) (zero-add m)
    ∙ sym (zero-add (2 ^ 0 * column m (c / 4 ^ 0)) ∙ one-mul (column m (c / 1)) ∙ ap (column m) (div-one c))
column_split (suc l) m c =
    let h : ℕ = column m (c / 4 / 4 ^ l) in
    let more : 2 * (2 ^ l * h) ≡ 2 ^ suc l * column m (c / 4 ^ suc l) = two_more l h ∙ ap (λ (d : ℕ). 2 ^ suc l * column m d) (quarter_then l c) in
    ap (λ (k : ℕ). column k c) (suc-add l m) ∙ omega (arith, column_split l m (c / 4), more)

pub row_split : (l m c : ℕ) → row (l + m) c ≡ row l c + 2 ^ l * row m (c / 4 ^ l)
unfolding row
row_split zero m c =
    ap (λ (k : ℕ). row k c) (zero-add m)
    ∙ sym (zero-add (2 ^ 0 * row m (c / 4 ^ 0)) ∙ one-mul (row m (c / 1)) ∙ ap (row m) (div-one c))
row_split (suc l) m c =
    let h : ℕ = row m (c / 4 / 4 ^ l) in
    let more : 2 * (2 ^ l * h) ≡ 2 ^ suc l * row m (c / 4 ^ suc l) = two_more l h ∙ ap (λ (d : ℕ). 2 ^ suc l * row m d) (quarter_then l c) in
    ap (λ (k : ℕ). row k c) (suc-add l m) ∙ omega (arith, row_split l m (c / 4), more)

-- The pixel with code 0 is the one in the northwest corner.
pub column-zero : (k : ℕ) → column k 0 ≡ 0
unfolding column
column-zero zero = refl
column-zero (suc k) = omega (arith, column-zero k)

pub row_zero : (k : ℕ) → row k 0 ≡ 0
unfolding row
row_zero zero = refl
row_zero (suc k) = omega (arith, row_zero k)

code-zero : (k : ℕ) → code k 0 0 ≡ 0
unfolding code
code-zero zero = refl
code-zero (suc k) = omega (arith, code-zero k)

-- More digits than a number has change nothing.
pub code_wider : (k m x y : ℕ) → k ≤ m → x < 2 ^ k → y < 2 ^ k → code m x y ≡ code k x y
code_wider k m x y h a b =
    let e : m ≡ k + (m - k) = omega arith in
    let z : code (m - k) (x / 2 ^ k) (y / 2 ^ k) ≡ 0 = ap₂ (code (m - k)) (div-eq_of_lt a) (div-eq_of_lt b) ∙ code-zero (m - k) in
    let w : 4 ^ k * code (m - k) (x / 2 ^ k) (y / 2 ^ k) ≡ 4 ^ k * 0 = ap (λ (d : ℕ). 4 ^ k * d) z in
    ap (λ (j : ℕ). code j x y) e ∙ omega (arith, code_split k (m - k) x y, w)

pub column_wider : (k m c : ℕ) → k ≤ m → c < 4 ^ k → column m c ≡ column k c
column_wider k m c h a =
    let e : m ≡ k + (m - k) = omega arith in
    let z : column (m - k) (c / 4 ^ k) ≡ 0 = ap (column (m - k)) (div-eq_of_lt a) ∙ column-zero (m - k) in
    let w : 2 ^ k * column (m - k) (c / 4 ^ k) ≡ 2 ^ k * 0 = ap (λ (d : ℕ). 2 ^ k * d) z in
    ap (λ (j : ℕ). column j c) e ∙ omega (arith, column_split k (m - k) c, w)

pub row_wider : (k m c : ℕ) → k ≤ m → c < 4 ^ k → row m c ≡ row k c
row_wider k m c h a =
    let e : m ≡ k + (m - k) = omega arith in
    let z : row (m - k) (c / 4 ^ k) ≡ 0 = ap (row (m - k)) (div-eq_of_lt a) ∙ row_zero (m - k) in
    let w : 2 ^ k * row (m - k) (c / 4 ^ k) ≡ 2 ^ k * 0 = ap (λ (d : ℕ). 2 ^ k * d) z in
    ap (λ (j : ℕ). row j c) e ∙ omega (arith, row_split k (m - k) c, w)

-- The digits of what l digits leave of a number.
low_half : (l x : ℕ) → (x % 2 ^ suc l % 2 ≡ x % 2) × (x % 2 ^ suc l / 2 ≡ x / 2 % 2 ^ l)
low_half l x =
    let e : x % 2 ^ suc l ≡ x / 2 % 2 ^ l * 2 + x % 2 = ap (λ (p : ℕ). x % p) (pow-suc 2 l) ∙ mod-mul x (pow2_pos l) (omega arith) in
    omega arith

low_quarter : (l c : ℕ) → (c % 4 ^ suc l % 2 ≡ c % 2) × (c % 4 ^ suc l / 2 % 2 ≡ c / 2 % 2) × (c % 4 ^ suc l / 4 ≡ c / 4 % 4 ^ l)
low_quarter l c =
    let e : c % 4 ^ suc l ≡ c / 4 % 4 ^ l * 4 + c % 4 = ap (λ (p : ℕ). c % p) (pow-suc 4 l) ∙ mod-mul c (pow4_pos l) (omega arith) in
    omega arith

-- Only its l low digits count among l digits.
pub code_low : (l x y : ℕ) → code l (x % 2 ^ l) (y % 2 ^ l) ≡ code l x y
unfolding code
code_low zero x y = refl
code_low (suc l) x y =
    let a = low_half l x in
    let b = low_half l y in
    rw (a.0, a.1, b.0, b.1, code_low l (x / 2) (y / 2)) refl

pub column_low : (l c : ℕ) → column l (c % 4 ^ l) ≡ column l c
unfolding column
column_low zero c = refl
column_low (suc l) c =
    let a = low_quarter l c in
    rw (a.0, a.2, column_low l (c / 4)) refl

pub row_low : (l c : ℕ) → row l (c % 4 ^ l) ≡ row l c
unfolding row
row_low zero c = refl
row_low (suc l) c =
    let a = low_quarter l c in
    rw (a.1, a.2, row_low l (c / 4)) refl

-- A multiple of 4 ^ l has no low digits, and its column and row are multiples of 2 ^ l.
pub column_of_multiple : (l m q : ℕ) → column (l + m) (q * 4 ^ l) ≡ column m q * 2 ^ l
column_of_multiple l m q =
    let low : column l (q * 4 ^ l) ≡ 0 = sym (column_low l (q * 4 ^ l)) ∙ ap (column l) (mul-mod_left q (4 ^ l)) ∙ column-zero l in
    let high : 2 ^ l * column m (q * 4 ^ l / 4 ^ l) ≡ column m q * 2 ^ l = mul_comm (2 ^ l) (column m (q * 4 ^ l / 4 ^ l)) ∙ ap (λ (d : ℕ). column m d * 2 ^ l) (mul-div_cancel q (pow4_pos l)) in
    column_split l m (q * 4 ^ l) ∙ omega arith

pub row_of_multiple : (l m q : ℕ) → row (l + m) (q * 4 ^ l) ≡ row m q * 2 ^ l
row_of_multiple l m q =
    let low : row l (q * 4 ^ l) ≡ 0 = sym (row_low l (q * 4 ^ l)) ∙ ap (row l) (mul-mod_left q (4 ^ l)) ∙ row_zero l in
    let high : 2 ^ l * row m (q * 4 ^ l / 4 ^ l) ≡ row m q * 2 ^ l = mul_comm (2 ^ l) (row m (q * 4 ^ l / 4 ^ l)) ∙ ap (λ (d : ℕ). row m d * 2 ^ l) (mul-div_cancel q (pow4_pos l)) in
    row_split l m (q * 4 ^ l) ∙ omega arith

-- The high digits of a code are the code of the high digits.
pub code_high : (l m x y : ℕ) → code (l + m) x y / 4 ^ l ≡ code m (x / 2 ^ l) (y / 2 ^ l)
code_high l m x y =
    ap (λ (d : ℕ). d / 4 ^ l) (code_split l m x y)
    ∙ (add-mul-div_left (code l x y) (code m (x / 2 ^ l) (y / 2 ^ l)) (pow4_pos l) ∙ omega (arith, div-eq_of_lt (code_below l x y)))
