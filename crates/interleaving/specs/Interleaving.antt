-- The laws of interleaving, for any number k of binary digits.
use Rattle.std.specs.Prelude.{◌≡◌, ◌⊎◌, ℕ, zero, suc, ◌+◌, ◌*◌, ◌/◌, ◌%◌, ◌^◌, ◌≤◌, ◌<◌}
use Rattle.std.proofs.Common.{sym, ap, ap₂, ◌∙◌, inl, inr, eq-or-lt_of_le, arith}
use Rattle.interleaving.specs.Codes.{code, column, row}

half_le : (a b : ℕ) → a ≤ b → a / 2 ≤ b / 2
half_le a b h = omega arith

-- A code grows in x and in y: what lies northwest of a pixel comes before it.
pub code_grows_in_x : (k x x' y : ℕ) → x < x' → x' < 2 ^ k → code k x y < code k x' y
unfolding code
code_grows_in_x zero x x' y h l = omega arith
code_grows_in_x (suc k) x x' y h l = pick (code_grows_in_x k (x / 2) (x' / 2) (y / 2)) (eq-or-lt_of_le (half_le x x' (omega arith)))
  where
    pick : (x / 2 < x' / 2 → x' / 2 < 2 ^ k → code k (x / 2) (y / 2) < code k (x' / 2) (y / 2)) → (x / 2 ≡ x' / 2) ⊎ (x / 2 < x' / 2) → code (suc k) x y < code (suc k) x' y
    pick ih (inl e) = omega (arith, ap (λ z. code k z (y / 2)) e)
    pick ih (inr g) = omega (arith, ih g (omega arith))

pub code_grows_in_y : (k x y y' : ℕ) → y < y' → y' < 2 ^ k → code k x y < code k x y'
unfolding code
code_grows_in_y zero x y y' h l = omega arith
code_grows_in_y (suc k) x y y' h l = pick (code_grows_in_y k (x / 2) (y / 2) (y' / 2)) (eq-or-lt_of_le (half_le y y' (omega arith)))
  where
    pick : (y / 2 < y' / 2 → y' / 2 < 2 ^ k → code k (x / 2) (y / 2) < code k (x / 2) (y' / 2)) → (y / 2 ≡ y' / 2) ⊎ (y / 2 < y' / 2) → code (suc k) x y < code (suc k) x y'
    pick ih (inl e) = omega (arith, ap (λ z. code k (x / 2) z) e)
    pick ih (inr g) = omega (arith, ih g (omega arith))

-- Codes of k digits each are below 4 ^ k, and coordinates below 2 ^ k.
pub code_below : (k x y : ℕ) → code k x y < 4 ^ k
unfolding code
code_below zero x y = omega arith
code_below (suc k) x y = omega (arith, code_below k (x / 2) (y / 2))

pub column-below : (k c : ℕ) → column k c < 2 ^ k
unfolding column
column-below zero c = omega arith
column-below (suc k) c = omega (arith, column-below k (c / 4))

pub row_below : (k c : ℕ) → row k c < 2 ^ k
unfolding row
row_below zero c = omega arith
row_below (suc k) c = omega (arith, row_below k (c / 4))

-- The lowest digit of x, that of y and the rest of a code.
digits : (x y c : ℕ) → ((x % 2 + 2 * (y % 2) + 4 * c) % 2 ≡ x % 2) × ((x % 2 + 2 * (y % 2) + 4 * c) / 2 % 2 ≡ y % 2) × ((x % 2 + 2 * (y % 2) + 4 * c) / 4 ≡ c)
digits x y c = omega arith

-- x and y come back from their code, so no two pixels share one.
pub column_of_code : (k x y : ℕ) → x < 2 ^ k → column k (code k x y) ≡ x
unfolding code column
column_of_code zero x y h = omega arith
column_of_code (suc k) x y h =
    let c : ℕ = code k (x / 2) (y / 2) in
    let d = digits x y c in
    ap₂ (λ a b. a + 2 * column k b) d.0 d.2 ∙ omega (arith, column_of_code k (x / 2) (y / 2) (omega arith))

pub row_of_code : (k x y : ℕ) → y < 2 ^ k → row k (code k x y) ≡ y
unfolding code row
row_of_code zero x y h = omega arith
row_of_code (suc k) x y h =
    let c : ℕ = code k (x / 2) (y / 2) in
    let d = digits x y c in
    ap₂ (λ a b. a + 2 * row k b) d.1 d.2 ∙ omega (arith, row_of_code k (x / 2) (y / 2) (omega arith))

pub code_injective : (k x y x' y' : ℕ) → x < 2 ^ k → y < 2 ^ k → x' < 2 ^ k → y' < 2 ^ k → code k x y ≡ code k x' y' → (x ≡ x') × (y ≡ y')
code_injective k x y x' y' a b c d e =
    (sym (column_of_code k x y a) ∙ ap (column k) e ∙ column_of_code k x' y' c, sym (row_of_code k x y b) ∙ ap (row k) e ∙ row_of_code k x' y' d)

-- Every number below 4 ^ k is the code of its column and row.
pub code_of_coordinates : (k c : ℕ) → c < 4 ^ k → code k (column k c) (row k c) ≡ c
unfolding code column row
code_of_coordinates zero c h = omega arith
code_of_coordinates (suc k) c h =
    let x : ℕ = column k (c / 4) in
    let y : ℕ = row k (c / 4) in
    let ih : code k x y ≡ c / 4 = code_of_coordinates k (c / 4) (omega arith) in
    let hx : (c % 2 + 2 * x) / 2 ≡ x = omega arith in
    let hy : (c / 2 % 2 + 2 * y) / 2 ≡ y = omega arith in
    rw (hx, hy, ih) (omega arith)
