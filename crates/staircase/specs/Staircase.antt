-- The staircase: which cells of an image with a margin are done.
use Rattle.std.specs.Prelude.{◌≡◌, refl, ◌⊎◌, Bool, true, false, ◌&&◌, ℕ, zero, suc, ◌^◌, ◌≤◌, ◌<◌, ltb}
use Rattle.std.proofs.Common.{ap, ◌∙◌, inl, inr, eq-or-lt_of_le, arith, ltb-true, lt-ltb, le-ltb}
use Rattle.sequences.specs.Cases.{and_both}
use Rattle.interleaving.specs.Codes.{code}
use Rattle.interleaving.specs.Interleaving.{code_grows_in_x, code_grows_in_y}

-- Whether a cell is done where the pixels with codes below d are. The pixel (x, y) is the cell (x + 1, y + 1), so that the cells
-- of column 0 and of row 0 are a margin: "What lies north and west of the image counts as done, what lies south and east as
-- not done" (document 01, "Regions").
unfoldable pub done : ℕ → ℕ → ℕ → ℕ → Bool
done n d zero row = true
done n d (suc x) zero = true
done n d (suc x) (suc y) = ltb x (2 ^ n) && (ltb y (2 ^ n) && ltb (code n x y) d)

-- Of four pixels, whose cells are (1, 1), (2, 1), (1, 2) and (2, 2), the first is done.
first_pixel_done : (done 1 1 1 1 ≡ true) × (done 1 1 2 1 ≡ false) × (done 1 1 1 2 ≡ false) × (done 1 1 2 2 ≡ false)
unfolding done code
first_pixel_done = (refl, refl, refl, refl)

pub done-west : (n d row : ℕ) → done n d 0 row ≡ true
unfolding done
done-west n d row = refl

pub done-north : (n d column : ℕ) → done n d column 0 ≡ true
unfolding done
done-north n d zero = refl
done-north n d (suc x) = refl

pub done_east : (n d column row : ℕ) → 2 ^ n < column → 0 < row → done n d column row ≡ false
unfolding done
done_east n d zero row h p = absurd (omega arith)
done_east n d (suc x) zero h p = absurd (omega arith)
done_east n d (suc x) (suc y) h p = rw (le-ltb x (2 ^ n) (omega arith), done)

pub done_pixel : (n d x y : ℕ) → x < 2 ^ n → y < 2 ^ n → done n d (suc x) (suc y) ≡ ltb (code n x y) d
unfolding done
done_pixel n d x y a b = rw (lt-ltb x (2 ^ n) a, lt-ltb y (2 ^ n) b, done)

-- What is done of the image itself.
pub record DonePixel (n d x y : ℕ) : Type 0 where
  pub in_column : x < 2 ^ n
  pub in_row : y < 2 ^ n
  pub below : code n x y < d

pub done-inside : (n d x y : ℕ) → done n d (suc x) (suc y) ≡ true → DonePixel n d x y
unfolding done
done-inside n d x y h =
    let outer = and_both (ltb x (2 ^ n)) (ltb y (2 ^ n) && ltb (code n x y) d) h in
    let inner = and_both (ltb y (2 ^ n)) (ltb (code n x y) d) outer.1 in
    record { in_column = ltb-true x (2 ^ n) outer.0; in_row = ltb-true y (2 ^ n) inner.0; below = ltb-true (code n x y) d inner.1 }

pub pixel_done : (n d x y : ℕ) → DonePixel n d x y → done n d (suc x) (suc y) ≡ true
pixel_done n d x y p = done_pixel n d x y p.in_column p.in_row ∙ lt-ltb (code n x y) d p.below

false_unless_true : (t : Bool) → (t ≡ true → ⊥) → t ≡ false
false_unless_true true h = absurd (h refl)
false_unless_true false h = refl

pub done_south : (n d column row : ℕ) → 2 ^ n < row → 0 < column → done n d column row ≡ false
done_south n d zero row h p = absurd (omega arith)
done_south n d (suc x) zero h p = absurd (omega arith)
done_south n d (suc x) (suc y) h p = false_unless_true (done n d (suc x) (suc y)) (λ e. absurd (outside (done-inside n d x y e)))
  where
    outside : DonePixel n d x y → ⊥
    outside q = omega arith

-- Codes grow in x and in y, so they grow from a pixel to one further east and south.
pub code_grows : (n x y x' y' : ℕ) → x' ≤ x → y' ≤ y → x < 2 ^ n → y < 2 ^ n → code n x' y' ≤ code n x y
code_grows n x y x' y' a b p q = omega (arith, in_x (eq-or-lt_of_le a), in_y (eq-or-lt_of_le b))
  where
    in_x : (x' ≡ x) ⊎ (x' < x) → code n x' y' ≤ code n x y'
    in_x (inl e) = omega (arith, ap (λ (z : ℕ). code n z y') e)
    in_x (inr l) = omega (arith, code_grows_in_x n x' x y' l p)

    in_y : (y' ≡ y) ⊎ (y' < y) → code n x y' ≤ code n x y
    in_y (inl e) = omega (arith, ap (λ (z : ℕ). code n x z) e)
    in_y (inr l) = omega (arith, code_grows_in_y n x y' y l q)

-- "the pixels done form a staircase: with a pixel (x, y), every pixel whose x and y are both no larger is done too", margin included.
pub staircase : (n d column row column' row' : ℕ) → column' ≤ column → row' ≤ row → done n d column row ≡ true → done n d column' row' ≡ true
staircase n d column row zero row' a b h = done-west n d row'
staircase n d column row (suc x') zero a b h = done-north n d (suc x')
staircase n d zero row (suc x') (suc y') a b h = absurd (omega arith)
staircase n d (suc x) zero (suc x') (suc y') a b h = absurd (omega arith)
staircase n d (suc x) (suc y) (suc x') (suc y') a b h =
    let p : DonePixel n d x y = done-inside n d x y h in
    pixel_done n d x' y'
    (record { in_column = omega arith; in_row = omega arith; below = omega (arith, code_grows n x y x' y' (omega arith) (omega arith) p.in_column p.in_row) })
