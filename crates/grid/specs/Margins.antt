-- The map with a margin: what it has inside the image and outside.
use Rattle.std.specs.Prelude.{◌≡◌, refl, Bool, true, false, ◌&&◌, List, ℕ, zero, suc, ◌^◌, ◌≤◌, ◌<◌, get_or, ltb}
use Rattle.std.proofs.Common.{ap, ◌∙◌, arith, lt-ltb, le-ltb}
use Rattle.std.proofs.Math.Decide.{dec_le}
use Rattle.sequences.specs.Powers.{pow2_mono}
use Rattle.interleaving.specs.Codes.{code, column, row}
use Rattle.interleaving.specs.Interleaving.{column-below, row_below, code_of_coordinates}
use Rattle.grid.specs.Map.{region_at}

-- Where a map has a region, and not 0, is inside an image of side 256 at most.
abbrev pub Margin : (ℕ → ℕ → ℕ) → Type 0
Margin m = (X Y : ℕ) → 0 < m X Y → (0 < X) × (X ≤ 256) × (0 < Y) × (Y ≤ 256)

-- A pixel of the image, and one outside.
pub region-inside : (n : ℕ) (nums : List ℕ) (x y : ℕ) → x < 2 ^ n → y < 2 ^ n → region_at n nums (suc x) (suc y) ≡ suc (get_or nums (code n x y) 0)
unfolding region_at
region-inside n nums x y h k = rw (lt-ltb x (2 ^ n) h, lt-ltb y (2 ^ n) k, region_at)

pub region_east : (n : ℕ) (nums : List ℕ) (x Y : ℕ) → 2 ^ n ≤ x → region_at n nums (suc x) Y ≡ 0
unfolding region_at
region_east n nums x zero h = refl
region_east n nums x (suc y) h = rw (le-ltb x (2 ^ n) h, region_at)

pub region_south : (n : ℕ) (nums : List ℕ) (X y : ℕ) → 2 ^ n ≤ y → region_at n nums X (suc y) ≡ 0
unfolding region_at
region_south n nums zero y h = refl
region_south n nums (suc x) y h = pick (ltb x (2 ^ n))
  where
    pick : (b : Bool) → ◌≡◌ {A = ℕ} (elim (b && ltb y (2 ^ n)) [ true ↦ suc (get_or nums (code n x y) 0) | false ↦ 0 ]) 0
    pick true = ap {B = ℕ} (λ (c : Bool). elim c [ true ↦ suc (get_or nums (code n x y) 0) | false ↦ 0 ]) (le-ltb y (2 ^ n) h)
    pick false = refl

-- A place of the map that is no 0 is a pixel of the image.
pub record Pixel (n : ℕ) (nums : List ℕ) (X Y r : ℕ) : Type 0 where
  pub x : ℕ
  pub y : ℕ
  pub from_x : X ≡ suc x
  pub from_y : Y ≡ suc y
  pub x_below : x < 2 ^ n
  pub y_below : y < 2 ^ n
  pub number : suc (get_or nums (code n x y) 0) ≡ r

pub pixel_at : (n : ℕ) (nums : List ℕ) (X Y r : ℕ) → 0 < r → region_at n nums X Y ≡ r → Pixel n nums X Y r
unfolding region_at
pixel_at n nums zero Y r h e = absurd (omega arith)
pixel_at n nums (suc x) zero r h e = absurd (omega arith)
pixel_at n nums (suc x) (suc y) r h e = pick (dec_le (2 ^ n) x) (dec_le (2 ^ n) y)
  where
    pick : Dec (2 ^ n ≤ x) → Dec (2 ^ n ≤ y) → Pixel n nums (suc x) (suc y) r
    pick (yes a) b = absurd (omega (arith, region_east n nums x (suc y) a, e))
    pick (no a) (yes b) = absurd (omega (arith, region_south n nums (suc x) y b, e))
    pick (no a) (no b) =
        let p : x < 2 ^ n = omega arith in
        let q : y < 2 ^ n = omega arith in
        record { x = x; y = y; from_x = refl; from_y = refl; x_below = p; y_below = q; number = omega (arith, region-inside n nums x y p q, e) }

pub region_margin : (n : ℕ) (nums : List ℕ) → n ≤ 8 → Margin (region_at n nums)
region_margin n nums h X Y pos =
    let w : 2 ^ n ≤ 2 ^ 8 = pow2_mono h in
    let p : Pixel n nums X Y (region_at n nums X Y) = pixel_at n nums X Y (region_at n nums X Y) pos refl in
    omega arith

-- The pixel with the code c.
pub region_of_code : (n : ℕ) (nums : List ℕ) (c : ℕ) → c < 4 ^ n → region_at n nums (suc (column n c)) (suc (row n c)) ≡ suc (get_or nums c 0)
region_of_code n nums c h =
    region-inside n nums (column n c) (row n c) (column-below n c) (row_below n c)
    ∙ ap (λ (d : ℕ). suc (get_or nums d 0)) (code_of_coordinates n c h)
