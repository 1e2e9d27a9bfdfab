-- The four quadrants of a square one level up: where they lie in the raster.
use Rattle.std.specs.Prelude.{◌≡◌, refl, ℕ, zero, suc, ◌+◌, ◌*◌, ◌/◌, ◌%◌, ◌^◌, ◌≤◌, ◌<◌}
use Rattle.std.proofs.Math.Path.{ap}
use Rattle.std.proofs.Common.{◌∙◌, add-one, arith}
use Rattle.std.proofs.Math.Nat.{add-mul, dvd-add, dvd-mul_left, dvd_trans, dvd_of_mod-eq-zero, mod-eq-zero_of_dvd}
use Rattle.sequences.specs.Powers.{pow4_divides, pow4_pos}
use Rattle.interleaving.specs.Codes.{row}
use Rattle.location.specs.Squares.{square_in_image, quadrant-column, quadrant-row}
use Rattle.quadtree.specs.Raster.{place}

-- A multiple of a power is a multiple of every lower one.
pub lower_multiple : (c i j : ℕ) → i ≤ j → c % 4 ^ j ≡ 0 → c % 4 ^ i ≡ 0
lower_multiple c i j h m = mod-eq-zero_of_dvd (4 ^ i) (dvd_trans (4 ^ i) (pow4_divides h) (dvd_of_mod-eq-zero (4 ^ j) m))

module _ (n l c : ℕ) (level : l + 1 ≤ n) (inside : c < 4 ^ n) (multiple : c % 4 ^ (l + 1) ≡ 0) where
  four : 4 ^ (l + 1) ≡ 4 * 4 ^ l
  four = ap (λ (k : ℕ). 4 ^ k) (add-one l) ∙ omega arith

  quarter : (i : ℕ) → i < 4 → i * 4 ^ l + 4 ^ l ≤ 4 ^ (l + 1)
  quarter zero h = omega (arith, four)
  quarter (suc zero) h = omega (arith, four)
  quarter (suc (suc zero)) h = omega (arith, four)
  quarter (suc (suc (suc zero))) h = omega (arith, four)
  quarter (suc (suc (suc (suc i)))) h = absurd (omega arith)

  pub quadrant-inside : (i : ℕ) → i < 4 → c + i * 4 ^ l < 4 ^ n
  quadrant-inside i h = omega (arith, quarter i h, pow4_pos l, square_in_image n (l + 1) c level inside multiple)

  pub quadrant_multiple : (i : ℕ) → (c + i * 4 ^ l) % 4 ^ l ≡ 0
  quadrant_multiple i =
      mod-eq-zero_of_dvd (4 ^ l) (dvd-add (4 ^ l) (dvd_of_mod-eq-zero (4 ^ l) (lower_multiple c l (l + 1) (omega arith) multiple)) (dvd-mul_left (4 ^ l) i))

  quadrant-place : (i : ℕ) → i < 4 → place n (c + i * 4 ^ l) ≡ place n c + i / 2 * 2 ^ l * 2 ^ n + i % 2 * 2 ^ l
  unfolding place
  quadrant-place i h =
      let ex = quadrant-column n l c i level multiple h in
      let ey = quadrant-row n l c i level multiple h in
      omega (arith, ex, ap (λ (y : ℕ). y * 2 ^ n) ey, add-mul (row n c) (i / 2 * 2 ^ l) (2 ^ n))

  pub east_place : place n (c + 1 * 4 ^ l) ≡ place n c + 2 ^ l
  east_place = quadrant-place 1 (omega arith) ∙ omega arith

  pub south_place : place n (c + 2 * 4 ^ l) ≡ place n c + 2 ^ l * 2 ^ n
  south_place =
      let e : 2 / 2 * 2 ^ l ≡ 2 ^ l = omega arith in
      omega (arith, quadrant-place 2 (omega arith), ap (λ (s : ℕ). s * 2 ^ n) e)

  pub southeast_place : place n (c + 3 * 4 ^ l) ≡ place n c + 2 ^ l * 2 ^ n + 2 ^ l
  southeast_place =
      let e : 3 / 2 * 2 ^ l ≡ 2 ^ l = omega arith in
      omega (arith, quadrant-place 3 (omega arith), ap (λ (s : ℕ). s * 2 ^ n) e)

-- The places of the four pixels from a multiple of 4 on.
pub record FourPlaces (n c : ℕ) : Type 0 where
  pub east : place n (c + 1) ≡ place n c + 1
  pub south : place n (c + 2) ≡ place n c + 2 ^ n
  pub southeast : place n (c + 3) ≡ place n c + 2 ^ n + 1

pub four_places : (n c : ℕ) → 0 < n → c < 4 ^ n → c % 4 ≡ 0 → FourPlaces n c
four_places n c level inside multiple = record {
  east = east_place n 0 c level inside multiple;
  south = south_place n 0 c level inside multiple ∙ omega arith;
  southeast = southeast_place n 0 c level inside multiple ∙ omega arith;
}

-- A code that is no multiple of 4 starts a single pixel only.
pub level_of_other : (c l : ℕ) → c % 4 ^ l ≡ 0 → (c % 4 ≡ 0 → ⊥) → l ≡ 0
level_of_other c zero m h = refl
level_of_other c (suc l) m h = absurd (h (lower_multiple c 1 (suc l) (omega arith) m))
