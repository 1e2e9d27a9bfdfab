-- The levels of the blocks that may start at a code: half the zeros that end it tell which powers of 4 divide it.
use Rattle.std.specs.Prelude.{◌≡◌, refl, ◌≢◌, ◌↔◌, ℕ, zero, suc, ◌+◌, ◌*◌, ◌/◌, ◌%◌, ◌^◌, ◌≤◌, ◌<◌}
use Rattle.std.proofs.Common.{sym, ap, ◌∙◌, mod-eq_of_lt, mul-div_cancel, mul_comm, pow-suc, arith, eq-eqb, ne_eqb}
use Rattle.std.proofs.Math.Nat.{mod-one, zero-mod, mul-mod_left, eq_of_mul-eq-mul_right}
use Rattle.std.proofs.Math.Decide.{dec_le, ℕ_discrete}
use Rattle.std.proofs.Math.Arith.{mod-mul}
use Rattle.std.specs.Int.Count.{count_trailing_zeros, under}
use Rattle.sequences.specs.Powers.{pow2_pos, pow4_pos, pow4_mono, pow2_double}
use Rattle.location.specs.Levels.{alignment, top_level}
use Rattle.location.specs.Squares.{square_in_image}

-- Division by 2 ^ (j + 1), digit by digit.
low_digit : (j c : ℕ) → c % 2 ^ suc j ≡ c / 2 % 2 ^ j * 2 + c % 2
low_digit j c = ap (λ (p : ℕ). c % p) (pow-suc 2 j) ∙ mod-mul c (pow2_pos j) (omega arith)

-- 2 ^ j divides a number exactly where j zeros end it.
zeros_divide : (k j c : ℕ) → j ≤ count_trailing_zeros k c → c % 2 ^ j ≡ 0
unfolding count_trailing_zeros
zeros_divide k zero c h = mod-one c
zeros_divide zero (suc j) c h = absurd (omega arith)
zeros_divide (suc k) (suc j) c h = step (c % 2) refl h (zeros_divide k j (c / 2))
  where
    step : (d : ℕ) → c % 2 ≡ d → suc j ≤ under d (count_trailing_zeros k (c / 2)) → (j ≤ count_trailing_zeros k (c / 2) → c / 2 % 2 ^ j ≡ 0) → c % 2 ^ suc j ≡ 0
    step zero e l more = omega (arith, low_digit j c, more (omega arith))
    step (suc d) e l more = absurd (omega arith)

zeros_count : (k j c : ℕ) → j ≤ k → c % 2 ^ j ≡ 0 → j ≤ count_trailing_zeros k c
unfolding count_trailing_zeros
zeros_count k zero c h e = omega arith
zeros_count zero (suc j) c h e = absurd (omega arith)
zeros_count (suc k) (suc j) c h e =
    let even : c % 2 ≡ 0 = omega (arith, low_digit j c) in
    let more : j ≤ count_trailing_zeros k (c / 2) = zeros_count k j (c / 2) (omega arith) (omega (arith, low_digit j c)) in
    rw even (omega arith)

-- "n for code 0", and half the number of zeros for any other.
pub top_level_of_zero : (n c : ℕ) → c ≡ 0 → top_level n c ≡ n
unfolding top_level
top_level_of_zero n c h = rw (eq-eqb c 0 h, top_level)

pub top_level_of_other : (n c : ℕ) → c ≢ 0 → top_level n c ≡ alignment c
unfolding top_level
top_level_of_other n c h = rw (ne_eqb c 0 h, top_level)

-- A code is a multiple of 4 ^ l exactly up to its alignment.
pub aligned_divides : (l c : ℕ) → l ≤ alignment c → c % 4 ^ l ≡ 0
unfolding alignment
aligned_divides l c h = ap (λ (p : ℕ). c % p) (sym (pow2_double l)) ∙ zeros_divide 32 (2 * l) c (omega arith)

pub divides_aligned : (l c : ℕ) → l ≤ 16 → c % 4 ^ l ≡ 0 → l ≤ alignment c
unfolding alignment
divides_aligned l c h e = omega (arith, zeros_count 32 (2 * l) c (omega arith) (ap (λ (p : ℕ). c % p) (pow2_double l) ∙ e))

pub level_divides : (n c : ℕ) → c % 4 ^ top_level n c ≡ 0
level_divides n c =
    elim (ℕ_discrete c 0) [
      | yes z ↦ ap (λ (d : ℕ). d % 4 ^ top_level n c) z ∙ zero-mod (4 ^ top_level n c)
      | no z ↦ aligned_divides (top_level n c) c (omega (arith, top_level_of_other n c z))
    ]

-- A power of 4 above a positive number does not divide it.
above_divides_not : (l m c : ℕ) → 0 < c → c < 4 ^ m → c % 4 ^ l ≡ 0 → l ≤ m
above_divides_not l m c p h e =
    elim (dec_le l m) [
      | yes g ↦ g
      | no g ↦ let wide : 4 ^ m ≤ 4 ^ l = pow4_mono (omega arith) in absurd (omega (arith, mod-eq_of_lt {n = c} {m = 4 ^ l} (omega arith)))
    ]

-- The largest block at a code of the image lies within the image.
pub top_level_fits : (n c : ℕ) → c < 4 ^ n → (top_level n c ≤ n) × (c + 4 ^ top_level n c ≤ 4 ^ n)
top_level_fits n c h =
    let low : top_level n c ≤ n =
    elim (ℕ_discrete c 0) [
      | yes z ↦ omega (arith, top_level_of_zero n c z)
      | no z ↦ above_divides_not (top_level n c) n c (omega arith) h (level_divides n c)
    ]
    in
    (low, (square_in_image n (top_level n c) c low h (level_divides n c)).2)

-- "the largest block that may start at a code is told by the binary zeros that end it": a block of level l may start at a code,
-- that is, the code is a multiple of 4 ^ l, exactly up to that level.
pub top_level-largest : (n l c : ℕ) → 0 < c → c < 2 ^ 32 → (c % 4 ^ l ≡ 0) ↔ (l ≤ top_level n c)
top_level-largest n l c p h =
    let e : top_level n c ≡ alignment c = top_level_of_other n c (omega arith) in (
      λ d. omega (arith, divides_aligned l c (above_divides_not l 16 c p h d) d),
      λ g. aligned_divides l c (omega arith),
    )

-- The level of a multiple of 4 ^ m that is none of 4 ^ (m + 1).
multiple_not_zero : (x m : ℕ) → x % 4 ≢ 0 → x * 4 ^ m ≢ 0
multiple_not_zero x m h e =
    let z : x ≡ 0 = eq_of_mul-eq-mul_right (4 ^ m) (pow4_pos m) x 0 (omega arith) in
    h (omega arith)

one_more_divides : (x m : ℕ) → x * 4 ^ m % 4 ^ suc m ≡ x % 4 * 4 ^ m
one_more_divides x m =
    let parts : x * 4 ^ m % (4 * 4 ^ m) ≡ x * 4 ^ m / 4 ^ m % 4 * 4 ^ m + x * 4 ^ m % 4 ^ m = mod-mul (x * 4 ^ m) (omega arith) (pow4_pos m) in
    let high : x * 4 ^ m / 4 ^ m % 4 * 4 ^ m ≡ x % 4 * 4 ^ m = ap (λ (q : ℕ). q % 4 * 4 ^ m) (mul-div_cancel x (pow4_pos m)) in
    ap (λ (p : ℕ). x * 4 ^ m % p) (pow-suc 4 m ∙ mul_comm (4 ^ m) 4) ∙ omega (arith, mul-mod_left x (4 ^ m))

pub top_exact : (n m x : ℕ) → m ≤ 8 → x % 4 ≢ 0 → top_level n (x * 4 ^ m) ≡ m
top_exact n m x h k =
    let c : ℕ = x * 4 ^ m in
    let e : top_level n c ≡ alignment c = top_level_of_other n c (multiple_not_zero x m k) in
    let low : m ≤ top_level n c = omega (arith, divides_aligned m c (omega arith) (mul-mod_left x (4 ^ m))) in
    elim (dec_le (suc m) (top_level n c)) [
      | yes g ↦
          let d : c % 4 ^ suc m ≡ 0 = aligned_divides (suc m) c (omega arith) in
          absurd (k (eq_of_mul-eq-mul_right (4 ^ m) (pow4_pos m) (x % 4) 0 (omega (arith, one_more_divides x m))))
      | no g ↦ omega arith
    ]
