-- x and y of a code, of 8 digits each, worked out together in one word: x in its low half, y in its high half.
use Rattle.std.specs.Prelude.{◌≡◌, refl, ℕ, zero, suc, ◌+◌, ◌*◌, ◌/◌, ◌%◌, ◌^◌, ◌<◌}
use Rattle.std.proofs.Common.{sym, ap, ap₂, ◌∙◌, arith}
use Rattle.std.specs.Int.Bits.{bit_and, and_zero_r}
use Rattle.interleaving.specs.Codes.{column, row}
use Rattle.interleaving.specs.Interleaving.{column-below}
use Rattle.interleaving.specs.Spreads.{spread}
use Rattle.interleaving.specs.Spreading.{spread_low, spread_split}
use Rattle.interleaving.specs.Gathering.{mask, groups, low_field}

-- The even places of a code hold the digits of its column.
even_places : (m c : ℕ) → bit_and c (mask 1 m) ≡ spread m (column m c)
unfolding mask spread column
even_places zero c = and_zero_r c
even_places (suc m) c =
    let d : (c % 2 + 2 * column m (c / 4)) / 2 ≡ column m (c / 4) = omega arith in
    low_field 1 c (mask 1 m) ∙ rw (even_places m (c / 4), d) (omega arith)

-- The odd places of a code are the even ones of its half.
row_is_column_of_half : (k c : ℕ) → row k c ≡ column k (c / 2)
unfolding column row
row_is_column_of_half zero c = refl
row_is_column_of_half (suc k) c =
    let e : c / 4 / 2 ≡ c / 2 / 4 = omega arith in
    ap (λ (d : ℕ). c / 2 % 2 + 2 * d) (row_is_column_of_half k (c / 4) ∙ ap (column k) e)

-- A spread number has its digits in groups of one.
spread_is_groups : (m x : ℕ) → spread m x ≡ groups 1 m x
unfolding spread groups
spread_is_groups zero x = refl
spread_is_groups (suc m) x = omega (arith, spread_is_groups m (x / 2))

-- Two spread numbers of 8 digits, in the two halves of a word.
two_spreads : (x y : ℕ) → x < 256 → spread 8 x + 65536 * spread 8 y ≡ groups 1 16 (x + 256 * y)
two_spreads x y h =
    let low_digits : (x + 256 * y) % 256 ≡ x = omega arith in
    let high_digits : (x + 256 * y) / 256 ≡ y = omega arith in
    let low_half : spread 8 (x + 256 * y) ≡ spread 8 x = sym (spread_low 8 (x + 256 * y)) ∙ ap (spread 8) low_digits in
    let high_half : spread 8 ((x + 256 * y) / 256) ≡ spread 8 y = ap (spread 8) high_digits in
    omega (arith, low_half, high_half, spread_split 8 8 (x + 256 * y)) ∙ spread_is_groups 16 (x + 256 * y)

-- The digits of x and of y one by one: the even places of a code and those of its half.
pub digits_parted : (c : ℕ) → bit_and c (mask 1 8) + 65536 * bit_and (c / 2) (mask 1 8) ≡ groups 1 16 (column 8 c + 256 * row 8 c)
digits_parted c =
    let y_digits = even_places 8 (c / 2) ∙ ap (spread 8) (sym (row_is_column_of_half 8 c)) in
    ap₂ (λ (a b : ℕ). a + 65536 * b) (even_places 8 c) y_digits ∙ two_spreads (column 8 c) (row 8 c) (column-below 8 c)

-- Four groups of four digits, one by one.
first_of_four : (m a n : ℕ) → a < 16 → groups 4 (suc m) (a + 16 * n) ≡ groups 4 m n * 256 + a
unfolding groups
first_of_four m a n h =
    let rest : (a + 16 * n) / 16 ≡ n = omega arith in
    let first : (a + 16 * n) % 16 ≡ a = omega arith in
    ap₂ (λ (p q : ℕ). groups 4 m p * 256 + q) rest first

no_group : (k x : ℕ) → groups k 0 x ≡ 0
unfolding groups
no_group k x = refl

groups_of_four : (a b c d : ℕ) → a < 16 → b < 16 → c < 16 → d < 16
    → groups 4 4 (a + 16 * (b + 16 * (c + 16 * (d + 16 * 0)))) ≡ a + 256 * b + 65536 * c + 16777216 * d
groups_of_four a b c d ha hb hc hd =
    omega (
      arith,
      first_of_four 3 a (b + 16 * (c + 16 * (d + 16 * 0))) ha,
      first_of_four 2 b (c + 16 * (d + 16 * 0)) hb,
      first_of_four 1 c (d + 16 * 0) hc,
      first_of_four 0 d 0 hd,
      no_group 4 0,
    )

low_byte : (n q : ℕ) → n < 256 → (n + 256 * q) % 256 ≡ n
low_byte n q h = omega arith

-- Times 17 at place 20, the low two groups join from place 24 on and the high two from place 40 on.
four_joined : (a b c d : ℕ) → a < 16 → b < 16 → c < 16 → d < 16
    → let g : ℕ = a + 256 * b + 65536 * c + 16777216 * d in (g * 0x110_0000 / 2 ^ 24 % 256 ≡ a + 16 * b) × (g * 0x110_0000 / 2 ^ 40 % 256 ≡ c + 16 * d)
four_joined a b c d ha hb hc hd =
    let g : ℕ = a + 256 * b + 65536 * c + 16777216 * d in
    let x : g * 0x110_0000 / 2 ^ 24 ≡ a + 16 * b + 256 * (b + 272 * c + 69632 * d) = omega arith in
    let y : g * 0x110_0000 / 2 ^ 40 ≡ c + 16 * d + 256 * d = omega arith in (
      ap (λ (n : ℕ). n % 256) x ∙ low_byte (a + 16 * b) (b + 272 * c + 69632 * d) (omega arith),
      ap (λ (n : ℕ). n % 256) y ∙ low_byte (c + 16 * d) d (omega arith),
    )

two_digits : (x : ℕ) → x % 16 + 16 * (x / 16) ≡ x
two_digits x = omega arith

pub groups_of_four_joined : (x y : ℕ) → x < 256 → y < 256
    → let g : ℕ = groups 4 4 (x + 256 * y) in (g * 0x110_0000 / 2 ^ 24 % 256 ≡ x) × (g * 0x110_0000 / 2 ^ 40 % 256 ≡ y)
groups_of_four_joined x y hx hy =
    let e : x + 256 * y ≡ x % 16 + 16 * (x / 16 + 16 * (y % 16 + 16 * (y / 16 + 16 * 0))) = omega arith in
    let g = ap (groups 4 4) e ∙ groups_of_four (x % 16) (x / 16) (y % 16) (y / 16) (omega arith) (omega arith) (omega arith) (omega arith) in
    let f = four_joined (x % 16) (x / 16) (y % 16) (y / 16) (omega arith) (omega arith) (omega arith) (omega arith) in
    rw g (f.0 ∙ two_digits x, f.1 ∙ two_digits y)
