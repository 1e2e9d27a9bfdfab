-- Lists that cover an image block by block: what number 0 of causes 3 to 6 says.
use Rattle.std.specs.Prelude.{◌≡◌, refl, ◌⊎◌, Bool, true, false, ℕ, ◌+◌, ◌-◌, ◌%◌, ◌^◌, ◌≤◌, ◌<◌, eqb, ltb}
use Rattle.std.proofs.Common.{sym, ap, ◌∙◌, subst, inl, inr, arith, ltb-true, ltb-false, eqb-true, lt-ltb, le-ltb, eq-eqb, ne_eqb}
use mathlib.Core.List.Memᴰ
use mathlib.Core.List.{List, [], ◌∷◌, ◌++◌, Memᴰ}
use Rattle.std.specs.Int.{◌∣◌}
use Rattle.std.proofs.Math.Nat.{dvd-sub, le_of_dvd, dvd_of_mod-eq-zero}
use Rattle.std.proofs.lemmas.Bool.{eqb-false}
use Rattle.sequences.specs.Cases.{first, when, first_none, first-zero, when_zero}
use Rattle.sequences.specs.Powers.{pow4_divides}
use Rattle.quadtree.specs.Blocks.{Block, pixels}
use Rattle.quadtree.specs.Number.{fault_of, cover}

-- Where a block's code is a multiple of 4^level and lies in the image, the whole block does.
pub block_fits : (n l c : ℕ) → l ≤ n → c < 4 ^ n → c % 4 ^ l ≡ 0 → c + 4 ^ l ≤ 4 ^ n
block_fits n l c low room multiple =
    let d : 4 ^ l ∣ 4 ^ n - c = dvd-sub (4 ^ l) (pow4_divides low) (dvd_of_mod-eq-zero (4 ^ l) multiple) in
    let p : 0 < 4 ^ n - c = omega arith in
    omega (arith, le_of_dvd p d)

-- What a block meets, cause by cause.
pub fault_above : (n sum c l : ℕ) → n < l → fault_of n sum c l ≡ 3
unfolding fault_of first when
fault_above n sum c l h = rw (lt-ltb n l h) refl

pub fault_elsewhere : (n sum c l : ℕ) → l ≤ n → (c ≡ sum → ⊥) → fault_of n sum c l ≡ 4
unfolding fault_of first when
fault_elsewhere n sum c l low h = rw (le-ltb n l low, ne_eqb c sum h) refl

pub fault_full : (n sum c l : ℕ) → l ≤ n → c ≡ sum → sum ≡ 4 ^ n → fault_of n sum c l ≡ 4
unfolding fault_of first when
fault_full n sum c l low here h = rw (le-ltb n l low, eq-eqb c sum here, eq-eqb sum (4 ^ n) h) refl

pub fault_crooked : (n sum c l : ℕ) → l ≤ n → c ≡ sum → (sum ≡ 4 ^ n → ⊥) → (c % 4 ^ l ≡ 0 → ⊥) → fault_of n sum c l ≡ 5
unfolding fault_of first when
fault_crooked n sum c l low here room h =
    rw (le-ltb n l low, eq-eqb c sum here, ne_eqb sum (4 ^ n) room, ne_eqb (c % 4 ^ l) 0 h) refl

-- It meets none exactly where it is a quadrant at the next code.
pub record NoFault (n sum c l : ℕ) : Type 0 where
  pub low : l ≤ n
  pub here : c ≡ sum
  pub short : sum ≡ 4 ^ n → ⊥
  pub multiple : c % 4 ^ l ≡ 0

pub fault_none : {n sum c l : ℕ} → NoFault n sum c l → fault_of n sum c l ≡ 0
unfolding fault_of first when
fault_none {n} {sum} {c} {l} h =
    rw (le-ltb n l h.low, eq-eqb c sum h.here, ne_eqb sum (4 ^ n) h.short, eq-eqb (c % 4 ^ l) 0 h.multiple) refl

pub no_fault : (n sum c l : ℕ) → fault_of n sum c l ≡ 0 → NoFault n sum c l
no_fault n sum c l e = pick (ltb n l) (eqb c sum) (eqb sum (4 ^ n)) (eqb (c % 4 ^ l) 0) refl refl refl refl
  where
    pick : (t u v w : Bool) → ltb n l ≡ t → eqb c sum ≡ u → eqb sum (4 ^ n) ≡ v → eqb (c % 4 ^ l) 0 ≡ w → NoFault n sum c l
    pick true u v w p q r s = absurd (omega (arith, fault_above n sum c l (ltb-true n l p)))
    pick false false v w p q r s = absurd (omega (arith, fault_elsewhere n sum c l (ltb-false n l p) (eqb-false c sum q)))
    pick false true true w p q r s = absurd (omega (arith, fault_full n sum c l (ltb-false n l p) (eqb-true c sum q) (eqb-true sum (4 ^ n) r)))
    pick false true false false p q r s =
        absurd (omega (arith, fault_crooked n sum c l (ltb-false n l p) (eqb-true c sum q) (eqb-false sum (4 ^ n) r) (eqb-false (c % 4 ^ l) 0 s)))
    pick false true false true p q r s =
        record { low = ltb-false n l p; here = eqb-true c sum q; short = eqb-false sum (4 ^ n) r; multiple = eqb-true (c % 4 ^ l) 0 s }

-- The whole block then lies in the image.
pub no_fault_fits : {n sum c l : ℕ} → sum ≤ 4 ^ n → NoFault n sum c l → sum + 4 ^ l ≤ 4 ^ n
no_fault_fits {n} {sum} {c} {l} most h =
    let other : sum ≡ 4 ^ n → ⊥ = h.short in
    let room : c < 4 ^ n = omega (arith, h.here) in
    omega (arith, h.here, block_fits n l c h.low room h.multiple)

-- The list's end, and its first block before the others.
pub cover_end_short : (n sum : ℕ) → sum < 4 ^ n → cover n sum [] ≡ 6
unfolding cover when
cover_end_short n sum h = rw (lt-ltb sum (4 ^ n) h) refl

pub cover_end_full : (n sum : ℕ) → 4 ^ n ≤ sum → cover n sum [] ≡ 0
unfolding cover when
cover_end_full n sum h = rw (le-ltb sum (4 ^ n) h) refl

pub cover-first : (n sum : ℕ) (b : Block) (bs : List Block) → cover n sum (b ∷ bs) ≡ first (fault_of n sum b.code b.level) (cover n (sum + 4 ^ b.level) bs)
unfolding cover
cover-first n sum b bs = refl

cover-more : (n sum : ℕ) (b : Block) (bs : List Block) → NoFault n sum b.code b.level → cover n sum (b ∷ bs) ≡ cover n (sum + 4 ^ b.level) bs
cover-more n sum b bs h = cover-first n sum b bs ∙ first_none (fault_of n sum b.code b.level) (cover n (sum + 4 ^ b.level) bs) (fault_none h)

-- A block list that covers the rest of an image of which `sum` pixels are covered: each block a quadrant at the next code.
unfoldable pub Covers : ℕ → ℕ → List Block → Type 0
Covers n sum [] = sum ≡ 4 ^ n
Covers n sum (b ∷ bs) = (b.level ≤ n) × (b.code ≡ sum) × (sum < 4 ^ n) × (b.code % 4 ^ b.level ≡ 0) × Covers n (sum + 4 ^ b.level) bs

-- What number 0 says of the first block.
pub record NextBlock (n sum : ℕ) (b : Block) (bs : List Block) : Type 0 where
  pub low : b.level ≤ n
  pub here : b.code ≡ sum
  pub room : sum < 4 ^ n
  pub multiple : b.code % 4 ^ b.level ≡ 0
  pub fits : sum + 4 ^ b.level ≤ 4 ^ n
  pub rest : cover n (sum + 4 ^ b.level) bs ≡ 0

pub cover-zero_end : (n sum : ℕ) → sum ≤ 4 ^ n → cover n sum [] ≡ 0 → sum ≡ 4 ^ n
unfolding cover
cover-zero_end n sum h e = omega (arith, ltb-false sum (4 ^ n) (when_zero (ltb sum (4 ^ n)) 6 (omega arith) e))

pub cover-zero : (n sum : ℕ) (b : Block) (bs : List Block) → sum ≤ 4 ^ n → cover n sum (b ∷ bs) ≡ 0 → NextBlock n sum b bs
cover-zero n sum b bs most e =
    let parts = first-zero (fault_of n sum b.code b.level) (cover n (sum + 4 ^ b.level) bs) (sym (cover-first n sum b bs) ∙ e) in
    let none = no_fault n sum b.code b.level parts.0 in
    let other : sum ≡ 4 ^ n → ⊥ = none.short in
    record { low = none.low; here = none.here; room = omega arith; multiple = none.multiple; fits = no_fault_fits most none; rest = parts.1 }

pub covers_of_zero : (n sum : ℕ) (bs : List Block) → sum ≤ 4 ^ n → cover n sum bs ≡ 0 → Covers n sum bs
unfolding Covers
covers_of_zero n sum [] most e = cover-zero_end n sum most e
covers_of_zero n sum (b ∷ bs) most e =
    let next = cover-zero n sum b bs most e in
    (next.low, next.here, next.room, next.multiple, covers_of_zero n (sum + 4 ^ b.level) bs next.fits next.rest)

pub zero_of_covers : (n sum : ℕ) (bs : List Block) → Covers n sum bs → cover n sum bs ≡ 0
unfolding Covers
zero_of_covers n sum [] c = cover_end_full n sum (omega arith)
zero_of_covers n sum (b ∷ bs) c =
    cover-more n sum b bs (record { low = c.0; here = c.1; short = λ e. omega arith; multiple = c.3 }) ∙ zero_of_covers n (sum + 4 ^ b.level) bs c.4

-- ---- parts and members of a covering list

pub covers_here : (n sum : ℕ) (b : Block) (bs : List Block) → Covers n sum (b ∷ bs) → sum + 4 ^ b.level ≤ 4 ^ n
unfolding Covers
covers_here n sum b bs c = omega (arith, block_fits n b.level b.code c.0 (omega arith) c.3)

-- After a whole number of blocks the next code is the sum of their pixels.
pub covers_rest : (n sum : ℕ) (xs ys : List Block) → Covers n sum (xs ++ ys) → Covers n (sum + pixels xs) ys
unfolding Covers pixels
covers_rest n sum [] ys c = let same : sum ≡ sum + 0 = omega arith in subst (λ x. Covers n x ys) same c
covers_rest n sum (b ∷ xs) ys c =
    let same : sum + 4 ^ b.level + pixels xs ≡ sum + (4 ^ b.level + pixels xs) = omega arith in
    subst (λ x. Covers n x ys) same (covers_rest n (sum + 4 ^ b.level) xs ys c.4)

-- The blocks of a covering list have as many pixels as the image.
pub pixels_covering : (n sum : ℕ) (bs : List Block) → Covers n sum bs → sum + pixels bs ≡ 4 ^ n
unfolding Covers pixels
pixels_covering n sum [] c = omega arith
pixels_covering n sum (b ∷ bs) c = omega (arith, pixels_covering n (sum + 4 ^ b.level) bs c.4)

-- What holds of each block of a covering list.
pub record Quadrant (n : ℕ) (b : Block) : Type 0 where
  pub low : b.level ≤ n
  pub multiple : b.code % 4 ^ b.level ≡ 0
  pub fits : b.code + 4 ^ b.level ≤ 4 ^ n

pub covers_member : (n sum : ℕ) (bs : List Block) (b : Block) → Covers n sum bs → Memᴰ b bs → (sum ≤ b.code) × Quadrant n b
unfolding Covers
covers_member n sum [] b c i = absurd (Memᴰ.not-nil i)
covers_member n sum (a ∷ bs) b c i = pick (Memᴰ.cases_cons i) (covers_member n (sum + 4 ^ a.level) bs b c.4)
  where
    pick : (b ≡ a) ⊎ Memᴰ b bs → (Memᴰ b bs → (sum + 4 ^ a.level ≤ b.code) × Quadrant n b) → (sum ≤ b.code) × Quadrant n b
    pick (inl e) later =
        let code : b.code ≡ sum = ap (λ (x : Block). x.code) e ∙ c.1 in
        let level : 4 ^ b.level ≡ 4 ^ a.level = ap (λ (x : Block). 4 ^ x.level) e in (
          omega arith,
          subst (λ x. Quadrant n x) (sym e) (record { low = c.0; multiple = c.3; fits = omega (arith, covers_here n sum a bs c) }),
        )
    pick (inr j) later = (omega (arith, (later j).0), (later j).1)
