-- The pixels of the first k blocks of an accepted list, and the staircase that they form.
use Rattle.std.specs.Prelude.{◌≡◌, refl, ◌⊎◌, ◌↔◌, ◌≢◌, true, ℕ, zero, suc, ◌+◌, ◌%◌, ◌^◌, ◌≤◌, ◌<◌, length, take, get_or}
use Rattle.std.proofs.Common.{sym, ap, ◌∙◌, subst, inl, inr, arith}
use mathlib.Core.List.Memᴰ
use mathlib.Core.List.{List, [], ◌∷◌, Memᴰ}
use Rattle.std.proofs.Math.Decide.{dec_lt}
use Rattle.sequences.specs.Cases.{first-zero}
use Rattle.interleaving.specs.Codes.{code}
use Rattle.location.specs.Squares.{square_in_image}
use Rattle.quadtree.specs.Blocks.{Block, blocks, pixels}
use Rattle.quadtree.specs.Number.{fault_of, cover, number}
use Rattle.quadtree.specs.Accepted.{number-zero}
use Rattle.quadtree.specs.Covering.{cover-first, cover-zero_end, no_fault}
use Rattle.staircase.specs.Staircase.{done, done-west, done-north, done-inside, pixel_done, code_grows, staircase, DonePixel}

-- The code c is one of a block's pixels: they have the codes from the block's own on, 4^level in all.
pub record Within (b : Block) (c : ℕ) : Type 0 where
  pub from : b.code ≤ c
  pub before : c < b.code + 4 ^ b.level

-- The code c is a pixel of one of these blocks.
pub record InOneOf (bs : List Block) (c : ℕ) : Type 0 where
  pub block : Block
  pub listed : Memᴰ block bs
  pub within : Within block c

-- What number 0 of causes 3 to 6 says of the first block, where `sum` pixels are covered before it.
record Next (n sum : ℕ) (b : Block) (bs : List Block) : Type 0 where
  low : b.level ≤ n
  here : b.code ≡ sum
  short : sum ≢ 4 ^ n
  multiple : b.code % 4 ^ b.level ≡ 0
  rest : cover n (sum + 4 ^ b.level) bs ≡ 0

next-block : (n sum : ℕ) (b : Block) (bs : List Block) → cover n sum (b ∷ bs) ≡ 0 → Next n sum b bs
next-block n sum b bs h =
    let parts = first-zero (fault_of n sum b.code b.level) (cover n (sum + 4 ^ b.level) bs) (sym (cover-first n sum b bs) ∙ h) in
    let none = no_fault n sum b.code b.level parts.0 in
    record { low = none.low; here = none.here; short = none.short; multiple = none.multiple; rest = parts.1 }

-- Blocks one after the other from the code `sum` on: their pixels are the codes from there on.
in_blocks : (n k sum : ℕ) (bs : List Block) (c : ℕ) → cover n sum bs ≡ 0 → InOneOf (take k bs) c → (sum ≤ c) × (c < sum + pixels (take k bs))
unfolding pixels
in_blocks n zero sum bs c h i = absurd (Memᴰ.not-nil i.listed)
in_blocks n (suc k) sum [] c h i = absurd (Memᴰ.not-nil i.listed)
in_blocks n (suc k) sum (b ∷ bs) c h i =
    pick (next-block n sum b bs h) (in_blocks n k (sum + 4 ^ b.level) bs c) (Memᴰ.cases_cons i.listed)
  where
    pick : Next n sum b bs
        → (cover n (sum + 4 ^ b.level) bs ≡ 0 → InOneOf (take k bs) c → (sum + 4 ^ b.level ≤ c) × (c < sum + 4 ^ b.level + pixels (take k bs)))
        → (i.block ≡ b) ⊎ Memᴰ i.block (take k bs)
        → (sum ≤ c) × (c < sum + (4 ^ b.level + pixels (take k bs)))
    pick next ih (inl e) = let w : Within b c = subst (λ (a : Block). Within a c) e i.within in omega (arith, next.here, w.from, w.before)
    pick next ih (inr m) = omega (arith, ih next.rest (record { block = i.block; listed = m; within = i.within }))

blocks_in : (n k sum : ℕ) (bs : List Block) (c : ℕ) → cover n sum bs ≡ 0 → sum ≤ c → c < sum + pixels (take k bs) → InOneOf (take k bs) c
unfolding pixels
blocks_in n zero sum bs c h a l = absurd (omega arith)
blocks_in n (suc k) sum [] c h a l = absurd (omega arith)
blocks_in n (suc k) sum (b ∷ bs) c h a l = pick (next-block n sum b bs h) (blocks_in n k (sum + 4 ^ b.level) bs c) (dec_lt c (sum + 4 ^ b.level))
  where
    later : InOneOf (take k bs) c → InOneOf (b ∷ take k bs) c
    later i = record { block = i.block; listed = Memᴰ.tail i.listed; within = i.within }

    pick : Next n sum b bs
        → (cover n (sum + 4 ^ b.level) bs ≡ 0 → sum + 4 ^ b.level ≤ c → c < sum + 4 ^ b.level + pixels (take k bs) → InOneOf (take k bs) c)
        → Dec (c < sum + 4 ^ b.level)
        → InOneOf (b ∷ take k bs) c
    pick next ih (yes here) = record { block = b; listed = Memᴰ.head refl; within = record { from = omega (arith, next.here); before = omega (arith, next.here) } }
    pick next ih (no past) = later (ih next.rest (omega arith) (omega arith))

-- A code lies in one of the first k blocks exactly when it is below the number of their pixels.
pub in_first_blocks : (n k : ℕ) (bs : List Block) (c : ℕ) → cover n 0 bs ≡ 0 → InOneOf (take k bs) c ↔ (c < pixels (take k bs))
in_first_blocks n k bs c h = (λ i. omega (arith, in_blocks n k 0 bs c h i), λ l. blocks_in n k 0 bs c h (omega arith) (omega arith))

-- A block whose code is the sum of 4^level over the blocks before it, within the image and a multiple of its own 4^level.
pub record Placed (n sum : ℕ) (b : Block) : Type 0 where
  pub low : b.level ≤ n
  pub here : b.code ≡ sum
  pub room : sum < 4 ^ n
  pub multiple : sum % 4 ^ b.level ≡ 0

placed : (n sum : ℕ) (b : Block) (bs : List Block) → sum ≤ 4 ^ n → Next n sum b bs → Placed n sum b
placed n sum b bs most next =
    record { low = next.low; here = next.here; room = omega (arith, next.short); multiple = ap (λ (c : ℕ). c % 4 ^ b.level) (sym next.here) ∙ next.multiple }

placed_fits : (n sum : ℕ) (b : Block) → Placed n sum b → sum + 4 ^ b.level ≤ 4 ^ n
placed_fits n sum b p = (square_in_image n b.level sum p.low p.room p.multiple).2

placed_from : (n k sum : ℕ) (bs : List Block) (z : Block) → sum ≤ 4 ^ n → cover n sum bs ≡ 0 → k < length bs → Placed n (sum + pixels (take k bs)) (get_or bs k z)
unfolding pixels
placed_from n k sum [] z most h l = absurd (omega arith)
placed_from n zero sum (b ∷ bs) z most h l =
    let e : sum + 0 ≡ sum = omega arith in
    rw e (placed n sum b bs most (next-block n sum b bs h))
placed_from n (suc k) sum (b ∷ bs) z most h l =
    let next = next-block n sum b bs h in
    let fits : sum + 4 ^ b.level ≤ 4 ^ n = placed_fits n sum b (placed n sum b bs most next) in
    let e : sum + (4 ^ b.level + pixels (take k bs)) ≡ sum + 4 ^ b.level + pixels (take k bs) = omega arith in
    rw e (placed_from n k (sum + 4 ^ b.level) bs z fits next.rest (omega arith))

-- Block k comes right after the first k blocks.
pub block_placed : (n k : ℕ) (bs : List Block) (z : Block) → cover n 0 bs ≡ 0 → k < length bs → Placed n (pixels (take k bs)) (get_or bs k z)
block_placed n k bs z h l =
    let e : 0 + pixels (take k bs) ≡ pixels (take k bs) = omega arith in
    rw e at (placed_from n k 0 bs z (omega arith) h l)

pub pixels_one_more : (k : ℕ) (bs : List Block) (z : Block) → k < length bs → pixels (take (suc k) bs) ≡ pixels (take k bs) + 4 ^ (get_or bs k z).level
unfolding pixels
pixels_one_more k [] z l = absurd (omega arith)
pixels_one_more zero (b ∷ bs) z l = omega arith
pixels_one_more (suc k) (b ∷ bs) z l = omega (arith, pixels_one_more k bs z (omega arith))

-- All blocks together are the whole image.
all_from : (n sum : ℕ) (bs : List Block) → sum ≤ 4 ^ n → cover n sum bs ≡ 0 → sum + pixels bs ≡ 4 ^ n
unfolding pixels
all_from n sum [] most h = omega (arith, cover-zero_end n sum most h)
all_from n sum (b ∷ bs) most h =
    let next = next-block n sum b bs h in
    omega (arith, all_from n (sum + 4 ^ b.level) bs (placed_fits n sum b (placed n sum b bs most next)) next.rest)

pub all_pixels : (n : ℕ) (bs : List Block) → cover n 0 bs ≡ 0 → pixels bs ≡ 4 ^ n
all_pixels n bs h = omega (arith, all_from n 0 bs (omega arith) h)

-- A cell of the image with a margin is done after these blocks: north and west of the image always, in the image where one of
-- the blocks holds the pixel, south and east of it never (document 01, "Regions").
unfoldable pub Done : ℕ → List Block → ℕ → ℕ → Type 0
Done n bs zero row = Unit
Done n bs (suc x) zero = Unit
Done n bs (suc x) (suc y) = (x < 2 ^ n) × (y < 2 ^ n) × InOneOf bs (code n x y)

-- The test `done` decides it.
pub done_exactly : (n k : ℕ) (bs : List Block) → cover n 0 bs ≡ 0 → (column row : ℕ)
    → Done n (take k bs) column row ↔ (done n (pixels (take k bs)) column row ≡ true)
unfolding Done
done_exactly n k bs h zero row = (λ _. done-west n (pixels (take k bs)) row, λ _. tt)
done_exactly n k bs h (suc x) zero = (λ _. done-north n (pixels (take k bs)) (suc x), λ _. tt)
done_exactly n k bs h (suc x) (suc y) = (tested, told)
  where
    tested : (x < 2 ^ n) × (y < 2 ^ n) × InOneOf (take k bs) (code n x y) → done n (pixels (take k bs)) (suc x) (suc y) ≡ true
    tested t =
        pixel_done n (pixels (take k bs)) x y
        (record { in_column = t.0; in_row = t.1; below = (in_first_blocks n k bs (code n x y) h).0 t.2 })

    told : done n (pixels (take k bs)) (suc x) (suc y) ≡ true → (x < 2 ^ n) × (y < 2 ^ n) × InOneOf (take k bs) (code n x y)
    told e =
        let p : DonePixel n (pixels (take k bs)) x y = done-inside n (pixels (take k bs)) x y e in
        (p.in_column, p.in_row, (in_first_blocks n k bs (code n x y) h).1 p.below)

-- "After any whole number of blocks of an accepted list, the pixels done form a staircase: with a pixel (x, y), every pixel
-- whose x and y are both no larger is done too" (document 01, "Regions").
pub pixels_done_form_a_staircase : (n : ℕ) (codes levels colours : List ℕ) → number n codes levels colours ≡ 0
    → (k x y x' y' : ℕ) → x < 2 ^ n → y < 2 ^ n → x' ≤ x → y' ≤ y
    → InOneOf (take k (blocks codes levels colours)) (code n x y) → InOneOf (take k (blocks codes levels colours)) (code n x' y')
pixels_done_form_a_staircase n codes levels colours accepted k x y x' y' p q a b i =
    let bs : List Block = blocks codes levels colours in
    let h : cover n 0 bs ≡ 0 = (number-zero n codes levels colours accepted).covering in
    let l : code n x y < pixels (take k bs) = (in_first_blocks n k bs (code n x y) h).0 i in
    (in_first_blocks n k bs (code n x' y') h).1 (omega (arith, code_grows n x y x' y' a b p q))

-- The same with what lies around the image.
pub cells_done_form_a_staircase : (n : ℕ) (codes levels colours : List ℕ) → number n codes levels colours ≡ 0
    → (k column row column' row' : ℕ) → column' ≤ column → row' ≤ row
    → Done n (take k (blocks codes levels colours)) column row → Done n (take k (blocks codes levels colours)) column' row'
cells_done_form_a_staircase n codes levels colours accepted k column row column' row' a b t =
    let bs : List Block = blocks codes levels colours in
    let same = done_exactly n k bs (number-zero n codes levels colours accepted).covering in
    (same column' row').1 (staircase n (pixels (take k bs)) column row column' row' a b ((same column row).0 t))
