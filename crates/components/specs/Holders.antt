-- Which block of a list holds a pixel.
use Rattle.std.specs.Prelude.{◌≡◌, ◌↔◌, true, false, List, [], ◌∷◌, ◌++◌, ℕ, zero, suc, ◌+◌, ◌-◌, ◌^◌, ◌≤◌, ◌<◌, length, take, get_or, replicate, ltb}
use Rattle.std.proofs.Common.{ap, ◌∙◌, arith, get_or-append-add, take_all, lt-ltb, le-ltb}
use Rattle.std.proofs.Math.Decide.{dec_lt}
use Rattle.std.proofs.lemmas.List.{length-replicate, get_or-replicate}
use Rattle.std.proofs.Math.ListN.{get_or-append}
use Rattle.std.proofs.Math.Seq.{take-length}
use Rattle.sequences.specs.Powers.{pow4_pos}
use Rattle.quadtree.specs.Blocks.{Block, pixels, paint}
use Rattle.quadtree.specs.Number.{cover}
use Rattle.staircase.specs.FirstBlocks.{Placed, block_placed, Within, pixels_one_more, all_pixels}

-- The block at the place i of a list.
abbrev pub block_at : List Block → ℕ → Block
block_at bs i = get_or bs i (record { code = 0; level = 0; colour = 0 })

-- The place of the block that holds the pixel c, where the blocks paint one after the other from the code 0 on.
unfoldable pub holder : List Block → ℕ → ℕ
holder [] c = 0
holder (b ∷ bs) c = elim (ltb c (4 ^ b.level)) [ true ↦ 0 | false ↦ suc (holder bs (c - 4 ^ b.level)) ]

holder-here : (b : Block) (bs : List Block) (c : ℕ) → c < 4 ^ b.level → holder (b ∷ bs) c ≡ 0
unfolding holder
holder-here b bs c h = rw (lt-ltb c (4 ^ b.level) h, holder)

holder_later : (b : Block) (bs : List Block) (c : ℕ) → 4 ^ b.level ≤ c → holder (b ∷ bs) c ≡ suc (holder bs (c - 4 ^ b.level))
unfolding holder
holder_later b bs c h = rw (le-ltb c (4 ^ b.level) h, holder)

-- The pixels of the first blocks grow with their number.
pub pixels_grow : (bs : List Block) (i j : ℕ) → i ≤ j → pixels (take i bs) ≤ pixels (take j bs)
unfolding pixels
pixels_grow [] zero zero h = omega arith
pixels_grow [] zero (suc j) h = omega arith
pixels_grow [] (suc i) zero h = absurd (omega arith)
pixels_grow [] (suc i) (suc j) h = omega arith
pixels_grow (b ∷ bs) zero zero h = omega arith
pixels_grow (b ∷ bs) zero (suc j) h = omega arith
pixels_grow (b ∷ bs) (suc i) zero h = absurd (omega arith)
pixels_grow (b ∷ bs) (suc i) (suc j) h = omega (arith, pixels_grow bs i j (omega arith))

-- The block at the place i holds the pixel c: it has the codes from the pixels of the blocks before it on.
pub record HoldsAt (bs : List Block) (i c : ℕ) : Type 0 where
  pub place : i < length bs
  pub from : pixels (take i bs) ≤ c
  pub before : c < pixels (take (suc i) bs)

pub holder-holds : (bs : List Block) (c : ℕ) → c < pixels bs → HoldsAt bs (holder bs c) c
unfolding pixels
holder-holds [] c h = absurd (omega arith)
holder-holds (b ∷ bs) c h = pick (dec_lt c (4 ^ b.level)) (holder-holds bs (c - 4 ^ b.level))
  where
    pick : Dec (c < 4 ^ b.level) → (c - 4 ^ b.level < pixels bs → HoldsAt bs (holder bs (c - 4 ^ b.level)) (c - 4 ^ b.level))
        → HoldsAt (b ∷ bs) (holder (b ∷ bs) c) c
    pick (yes l) ih = rw (holder-here b bs c l) (record { place = omega arith; from = omega arith; before = omega arith })
    pick (no g) ih =
        let later = ih (omega arith) in
        rw (holder_later b bs c (omega arith))
        (record { place = omega (arith, later.place); from = omega (arith, later.from); before = omega (arith, later.before) })

-- There is only one that holds it.
pub one_holder : (bs : List Block) (i j c : ℕ) → HoldsAt bs i c → HoldsAt bs j c → i ≡ j
one_holder bs i j c f g = pick (dec_lt i j) (dec_lt j i)
  where
    pick : Dec (i < j) → Dec (j < i) → i ≡ j
    pick (yes l) d = absurd (omega (arith, pixels_grow bs (suc i) j l, f.before, g.from))
    pick (no a) (yes l) = absurd (omega (arith, pixels_grow bs (suc j) i l, g.before, f.from))
    pick (no a) (no b) = omega arith

pub holds_all : (bs : List Block) (i c : ℕ) → HoldsAt bs i c → c < pixels bs
holds_all bs i c h = omega (arith, h.before, pixels_grow bs (suc i) (length bs) h.place, ap pixels (take-length bs))

pub is_holder : (bs : List Block) (i c : ℕ) → HoldsAt bs i c → holder bs c ≡ i
is_holder bs i c h = one_holder bs (holder bs c) i c (holder-holds bs c (holds_all bs i c h)) h

-- A pixel lies in the first k blocks exactly when its holder is one of them.
pub held-before : (bs : List Block) (i c k : ℕ) → HoldsAt bs i c → (c < pixels (take k bs)) ↔ (i < k)
held-before bs i c k h = (to, from)
  where
    to : c < pixels (take k bs) → i < k
    to l = pick (dec_lt i k)
      where
        pick : Dec (i < k) → i < k
        pick (yes t) = t
        pick (no f) = absurd (omega (arith, pixels_grow bs k i (omega arith), h.from))

    from : i < k → c < pixels (take k bs)
    from l = omega (arith, pixels_grow bs (suc i) k l, h.before)

-- The pixel has the colour of its block.
pub held_colour : (bs : List Block) (i c : ℕ) → HoldsAt bs i c → get_or (paint bs) c 0 ≡ (block_at bs i).colour
unfolding paint pixels
held_colour [] i c h = absurd (omega (arith, h.place))
held_colour (b ∷ bs) zero c h =
    let l : c < 4 ^ b.level = omega (arith, h.before) in
    get_or-append (replicate (4 ^ b.level) b.colour) (paint bs) 0 c (omega (arith, length-replicate (4 ^ b.level) b.colour))
    ∙ get_or-replicate (4 ^ b.level) c b.colour 0 l
held_colour (b ∷ bs) (suc i) c h =
    let k : ℕ = c - 4 ^ b.level in
    let e : c ≡ length (replicate (4 ^ b.level) b.colour) + k = omega (arith, length-replicate (4 ^ b.level) b.colour, h.from) in
    ap (λ (x : ℕ). get_or (replicate (4 ^ b.level) b.colour ++ paint bs) x 0) e
    ∙ get_or-append-add (replicate (4 ^ b.level) b.colour) (paint bs) k 0
    ∙ held_colour bs i k (record { place = omega (arith, h.place); from = omega (arith, h.from); before = omega (arith, h.before) })

-- In a list that covers the image: the block at the place i has the code of its first pixel, and holds just its own codes.
module _ (n : ℕ) (bs : List Block) (covering : cover n 0 bs ≡ 0) where
  pub placed : (i : ℕ) → i < length bs → Placed n (pixels (take i bs)) (block_at bs i)
  placed i l = block_placed n i bs (record { code = 0; level = 0; colour = 0 }) covering l

  pub pixels_with : (i : ℕ) → i < length bs → pixels (take (suc i) bs) ≡ pixels (take i bs) + 4 ^ (block_at bs i).level
  pixels_with i l = pixels_one_more i bs (record { code = 0; level = 0; colour = 0 }) l

  pub within_held : (i c : ℕ) → i < length bs → Within (block_at bs i) c ↔ HoldsAt bs i c
  within_held i c l = (
    λ w. record { place = l; from = omega (arith, (placed i l).here, w.from); before = omega (arith, (placed i l).here, w.before, pixels_with i l) },
    λ h. record { from = omega (arith, (placed i l).here, h.from); before = omega (arith, (placed i l).here, h.before, pixels_with i l) },
  )

  pub first_pixel_held : (i : ℕ) → i < length bs → HoldsAt bs i (pixels (take i bs))
  first_pixel_held i l = record { place = l; from = omega arith; before = omega (arith, pixels_with i l, pow4_pos (block_at bs i).level) }

  pub pixel_held : (c : ℕ) → c < 4 ^ n → HoldsAt bs (holder bs c) c
  pixel_held c l = holder-holds bs c (omega (arith, all_pixels n bs covering))

  pub first_pixels_in_image : (k : ℕ) → pixels (take k bs) ≤ 4 ^ n
  first_pixels_in_image k = pick (dec_lt k (length bs))
    where
      pick : Dec (k < length bs) → pixels (take k bs) ≤ 4 ^ n
      pick (yes l) = omega (arith, (placed k l).room)
      pick (no f) = omega (arith, all_pixels n bs covering, ap pixels (take_all k bs (omega arith)))

  pub held_in_image : (i c : ℕ) → HoldsAt bs i c → c < 4 ^ n
  held_in_image i c h = omega (arith, h.before, first_pixels_in_image (suc i))
