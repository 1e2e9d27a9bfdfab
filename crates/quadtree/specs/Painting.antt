-- Painting the quadtree of an image gives the image back.
use Rattle.std.specs.Prelude.{◌≡◌, refl, Bool, true, false, List, [], ◌∷◌, ◌++◌, ℕ, zero, suc, ◌+◌, ◌-◌, ◌^◌, ◌≤◌, ◌<◌, length, get_or, take, drop, replicate, eqb}
use Rattle.std.proofs.Common.{sym, ap, ◌∙◌, append_assoc, append-nil, arith, length-append, length-take, length-drop, ext_get_or, get_or-take, get_or-drop, take-add, drop-drop, drop-cons, take_all, eqb-true, eq-eqb}
use Rattle.std.proofs.lemmas.Bool.{false≢true}
use Rattle.std.proofs.lemmas.List.{length-replicate, get_or-replicate}
use Rattle.sequences.specs.Powers.{pow4_pos}
use Rattle.quadtree.specs.Blocks.{Block, pixels, paint}
use Rattle.quadtree.specs.Quadtree.{alike, quadrant, quadtree}

-- The block of a code, a level and a colour.
abbrev pub block : ℕ → ℕ → ℕ → Block
block c l v = record { code = c; level = l; colour = v }

-- The pixels from c on are alike exactly where each of them has the colour.
pub alike_each : (px : List ℕ) (v c k : ℕ) → alike px v c k ≡ true → (i : ℕ) → i < k → get_or px (c + i) 0 ≡ v
unfolding alike
alike_each px v c zero h i l = absurd (omega arith)
alike_each px v c (suc k) h i l = pick (eqb (get_or px c 0) v) refl (alike_each px v (suc c) k) i l
  where
    pick : (b : Bool) → eqb (get_or px c 0) v ≡ b → (alike px v (suc c) k ≡ true → (i : ℕ) → i < k → get_or px (suc c + i) 0 ≡ v)
        → (i : ℕ) → i < suc k → get_or px (c + i) 0 ≡ v
    pick true e ih zero l = ap (λ (j : ℕ). get_or px j 0) (omega arith) ∙ eqb-true (get_or px c 0) v e
    pick true e ih (suc i) l =
        let same : c + suc i ≡ suc c + i = omega arith in
        ap (λ (j : ℕ). get_or px j 0) same ∙ ih (rw (e, alike) at h) i (omega arith)
    pick false e ih i l = absurd (false≢true (rw (e, alike) at h))

pub each_alike : (px : List ℕ) (v c k : ℕ) → ((i : ℕ) → i < k → get_or px (c + i) 0 ≡ v) → alike px v c k ≡ true
unfolding alike
each_alike px v c zero h = refl
each_alike px v c (suc k) h =
    let here : c + 0 ≡ c = omega arith in
    rw (eq-eqb (get_or px c 0) v (ap (λ (j : ℕ). get_or px j 0) (sym here) ∙ h 0 (omega arith)), alike)
    (each_alike px v (suc c) k (λ i l. let same : suc c + i ≡ c + suc i = omega arith in ap (λ (j : ℕ). get_or px j 0) same ∙ h (suc i) (omega arith)))

-- The cases of a quadrant, as equations.
pub quadrant_pixel : (px : List ℕ) (c : ℕ) → quadrant px 0 c ≡ block c 0 (get_or px c 0) ∷ []
unfolding quadrant
quadrant_pixel px c = refl

pub quadrant_one : (px : List ℕ) (m c : ℕ) → alike px (get_or px c 0) c (4 ^ suc m) ≡ true → quadrant px (suc m) c ≡ block c (suc m) (get_or px c 0) ∷ []
unfolding quadrant
quadrant_one px m c e = rw (e, quadrant)

pub quadrant_four : (px : List ℕ) (m c : ℕ) → alike px (get_or px c 0) c (4 ^ suc m) ≡ false
    → quadrant px (suc m) c
    ≡ quadrant px m c ++ (quadrant px m (c + 4 ^ m) ++ (quadrant px m (c + 4 ^ m + 4 ^ m) ++ quadrant px m (c + 4 ^ m + 4 ^ m + 4 ^ m)))
unfolding quadrant
quadrant_four px m c e = rw (e, quadrant)

-- A square of one colour is one block.
pub quadrant-alike : (px : List ℕ) (v m c : ℕ) → alike px v c (4 ^ m) ≡ true → quadrant px m c ≡ block c m v ∷ []
quadrant-alike px v m c h = pick m h first
  where
    first : get_or px c 0 ≡ v
    first = let here : c ≡ c + 0 = omega arith in ap (λ (j : ℕ). get_or px j 0) here ∙ alike_each px v c (4 ^ m) h 0 (pow4_pos m)

    pick : (m : ℕ) → alike px v c (4 ^ m) ≡ true → get_or px c 0 ≡ v → quadrant px m c ≡ block c m v ∷ []
    pick zero h e = quadrant_pixel px c ∙ ap (λ (k : ℕ). block c 0 k ∷ []) e
    pick (suc m) h e =
        quadrant_one px m c (ap (λ (k : ℕ). alike px k c (4 ^ suc m)) e ∙ h) ∙ ap (λ (k : ℕ). block c (suc m) k ∷ []) e

-- What blocks paint, and how many pixels.
pub paint-append : (xs bs : List Block) → paint (xs ++ bs) ≡ paint xs ++ paint bs
unfolding paint
paint-append [] bs = refl
paint-append (a ∷ xs) bs = rw (paint-append xs bs) (sym (append_assoc (replicate (4 ^ a.level) a.colour) (paint xs) (paint bs)))

pub pixels-append : (xs bs : List Block) → pixels (xs ++ bs) ≡ pixels xs + pixels bs
unfolding pixels
pixels-append [] bs = omega arith
pixels-append (a ∷ xs) bs = omega (arith, pixels-append xs bs)

pub length-paint : (bs : List Block) → length (paint bs) ≡ pixels bs
unfolding paint pixels
length-paint [] = refl
length-paint (b ∷ bs) =
    simp (length-append, length-replicate) (omega (arith, length-paint bs))

pub paint-block : (c l v : ℕ) → paint (block c l v ∷ []) ≡ replicate (4 ^ l) v
unfolding paint
paint-block c l v = append-nil (replicate (4 ^ l) v)

pub pixels-block : (c l v : ℕ) → pixels (block c l v ∷ []) ≡ 4 ^ l
unfolding pixels
pixels-block c l v = omega arith

pub pixels-quadrant : (px : List ℕ) (m c : ℕ) → pixels (quadrant px m c) ≡ 4 ^ m
pixels-quadrant px zero c = ap pixels (quadrant_pixel px c) ∙ pixels-block c 0 (get_or px c 0)
pixels-quadrant px (suc m) c = pick (alike px (get_or px c 0) c (4 ^ suc m)) refl (pixels-quadrant px m)
  where
    pick : (b : Bool) → alike px (get_or px c 0) c (4 ^ suc m) ≡ b → ((d : ℕ) → pixels (quadrant px m d) ≡ 4 ^ m) → pixels (quadrant px (suc m) c) ≡ 4 ^ suc m
    pick true e ih = ap pixels (quadrant_one px m c e) ∙ pixels-block c (suc m) (get_or px c 0)
    pick false e ih = ap pixels (quadrant_four px m c e) ∙ simp (pixels-append, ih) (omega arith)

pub pixels-quadtree : (n : ℕ) (px : List ℕ) → pixels (quadtree n px) ≡ 4 ^ n
unfolding quadtree
pixels-quadtree n px = pixels-quadrant px n 0

-- A stretch of one colour.
pub alike_stretch : (px : List ℕ) (v c k : ℕ) → c + k ≤ length px → alike px v c k ≡ true → replicate k v ≡ take k (drop c px)
alike_stretch px v c k room h =
    ext_get_or 0 (replicate k v) (take k (drop c px))
    (simp (length-replicate, length-take, length-drop) (omega arith))
    (λ i l. let small : i < k = omega (arith, length-replicate k v) in
    get_or-replicate k i v 0 small ∙ sym (get_or-take k (drop c px) i 0 small ∙ get_or-drop c px i 0 ∙ alike_each px v c k h i small))

-- Four stretches one after the other are one.
four_stretches : (px : List ℕ) (q c : ℕ)
    → take q (drop c px) ++ (take q (drop (c + q) px) ++ (take q (drop (c + q + q) px) ++ take q (drop (c + q + q + q) px)))
    ≡ take (q + (q + (q + q))) (drop c px)
four_stretches px q c =
    rw (take-add q (q + (q + q)) (drop c px), drop-drop q c px, take-add q (q + q) (drop (c + q) px), drop-drop q (c + q) px, take-add q q (drop (c + q + q) px), drop-drop q (c + q + q) px)

-- A quadrant paints its stretch of the image.
pub paint-quadrant : (px : List ℕ) (m c : ℕ) → c + 4 ^ m ≤ length px → paint (quadrant px m c) ≡ take (4 ^ m) (drop c px)
paint-quadrant px zero c room =
    ap paint (quadrant_pixel px c) ∙ paint-block c 0 (get_or px c 0) ∙ ap (take 1) (sym (drop-cons px c 0 (omega arith)))
paint-quadrant px (suc m) c room = pick (alike px (get_or px c 0) c (4 ^ suc m)) refl (paint-quadrant px m)
  where
    pick : (b : Bool) → alike px (get_or px c 0) c (4 ^ suc m) ≡ b
        → ((d : ℕ) → d + 4 ^ m ≤ length px → paint (quadrant px m d) ≡ take (4 ^ m) (drop d px))
        → paint (quadrant px (suc m) c) ≡ take (4 ^ suc m) (drop c px)
    pick true e ih =
        ap paint (quadrant_one px m c e) ∙ paint-block c (suc m) (get_or px c 0) ∙ alike_stretch px (get_or px c 0) c (4 ^ suc m) room e
    pick false e ih =
        let sum : 4 ^ m + (4 ^ m + (4 ^ m + 4 ^ m)) ≡ 4 ^ suc m = omega arith in
        ap paint (quadrant_four px m c e)
        ∙ simp paint-append
        (rw (ih c (omega arith), ih (c + 4 ^ m) (omega arith), ih (c + 4 ^ m + 4 ^ m) (omega arith), ih (c + 4 ^ m + 4 ^ m + 4 ^ m) (omega arith))
        (four_stretches px (4 ^ m) c ∙ ap (λ (k : ℕ). take k (drop c px)) sum))

pub paint-quadtree : (n : ℕ) (px : List ℕ) → length px ≡ 4 ^ n → paint (quadtree n px) ≡ px
unfolding quadtree
paint-quadtree n px long = paint-quadrant px n 0 (omega arith) ∙ take_all (4 ^ n) px (omega arith)
