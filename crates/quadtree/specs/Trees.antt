-- Trees of quadrants: a reduced tree is the quadtree of what it paints.
use Rattle.std.specs.Prelude.{◌≡◌, refl, Bool, true, false, ℕ, suc, ◌+◌, ◌-◌, ◌^◌, ◌≤◌, ◌<◌, length, get_or, replicate}
use Rattle.std.proofs.Common.{sym, ap, ◌∙◌, arith, length-append, get_or-append-add}
use mathlib.Core.List.{List, [], ◌∷◌, ◌++◌, head-eq_of_cons-eq}
use Rattle.std.specs.Int.{◌∣◌}
use Rattle.std.proofs.Math.Nat.{dvd_refl, dvd-add, dvd_trans}
use Rattle.std.proofs.lemmas.List.{length-replicate, get_or-replicate}
use Rattle.std.proofs.Math.ListN.{get_or-append}
use Rattle.sequences.specs.Powers.{pow4_divides}
use Rattle.quadtree.specs.Blocks.{Block, pixels, paint}
use Rattle.quadtree.specs.Quadtree.{alike, quadrant, quadtree}
use Rattle.quadtree.specs.Painting.{block, alike_each, each_alike, quadrant-alike, quadrant_four, paint-append, pixels-append, length-paint, paint-block, pixels-block}

-- A square of level n: one colour, or four squares northwest, northeast, southwest, southeast.
pub data Tree : ℕ → Type 0 where
  leaf : {n : ℕ} → ℕ → Tree n
  node : {n : ℕ} → Tree n → Tree n → Tree n → Tree n → Tree (suc n)

-- The blocks of a square at the code c, in rising code order.
unfoldable pub flat : (n : ℕ) → ℕ → Tree n → List Block
flat n c (leaf v) = block c n v ∷ []
flat (suc n) c (node p q r s) = flat n c p ++ (flat n (c + 4 ^ n) q ++ (flat n (c + 4 ^ n + 4 ^ n) r ++ flat n (c + 4 ^ n + 4 ^ n + 4 ^ n) s))

-- The codes of a square's quarters.
pub quarters_divide : (m c : ℕ) → 4 ^ suc m ∣ c → (4 ^ m ∣ c) × (4 ^ m ∣ c + 4 ^ m) × (4 ^ m ∣ c + 4 ^ m + 4 ^ m) × (4 ^ m ∣ c + 4 ^ m + 4 ^ m + 4 ^ m)
quarters_divide m c d =
    let w : 4 ^ m ∣ 4 ^ m = dvd_refl (4 ^ m) in
    let d0 : 4 ^ m ∣ c = dvd_trans (4 ^ m) (pow4_divides (omega arith)) d in
    let d1 : 4 ^ m ∣ c + 4 ^ m = dvd-add (4 ^ m) d0 w in
    let d2 : 4 ^ m ∣ c + 4 ^ m + 4 ^ m = dvd-add (4 ^ m) d1 w in
    (d0, d1, d2, dvd-add (4 ^ m) d2 w)

-- No node has four leaves of one colour.
unfoldable pub Reduced : (n : ℕ) → Tree n → Type 0
Reduced n (leaf v) = Unit {0}
Reduced (suc n) (node p q r s) =
    ((v : ℕ) → p ≡ leaf v → q ≡ leaf v → r ≡ leaf v → s ≡ leaf v → ⊥) × Reduced n p × Reduced n q × Reduced n r × Reduced n s

pub flat_leaf : (n c v : ℕ) → flat n c (leaf v) ≡ block c n v ∷ []
unfolding flat
flat_leaf n c v = refl

pub flat_node : (n c : ℕ) (p q r s : Tree n)
    → flat (suc n) c (node p q r s) ≡ flat n c p ++ (flat n (c + 4 ^ n) q ++ (flat n (c + 4 ^ n + 4 ^ n) r ++ flat n (c + 4 ^ n + 4 ^ n + 4 ^ n) s))
unfolding flat
flat_node n c p q r s = refl

pub pixels-flat : (n c : ℕ) (t : Tree n) → pixels (flat n c t) ≡ 4 ^ n
unfolding flat
pixels-flat n c (leaf v) = pixels-block c n v
pixels-flat (suc n) c (node p q r s) =
    simp pixels-append
    (omega (arith, pixels-flat n c p, pixels-flat n (c + 4 ^ n) q, pixels-flat n (c + 4 ^ n + 4 ^ n) r, pixels-flat n (c + 4 ^ n + 4 ^ n + 4 ^ n) s))

pub flat_some : (n c : ℕ) (t : Tree n) → 0 < length (flat n c t)
unfolding flat
flat_some n c (leaf v) = omega arith
flat_some (suc n) c (node p q r s) =
    rw (length-append (flat n c p) (flat n (c + 4 ^ n) q ++ (flat n (c + 4 ^ n + 4 ^ n) r ++ flat n (c + 4 ^ n + 4 ^ n + 4 ^ n) s)))
    (omega (arith, flat_some n c p))

-- A square that is one block is a leaf.
one_block_leaf : (n c v : ℕ) (t : Tree n) → flat n c t ≡ block c n v ∷ [] → t ≡ leaf v
unfolding flat
one_block_leaf n c v (leaf w) e = ap leaf (ap (λ (b : Block). b.colour) (head-eq_of_cons-eq e))
one_block_leaf (suc n) c v (node p q r s) e =
    absurd (omega (arith, simp length-append at (ap length e), flat_some n c p, flat_some n (c + 4 ^ n) q))

-- The image px shows the colours `part` from the code c on.
abbrev pub Shows : List ℕ → ℕ → List ℕ → Type 0
Shows px c part = (i : ℕ) → i < length part → get_or px (c + i) 0 ≡ get_or part i 0

pub shows_left : (px xs ys : List ℕ) (c : ℕ) → Shows px c (xs ++ ys) → Shows px c xs
shows_left px xs ys c h i l = h i (omega (arith, length-append xs ys)) ∙ get_or-append xs ys 0 i l

pub shows_right : (px xs ys : List ℕ) (c d : ℕ) → d ≡ c + length xs → Shows px c (xs ++ ys) → Shows px d ys
shows_right px xs ys c d e h i l =
    let same : d + i ≡ c + (length xs + i) = omega arith in
    ap (λ (j : ℕ). get_or px j 0) same ∙ h (length xs + i) (omega (arith, length-append xs ys)) ∙ get_or-append-add xs ys i 0

pub shows_itself : (px : List ℕ) → Shows px 0 px
shows_itself px i l = let same : 0 + i ≡ i = omega arith in ap (λ (j : ℕ). get_or px j 0) same

pub shows_alike : (px : List ℕ) (v c k : ℕ) → Shows px c (replicate k v) → alike px v c k ≡ true
shows_alike px v c k h = each_alike px v c k (λ i l. h i (omega (arith, length-replicate k v)) ∙ get_or-replicate k i v 0 l)

pub alike_part : (px : List ℕ) (v c k d j : ℕ) → c ≤ d → d + j ≤ c + k → alike px v c k ≡ true → alike px v d j ≡ true
alike_part px v c k d j low high h =
    each_alike px v d j
    (λ i l. let same : d + i ≡ c + (d + i - c) = omega arith in ap (λ (x : ℕ). get_or px x 0) same ∙ alike_each px v c k h (d + i - c) (omega arith))

-- Where the image shows what a reduced square paints, the square is the image's quadrant.
module _ (n c : ℕ) (p q r s : Tree n) (px : List ℕ) where
  paint_node : paint (flat (suc n) c (node p q r s))
      ≡ paint (flat n c p) ++ (paint (flat n (c + 4 ^ n) q) ++ (paint (flat n (c + 4 ^ n + 4 ^ n) r) ++ paint (flat n (c + 4 ^ n + 4 ^ n + 4 ^ n) s)))
  paint_node = ap paint (flat_node n c p q r s) ∙ simp paint-append

  long : (d : ℕ) (t : Tree n) → length (paint (flat n d t)) ≡ 4 ^ n
  long d t = length-paint (flat n d t) ∙ pixels-flat n d t

  part_shows : Shows px c (paint (flat (suc n) c (node p q r s)))
      → Shows px c (paint (flat n c p)) × Shows px (c + 4 ^ n) (paint (flat n (c + 4 ^ n) q))
      × Shows px (c + 4 ^ n + 4 ^ n) (paint (flat n (c + 4 ^ n + 4 ^ n) r)) × Shows px (c + 4 ^ n + 4 ^ n + 4 ^ n) (paint (flat n (c + 4 ^ n + 4 ^ n + 4 ^ n) s))
  part_shows h =
      let P : List ℕ = paint (flat n c p) in
      let Q : List ℕ = paint (flat n (c + 4 ^ n) q) in
      let R : List ℕ = paint (flat n (c + 4 ^ n + 4 ^ n) r) in
      let S : List ℕ = paint (flat n (c + 4 ^ n + 4 ^ n + 4 ^ n) s) in
      let h0 : Shows px c (P ++ (Q ++ (R ++ S))) = rw paint_node at h in
      let h1 : Shows px (c + 4 ^ n) (Q ++ (R ++ S)) = shows_right px P (Q ++ (R ++ S)) c (c + 4 ^ n) (omega (arith, long c p)) h0 in
      let h2 : Shows px (c + 4 ^ n + 4 ^ n) (R ++ S) = shows_right px Q (R ++ S) (c + 4 ^ n) (c + 4 ^ n + 4 ^ n) (omega (arith, long (c + 4 ^ n) q)) h1 in
      let h3 : Shows px (c + 4 ^ n + 4 ^ n + 4 ^ n) S =
      shows_right px R S (c + 4 ^ n + 4 ^ n) (c + 4 ^ n + 4 ^ n + 4 ^ n) (omega (arith, long (c + 4 ^ n + 4 ^ n) r)) h2 in
      (shows_left px P (Q ++ (R ++ S)) c h0, shows_left px Q (R ++ S) (c + 4 ^ n) h1, shows_left px R S (c + 4 ^ n + 4 ^ n) h2, h3)

  -- A quarter of a square of one colour is a leaf.
  quarter_leaf : (v d : ℕ) (t : Tree n) → c ≤ d → d + 4 ^ n ≤ c + 4 ^ suc n → alike px v c (4 ^ suc n) ≡ true → quadrant px n d ≡ flat n d t → t ≡ leaf v
  quarter_leaf v d t low high e same =
      one_block_leaf n d v t (sym same ∙ quadrant-alike px v n d (alike_part px v c (4 ^ suc n) d (4 ^ n) low high e))

  node_quadrant : ((v : ℕ) → p ≡ leaf v → q ≡ leaf v → r ≡ leaf v → s ≡ leaf v → ⊥)
      → quadrant px n c ≡ flat n c p → quadrant px n (c + 4 ^ n) ≡ flat n (c + 4 ^ n) q
      → quadrant px n (c + 4 ^ n + 4 ^ n) ≡ flat n (c + 4 ^ n + 4 ^ n) r → quadrant px n (c + 4 ^ n + 4 ^ n + 4 ^ n) ≡ flat n (c + 4 ^ n + 4 ^ n + 4 ^ n) s
      → quadrant px (suc n) c ≡ flat (suc n) c (node p q r s)
  node_quadrant never ip iq ir is = pick (alike px (get_or px c 0) c (4 ^ suc n)) refl
    where
      pick : (b : Bool) → alike px (get_or px c 0) c (4 ^ suc n) ≡ b → quadrant px (suc n) c ≡ flat (suc n) c (node p q r s)
      pick true e =
          let v : ℕ = get_or px c 0 in
          absurd
          (never v (quarter_leaf v c p (omega arith) (omega arith) e ip) (quarter_leaf v (c + 4 ^ n) q (omega arith) (omega arith) e iq)
          (quarter_leaf v (c + 4 ^ n + 4 ^ n) r (omega arith) (omega arith) e ir) (quarter_leaf v (c + 4 ^ n + 4 ^ n + 4 ^ n) s (omega arith) (omega arith) e is))
      pick false e = quadrant_four px n c e ∙ (rw (ip, iq, ir, is) refl ∙ sym (flat_node n c p q r s))

pub quadrant-flat : (n c : ℕ) (t : Tree n) (px : List ℕ) → Reduced n t → Shows px c (paint (flat n c t)) → quadrant px n c ≡ flat n c t
unfolding Reduced
quadrant-flat n c (leaf v) px h shown =
    quadrant-alike px v n c (shows_alike px v c (4 ^ n) (rw (flat_leaf n c v, paint-block c n v) at shown)) ∙ sym (flat_leaf n c v)
quadrant-flat (suc n) c (node p q r s) px h shown =
    let parts = part_shows n c p q r s px shown in
    node_quadrant n c p q r s px h.0 (quadrant-flat n c p px h.1 parts.0) (quadrant-flat n (c + 4 ^ n) q px h.2 parts.1)
    (quadrant-flat n (c + 4 ^ n + 4 ^ n) r px h.3 parts.2) (quadrant-flat n (c + 4 ^ n + 4 ^ n + 4 ^ n) s px h.4 parts.3)

-- A reduced tree's blocks are the quadtree of what they paint.
pub quadtree-flat : (n : ℕ) (t : Tree n) → Reduced n t → quadtree n (paint (flat n 0 t)) ≡ flat n 0 t
unfolding quadtree
quadtree-flat n t h = quadrant-flat n 0 t (paint (flat n 0 t)) h (shows_itself (paint (flat n 0 t)))
