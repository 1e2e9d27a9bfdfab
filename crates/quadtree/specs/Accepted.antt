-- The accepted block lists are exactly the quadtrees of images.
use Rattle.std.specs.Prelude.{◌≡◌, refl, ◌↔◌, Bool, true, false, not, ◌&&◌, ℕ, zero, suc, ◌+◌, ◌-◌, ◌^◌, ◌≤◌, ◌<◌, length, get_or, eqb, ltb}
use Rattle.std.proofs.Common.{sym, ap, ◌∙◌, subst, true≢false, arith, length-append, ltb-false, eqb-true, le-ltb, eq-eqb}
use mathlib.Core.List.{List, [], ◌∷◌, ◌++◌, head-eq_of_cons-eq}
use Rattle.std.proofs.Math.Nat.{dvd-zero}
use Rattle.std.proofs.Math.Decide.{dec_lt}
use Rattle.std.proofs.lemmas.List.{length-map}
use Rattle.std.proofs.lemmas.Bool.{not-false}
use Rattle.sequences.specs.Cases.{first, when, first-zero, when_zero, and_both}
use Rattle.sequences.specs.Powers.{pow4_pos}
use Rattle.quadtree.specs.Blocks.{Block, blocks, paint}
use Rattle.quadtree.specs.Quadtree.{alike, quadrant, quadtree}
use Rattle.quadtree.specs.Number.{cover, siblings, number}
use Rattle.quadtree.specs.Covering.{covers_of_zero, zero_of_covers}
use Rattle.quadtree.specs.Painting.{block, alike_each, each_alike, quadrant_pixel, quadrant_one, quadrant_four}
use Rattle.quadtree.specs.Trees.{Tree, leaf, node, flat, Reduced, flat_leaf, flat_node, quadtree-flat}
use Rattle.quadtree.specs.Parsing.{tree_of_covering, covering_of_tree}
use Rattle.quadtree.specs.Reducing.{none_reduced}
use Rattle.quadtree.specs.Unmerged.{reduced_none}
use Rattle.quadtree.specs.Fields.{codes, levels, colours, blocks_of_fields, codes_of_blocks, levels_of_blocks, colours_of_blocks}

-- ---- the quadtree of an image is the list of a reduced tree

-- Two stretches of one colour, one after the other.
pub alike-append : (px : List ℕ) (v c j k : ℕ) → alike px v c j ≡ true → alike px v (c + j) k ≡ true → alike px v c (j + k) ≡ true
alike-append px v c j k f g = each_alike px v c (j + k) (λ i l. pick i l (dec_lt i j))
  where
    pick : (i : ℕ) → i < j + k → Dec (i < j) → get_or px (c + i) 0 ≡ v
    pick i l (yes h) = alike_each px v c j f i h
    pick i l (no h) =
        let same : c + i ≡ c + j + (i - j) = omega arith in
        ap (λ (x : ℕ). get_or px x 0) same ∙ alike_each px v (c + j) k g (i - j) (omega arith)

pub record TreeOf (px : List ℕ) (m c : ℕ) : Type 0 where
  pub tree : Tree m
  pub same : quadrant px m c ≡ flat m c tree
  pub reduced : Reduced m tree

quadrant_some : (px : List ℕ) (m c : ℕ) → 0 < length (quadrant px m c)
quadrant_some px zero c = rw (quadrant_pixel px c) (omega arith)
quadrant_some px (suc m) c = pick (alike px (get_or px c 0) c (4 ^ suc m)) refl (quadrant_some px m c)
  where
    rest : List Block
    rest = quadrant px m (c + 4 ^ m) ++ (quadrant px m (c + 4 ^ m + 4 ^ m) ++ quadrant px m (c + 4 ^ m + 4 ^ m + 4 ^ m))

    pick : (b : Bool) → alike px (get_or px c 0) c (4 ^ suc m) ≡ b → 0 < length (quadrant px m c) → 0 < length (quadrant px (suc m) c)
    pick true e h = rw (quadrant_one px m c e) (omega arith)
    pick false e h = rw (quadrant_four px m c e) (rw (length-append (quadrant px m c) rest) (omega arith))

-- A quadrant that is one block has one colour.
pub one_block_alike : (px : List ℕ) (v m c : ℕ) → quadrant px m c ≡ block c m v ∷ [] → alike px v c (4 ^ m) ≡ true
one_block_alike px v zero c e =
    let colour : get_or px c 0 ≡ v = ap (λ (b : Block). b.colour) (head-eq_of_cons-eq (sym (quadrant_pixel px c) ∙ e)) in
    each_alike px v c 1 (λ i l. let same : c + i ≡ c = omega arith in ap (λ (x : ℕ). get_or px x 0) same ∙ colour)
one_block_alike px v (suc m) c e = pick (alike px (get_or px c 0) c (4 ^ suc m)) refl
  where
    P : List Block
    P = quadrant px m c

    Q : List Block
    Q = quadrant px m (c + 4 ^ m)

    R : List Block
    R = quadrant px m (c + 4 ^ m + 4 ^ m) ++ quadrant px m (c + 4 ^ m + 4 ^ m + 4 ^ m)

    pick : (b : Bool) → alike px (get_or px c 0) c (4 ^ suc m) ≡ b → alike px v c (4 ^ suc m) ≡ true
    pick true f =
        let colour : get_or px c 0 ≡ v = ap (λ (b : Block). b.colour) (head-eq_of_cons-eq (sym (quadrant_one px m c f) ∙ e)) in
        subst (λ x. alike px x c (4 ^ suc m) ≡ true) colour f
    pick false f =
        let long : length (P ++ (Q ++ R)) ≡ 1 = ap length (sym (quadrant_four px m c f) ∙ e) in
        absurd (omega (arith, quadrant_some px m c, quadrant_some px m (c + 4 ^ m), length-append P (Q ++ R), length-append Q R))

leaf_alike : (px : List ℕ) (v m c : ℕ) (s : TreeOf px m c) → s.tree ≡ leaf v → alike px v c (4 ^ m) ≡ true
leaf_alike px v m c s e = one_block_alike px v m c (s.same ∙ ap (flat m c) e ∙ flat_leaf m c v)

-- Four quadrants that are not of one colour make a node.
node_of : (px : List ℕ) (m c : ℕ) → alike px (get_or px c 0) c (4 ^ suc m) ≡ false
    → TreeOf px m c → TreeOf px m (c + 4 ^ m) → TreeOf px m (c + 4 ^ m + 4 ^ m) → TreeOf px m (c + 4 ^ m + 4 ^ m + 4 ^ m) → TreeOf px (suc m) c
unfolding Reduced
node_of px m c e p q r s = record {
  tree = node p.tree q.tree r.tree s.tree;
  same =
      quadrant_four px m c e ∙ (rw (p.same, q.same, r.same, s.same) refl ∙ sym (flat_node m c p.tree q.tree r.tree s.tree));
  reduced = (never, p.reduced, q.reduced, r.reduced, s.reduced);
}
  where
    never : (v : ℕ) → p.tree ≡ leaf v → q.tree ≡ leaf v → r.tree ≡ leaf v → s.tree ≡ leaf v → ⊥
    never v ep eq er es =
        let two : alike px v c (4 ^ m + 4 ^ m) ≡ true = alike-append px v c (4 ^ m) (4 ^ m) (leaf_alike px v m c p ep) (leaf_alike px v m (c + 4 ^ m) q eq) in
        let more : alike px v (c + 4 ^ m + 4 ^ m) (4 ^ m + 4 ^ m) ≡ true =
        alike-append px v (c + 4 ^ m + 4 ^ m) (4 ^ m) (4 ^ m) (leaf_alike px v m (c + 4 ^ m + 4 ^ m) r er) (leaf_alike px v m (c + 4 ^ m + 4 ^ m + 4 ^ m) s es) in
        let place : c + 4 ^ m + 4 ^ m ≡ c + (4 ^ m + 4 ^ m) = omega arith in
        let size : 4 ^ m + 4 ^ m + (4 ^ m + 4 ^ m) ≡ 4 ^ suc m = omega arith in
        let all : alike px v c (4 ^ suc m) ≡ true =
        subst (λ x. alike px v c x ≡ true) size
        (alike-append px v c (4 ^ m + 4 ^ m) (4 ^ m + 4 ^ m) two (subst (λ x. alike px v x (4 ^ m + 4 ^ m) ≡ true) place more)) in
        let here : c + 0 ≡ c = omega arith in
        let colour : v ≡ get_or px c 0 = sym (alike_each px v c (4 ^ suc m) all 0 (pow4_pos (suc m))) ∙ ap (λ (x : ℕ). get_or px x 0) here in
        true≢false (sym (subst (λ x. alike px x c (4 ^ suc m) ≡ true) colour all) ∙ e)

pub quadrant_tree : (px : List ℕ) (m c : ℕ) → TreeOf px m c
unfolding Reduced
quadrant_tree px zero c = record { tree = leaf (get_or px c 0); same = quadrant_pixel px c ∙ sym (flat_leaf 0 c (get_or px c 0)); reduced = tt }
quadrant_tree px (suc m) c = pick (alike px (get_or px c 0) c (4 ^ suc m)) refl (quadrant_tree px m)
  where
    pick : (b : Bool) → alike px (get_or px c 0) c (4 ^ suc m) ≡ b → ((d : ℕ) → TreeOf px m d) → TreeOf px (suc m) c
    pick true e below = record { tree = leaf (get_or px c 0); same = quadrant_one px m c e ∙ sym (flat_leaf (suc m) c (get_or px c 0)); reduced = tt }
    pick false e below = node_of px m c e (below c) (below (c + 4 ^ m)) (below (c + 4 ^ m + 4 ^ m)) (below (c + 4 ^ m + 4 ^ m + 4 ^ m))

-- A quadtree passes causes 3 to 7.
pub cover-quadtree : (n : ℕ) (px : List ℕ) → cover n 0 (quadtree n px) ≡ 0
unfolding quadtree
cover-quadtree n px =
    let t = quadrant_tree px n 0 in
    ap (cover n 0) t.same ∙ zero_of_covers n 0 (flat n 0 t.tree) (covering_of_tree n t.tree)

pub siblings-quadtree : (n : ℕ) (px : List ℕ) → siblings n (quadtree n px) ≡ false
unfolding quadtree
siblings-quadtree n px = let t = quadrant_tree px n 0 in ap (siblings n) t.same ∙ reduced_none n t.tree t.reduced

-- A list that passes causes 3 to 7 is the quadtree of what it paints.
pub passing_quadtree : (n : ℕ) (bs : List Block) → cover n 0 bs ≡ 0 → siblings n bs ≡ false → bs ≡ quadtree n (paint bs)
passing_quadtree n bs c e =
    let t = tree_of_covering n bs (covers_of_zero n 0 bs (omega arith) c) in
    let h : Reduced n t.0 = none_reduced n n 0 t.0 (omega arith) (dvd-zero (4 ^ n)) (ap (siblings n) (sym t.1) ∙ e) in
    t.1 ∙ sym (quadtree-flat n t.0 h) ∙ ap (λ (x : List Block). quadtree n (paint x)) (sym t.1)

-- ---- the number of a block list

-- Number 0, cause by cause.
pub record Passes (n : ℕ) (cs ls ks : List ℕ) : Type 0 where
  pub small : n ≤ 8
  pub equal_levels : length cs ≡ length ls
  pub equal_colours : length ls ≡ length ks
  pub covering : cover n 0 (blocks cs ls ks) ≡ 0
  pub unmerged : siblings n (blocks cs ls ks) ≡ false

pub number-zero : (n : ℕ) (cs ls ks : List ℕ) → number n cs ls ks ≡ 0 → Passes n cs ls ks
unfolding number
number-zero n cs ls ks h =
    let h1 = first-zero (when (ltb 8 n) 1) _ h in
    let h2 = first-zero (when (not (eqb (length cs) (length ls) && eqb (length ls) (length ks))) 2) _ h1.1 in
    let h3 = first-zero (cover n 0 (blocks cs ls ks)) (when (siblings n (blocks cs ls ks)) 7) h2.1 in
    let same = and_both (eqb (length cs) (length ls)) (eqb (length ls) (length ks)) (not-false _ (when_zero _ 2 (omega arith) h2.0)) in
    record {
      small = ltb-false 8 n (when_zero (ltb 8 n) 1 (omega arith) h1.0);
      equal_levels = eqb-true (length cs) (length ls) same.0;
      equal_colours = eqb-true (length ls) (length ks) same.1;
      covering = h3.0;
      unmerged = when_zero (siblings n (blocks cs ls ks)) 7 (omega arith) h3.1;
    }

pub zero_number : (n : ℕ) (cs ls ks : List ℕ) → Passes n cs ls ks → number n cs ls ks ≡ 0
unfolding number first when
zero_number n cs ls ks p =
    rw (le-ltb 8 n p.small, eq-eqb (length cs) (length ls) p.equal_levels, eq-eqb (length ls) (length ks) p.equal_colours, p.covering, p.unmerged)

-- An accepted list is exactly the quadtree of what it paints.
pub accepted_exactly_quadtree : (n : ℕ) (cs ls ks : List ℕ)
    → (number n cs ls ks ≡ 0)
    ↔ ((n ≤ 8) × (length cs ≡ length ls) × (length ls ≡ length ks) × (blocks cs ls ks ≡ quadtree n (paint (blocks cs ls ks))))
accepted_exactly_quadtree n cs ls ks = (
  λ h. let p = number-zero n cs ls ks h in
      (p.small, p.equal_levels, p.equal_colours, passing_quadtree n (blocks cs ls ks) p.covering p.unmerged),
  λ h. let bs : List Block = blocks cs ls ks in
      zero_number n cs ls ks
      (record {
        small = h.0;
        equal_levels = h.1;
        equal_colours = h.2;
        covering = ap (cover n 0) h.3 ∙ cover-quadtree n (paint bs);
        unmerged = ap (siblings n) h.3 ∙ siblings-quadtree n (paint bs);
      }),
)

-- Two accepted lists that paint the same pixels are one.
pub one_accepted_list : (n : ℕ) (cs ls ks ds ms vs : List ℕ) → number n cs ls ks ≡ 0 → number n ds ms vs ≡ 0
    → paint (blocks cs ls ks) ≡ paint (blocks ds ms vs) → (cs ≡ ds) × (ls ≡ ms) × (ks ≡ vs)
one_accepted_list n cs ls ks ds ms vs g h e =
    let p = (accepted_exactly_quadtree n cs ls ks).0 g in
    let q = (accepted_exactly_quadtree n ds ms vs).0 h in
    let same : blocks cs ls ks ≡ blocks ds ms vs = p.3 ∙ ap (quadtree n) e ∙ sym q.3 in (
      sym (codes_of_blocks cs ls ks p.1 p.2) ∙ ap codes same ∙ codes_of_blocks ds ms vs q.1 q.2,
      sym (levels_of_blocks cs ls ks p.1 p.2) ∙ ap levels same ∙ levels_of_blocks ds ms vs q.1 q.2,
      sym (colours_of_blocks cs ls ks p.1 p.2) ∙ ap colours same ∙ colours_of_blocks ds ms vs q.1 q.2,
    )

-- The quadtree of every image is accepted.
pub quadtree_accepted : (n : ℕ) (px : List ℕ) → n ≤ 8 → number n (codes (quadtree n px)) (levels (quadtree n px)) (colours (quadtree n px)) ≡ 0
quadtree_accepted n px small =
    let bs : List Block = quadtree n px in
    let same : blocks (codes bs) (levels bs) (colours bs) ≡ bs = blocks_of_fields bs in
    zero_number n (codes bs) (levels bs) (colours bs)
    (record {
      small = small;
      equal_levels = length-map bs (λ (b : Block). b.code) ∙ sym (length-map bs (λ (b : Block). b.level));
      equal_colours = length-map bs (λ (b : Block). b.level) ∙ sym (length-map bs (λ (b : Block). b.colour));
      covering = ap (cover n 0) same ∙ cover-quadtree n px;
      unmerged = ap (siblings n) same ∙ siblings-quadtree n px;
    })
