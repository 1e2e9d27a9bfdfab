-- In a covering list cause 7 applies exactly where four sibling blocks share a colour.
use Rattle.std.specs.Prelude.{◌≡◌, refl, Bool, true, false, ℕ, suc, ◌+◌, ◌*◌, ◌%◌, ◌^◌, ◌<◌}
use Rattle.std.proofs.Common.{sym, ap, ◌∙◌, subst, arith}
use mathlib.Core.List.Memᴰ
use mathlib.Core.List.{List, ◌∷◌, Memᴰ}
use Rattle.std.proofs.Math.Nat.{dvd-zero, dvd_of_mod-eq-zero}
use Rattle.quadtree.specs.Blocks.{Block, pixels}
use Rattle.quadtree.specs.Number.{siblings}
use Rattle.quadtree.specs.Covering.{Covers, covers_rest}
use Rattle.quadtree.specs.Siblings.{SiblingsFound, siblings_found}
use Rattle.quadtree.specs.Trees.{Tree, flat, Reduced}
use Rattle.quadtree.specs.Parsing.{tree_of_covering, covering_of_tree}
use Rattle.quadtree.specs.Reducing.{SiblingBlocks, none_reduced, reduced_unmerged}

-- The four blocks that cause 7 finds in a covering list are siblings.
pub found_blocks : (n : ℕ) (bs : List Block) → Covers n 0 bs → (f : SiblingsFound n bs) → SiblingBlocks bs f.a.level f.a.code f.a.colour
unfolding Covers
found_blocks n bs c f =
    let rest : List Block = f.a ∷ f.b ∷ f.c ∷ f.d ∷ f.after in
    let l : ℕ = f.a.level in
    let sum : ℕ = 0 + pixels f.before in
    let part : Covers n sum rest = covers_rest n 0 f.before rest (subst (λ x. Covers n 0 x) f.split c) in
    let lb : 4 ^ f.b.level ≡ 4 ^ l = ap (λ (x : ℕ). 4 ^ x) f.facts.level_b in
    let lc : 4 ^ f.c.level ≡ 4 ^ l = ap (λ (x : ℕ). 4 ^ x) f.facts.level_c in
    let ca : f.a.code ≡ sum = part.1 in
    let cb : f.b.code ≡ sum + 4 ^ l = part.4.1 in
    let cc : f.c.code ≡ sum + 4 ^ l + 4 ^ f.b.level = part.4.4.1 in
    let cd : f.d.code ≡ sum + 4 ^ l + 4 ^ f.b.level + 4 ^ f.c.level = part.4.4.4.1 in
    let eb : f.a.code + 4 ^ l ≡ f.b.code = omega arith in
    let ec : f.a.code + 2 * 4 ^ l ≡ f.c.code = omega arith in
    let ed : f.a.code + 3 * 4 ^ l ≡ f.d.code = omega arith in
    let back : (b : Block) → Memᴰ b rest → Memᴰ b bs = λ b i. subst (λ x. Memᴰ b x) (sym f.split) (Memᴰ.append_right f.before i) in
    record {
      northwest = back f.a (Memᴰ.head refl);
      northeast = Memᴰ.cast (λ i. record { code = eb i; level = sym f.facts.level_b i; colour = sym f.facts.colour_b i })
          (back f.b (Memᴰ.tail (Memᴰ.head refl)));
      southwest = Memᴰ.cast (λ i. record { code = ec i; level = sym f.facts.level_c i; colour = sym f.facts.colour_c i })
          (back f.c (Memᴰ.tail (Memᴰ.tail (Memᴰ.head refl))));
      southeast = Memᴰ.cast (λ i. record { code = ed i; level = sym f.facts.level_d i; colour = sym f.facts.colour_d i })
          (back f.d (Memᴰ.tail (Memᴰ.tail (Memᴰ.tail (Memᴰ.head refl)))));
    }

-- "no four sibling blocks share a colour" (document 01), wherever in the list they stand.
abbrev pub Unmerged : ℕ → List Block → Type 0
Unmerged n bs = (l q v : ℕ) → l < n → q % 4 ^ suc l ≡ 0 → SiblingBlocks bs l q v → ⊥

pub unmerged_none : (n : ℕ) (bs : List Block) → Covers n 0 bs → Unmerged n bs → siblings n bs ≡ false
unmerged_none n bs c u = pick (siblings n bs) refl
  where
    pick : (t : Bool) → siblings n bs ≡ t → siblings n bs ≡ false
    pick true e =
        let f = siblings_found n bs e in
        absurd (u f.a.level f.a.code f.a.colour f.facts.below f.facts.multiple (found_blocks n bs c f))
    pick false e = e

pub reduced_has_none : (n : ℕ) (t : Tree n) → Reduced n t → Unmerged n (flat n 0 t)
reduced_has_none n t h l q v below multiple f =
    reduced_unmerged n 0 t h (dvd-zero (4 ^ n)) l q v below (dvd_of_mod-eq-zero (4 ^ suc l) multiple) f

pub reduced_none : (n : ℕ) (t : Tree n) → Reduced n t → siblings n (flat n 0 t) ≡ false
reduced_none n t h = unmerged_none n (flat n 0 t) (covering_of_tree n t) (reduced_has_none n t h)

pub none_unmerged : (n : ℕ) (bs : List Block) → Covers n 0 bs → siblings n bs ≡ false → Unmerged n bs
none_unmerged n bs c e =
    let t = tree_of_covering n bs c in
    let h : Reduced n t.0 = none_reduced n n 0 t.0 (omega arith) (dvd-zero (4 ^ n)) (ap (siblings n) (sym t.1) ∙ e) in
    subst (λ x. Unmerged n x) (sym t.1) (reduced_has_none n t.0 h)
