-- A list that covers an image block by block is the block list of a tree, and every tree's list covers.
use Rattle.std.specs.Prelude.{◌≡◌, refl, ◌⊎◌, List, [], ◌∷◌, ◌++◌, ℕ, zero, suc, ◌+◌, ◌*◌, ◌^◌, ◌≤◌, ◌<◌}
use Rattle.std.proofs.Common.{sym, ◌∙◌, inl, inr, append_assoc, append-nil, mul-pos, mul-lt-mul_of_pos_right, eq-or-lt_of_le, le_of_suc-le-suc, arith}
use Rattle.std.proofs.Math.Path.{ap, subst}
use Rattle.std.specs.Int.{◌∣◌}
use Rattle.std.proofs.Math.Nat.{dvd_trans, dvd-add, dvd-add_iff_right, le_of_dvd, dvd-mul_left, dvd-zero, dvd_of_mod-eq-zero, mod-eq-zero_of_dvd}
use Rattle.std.proofs.Math.Decide.{dec_le}
use Rattle.sequences.specs.Powers.{pow4_pos, pow4_divides}
use Rattle.quadtree.specs.Blocks.{Block}
use Rattle.quadtree.specs.Covering.{Covers}
use Rattle.quadtree.specs.Trees.{Tree, leaf, node, flat, quarters_divide}

-- A quarter that is not a square's first does not begin a block larger than itself.
odd_quarter : (k c i j : ℕ) → 4 ^ suc k ∣ c → 0 < i → i < 4 → 4 ^ j ∣ c + i * 4 ^ k → j ≤ k
odd_quarter k c i j whole pos small h = pick (dec_le j k)
  where
    pick : Dec (j ≤ k) → j ≤ k
    pick (yes l) = l
    pick (no l) =
        let larger : suc k ≤ j = omega arith in
        let d : 4 ^ suc k ∣ i * 4 ^ k = (dvd-add_iff_right (4 ^ suc k) whole).1 (dvd_trans (4 ^ suc k) (pow4_divides larger) h) in
        let m : 4 ^ suc k ≤ i * 4 ^ k = le_of_dvd (mul-pos pos (pow4_pos k)) d in
        absurd (omega (arith, mul-lt-mul_of_pos_right small (pow4_pos k)))

-- A list of which the front is the blocks of a square of level l at the code c, and the rest covers what follows.
pub record Parsed (l n c : ℕ) (bs : List Block) : Type 0 where
  pub tree : Tree l
  pub rest : List Block
  pub cut : bs ≡ flat l c tree ++ rest
  pub covers : Covers n (c + 4 ^ l) rest

-- The first block, where there is one, is no larger than level l.
unfoldable pub Head : ℕ → List Block → Type 0
Head l [] = Unit {0}
Head l (b ∷ bs) = b.level ≤ l

head_of : (k c i p n : ℕ) (bs : List Block) → 4 ^ suc k ∣ c → 0 < i → i < 4 → p ≡ c + i * 4 ^ k → Covers n p bs → Head k bs
unfolding Covers Head
head_of k c i p n [] whole pos small e f = tt
head_of k c i p n (b ∷ bs) whole pos small e f =
    odd_quarter k c i b.level whole pos small (subst (λ x. 4 ^ b.level ∣ x) (f.1 ∙ e) (dvd_of_mod-eq-zero (4 ^ b.level) f.3))

leaf_of : (l n c : ℕ) (b : Block) (bs : List Block) → Covers n c (b ∷ bs) → b.level ≡ l → Parsed l n c (b ∷ bs)
unfolding Covers flat
leaf_of l n c b bs f e = record {
  tree = leaf b.colour;
  rest = bs;
  cut = λ i. record { code = f.1 i; level = e i; colour = b.colour } ∷ bs;
  covers = subst (λ x. Covers n (c + 4 ^ x) bs) e f.4;
}

abbrev Parser : ℕ → ℕ → Type 0
Parser l n = (c : ℕ) (bs : List Block) → Covers n c bs → 4 ^ l ∣ c → c + 4 ^ l ≤ 4 ^ n → Head l bs → Parsed l n c bs

module _ (k n c : ℕ) (bs : List Block) (again : Parser k n) (d : 4 ^ suc k ∣ c) (r : c + 4 ^ suc k ≤ 4 ^ n) where
  whole_divides : 4 ^ k ∣ c
  whole_divides = dvd_trans (4 ^ k) (pow4_divides (omega arith)) d

  -- The quarter number i, at p.
  quarter : (i p : ℕ) (xs : List Block) → 0 < i → i < 4 → p ≡ c + i * 4 ^ k → p + 4 ^ k ≤ 4 ^ n → Covers n p xs → Parsed k n p xs
  quarter i p xs pos small e room f =
      again p xs f (subst (λ x. 4 ^ k ∣ x) (sym e) (dvd-add (4 ^ k) whole_divides (dvd-mul_left (4 ^ k) i))) room (head_of k c i p n xs d pos small e f)

  join : (p1 : Parsed k n c bs) (p2 : Parsed k n (c + 4 ^ k) p1.rest) (p3 : Parsed k n (c + 4 ^ k + 4 ^ k) p2.rest)
      (p4 : Parsed k n (c + 4 ^ k + 4 ^ k + 4 ^ k) p3.rest) → Parsed (suc k) n c bs
  unfolding flat
  join p1 p2 p3 p4 = record {
    tree = node p1.tree p2.tree p3.tree p4.tree;
    rest = p4.rest;
    cut =
        p1.cut
        ∙ ap (λ x. flat k c p1.tree ++ x)
        (p2.cut
        ∙ ap (λ x. flat k (c + 4 ^ k) p2.tree ++ x) (p3.cut ∙ ap (λ x. flat k (c + 4 ^ k + 4 ^ k) p3.tree ++ x) p4.cut))
        ∙ simp append_assoc;
    covers = subst (λ x. Covers n x p4.rest) (omega arith) p4.covers;
  }

  third : (p1 : Parsed k n c bs) (p2 : Parsed k n (c + 4 ^ k) p1.rest) (p3 : Parsed k n (c + 4 ^ k + 4 ^ k) p2.rest) → Parsed (suc k) n c bs
  third p1 p2 p3 = join p1 p2 p3 (quarter 3 (c + 4 ^ k + 4 ^ k + 4 ^ k) p3.rest (omega arith) (omega arith) (omega arith) (omega arith) p3.covers)

  second : (p1 : Parsed k n c bs) (p2 : Parsed k n (c + 4 ^ k) p1.rest) → Parsed (suc k) n c bs
  second p1 p2 = third p1 p2 (quarter 2 (c + 4 ^ k + 4 ^ k) p2.rest (omega arith) (omega arith) (omega arith) (omega arith) p2.covers)

  after_first : (p1 : Parsed k n c bs) → Parsed (suc k) n c bs
  after_first p1 = second p1 (quarter 1 (c + 4 ^ k) p1.rest (omega arith) (omega arith) (omega arith) (omega arith) p1.covers)

  four_of : Covers n c bs → Head k bs → Parsed (suc k) n c bs
  four_of f h = after_first (again c bs f whole_divides (omega arith) h)

-- The square of level l at c that a covering list begins with.
pub parse : (l n : ℕ) → Parser l n
unfolding Covers Head
parse zero n c [] f d r h = absurd (omega (arith, pow4_pos 0))
parse zero n c (b ∷ bs) f d r h = leaf_of 0 n c b bs f (omega arith)
parse (suc k) n c [] f d r h = absurd (omega (arith, pow4_pos (suc k)))
parse (suc k) n c (b ∷ bs) f d r h = pick (parse k n) (eq-or-lt_of_le h)
  where
    pick : Parser k n → (b.level ≡ suc k) ⊎ (b.level < suc k) → Parsed (suc k) n c (b ∷ bs)
    pick again (inl e) = leaf_of (suc k) n c b bs f e
    pick again (inr l) = four_of k n c (b ∷ bs) again d r f (le_of_suc-le-suc l)

head-top : (n c : ℕ) (bs : List Block) → Covers n c bs → Head n bs
unfolding Covers Head
head-top n c [] f = tt
head-top n c (b ∷ bs) f = f.0

-- Nothing follows once the image is full.
pub covers_full : (n c : ℕ) (bs : List Block) → 4 ^ n ≤ c → Covers n c bs → bs ≡ []
unfolding Covers
covers_full n c [] h f = refl
covers_full n c (b ∷ bs) h f = absurd (omega arith)

-- A covering list is a tree's.
pub tree_of_covering : (n : ℕ) (bs : List Block) → Covers n 0 bs → (t : Tree n) × (bs ≡ flat n 0 t)
tree_of_covering n bs f = done (parse n n 0 bs f (dvd-zero (4 ^ n)) (omega arith) (head-top n 0 bs f))
  where
    done : Parsed n n 0 bs → (t : Tree n) × (bs ≡ flat n 0 t)
    done p = (
      p.tree,
      p.cut
          ∙ ap (λ x. flat n 0 p.tree ++ x) (covers_full n (0 + 4 ^ n) p.rest (omega arith) p.covers)
          ∙ append-nil (flat n 0 p.tree),
    )

-- A tree's list covers, with what covers the rest after it.
pub covers_flat : (n m c : ℕ) (t : Tree m) (rest : List Block) → m ≤ n → 4 ^ m ∣ c → c + 4 ^ m ≤ 4 ^ n → Covers n (c + 4 ^ m) rest → Covers n c (flat m c t ++ rest)
unfolding Covers flat
covers_flat n m c (leaf v) rest low d room f = (low, refl, omega (arith, pow4_pos m), mod-eq-zero_of_dvd (4 ^ m) d, f)
covers_flat n (suc m) c (node p q r s) rest low d room f =
    let ds = quarters_divide m c d in
    let S : List Block = flat m (c + 4 ^ m + 4 ^ m + 4 ^ m) s in
    let R : List Block = flat m (c + 4 ^ m + 4 ^ m) r in
    let Q : List Block = flat m (c + 4 ^ m) q in
    let sum : c + 4 ^ suc m ≡ c + 4 ^ m + 4 ^ m + 4 ^ m + 4 ^ m = omega arith in
    let f4 : Covers n (c + 4 ^ m + 4 ^ m + 4 ^ m + 4 ^ m) rest = subst (λ x. Covers n x rest) sum f in
    let f3 : Covers n (c + 4 ^ m + 4 ^ m + 4 ^ m) (S ++ rest) = covers_flat n m (c + 4 ^ m + 4 ^ m + 4 ^ m) s rest (omega arith) ds.3 (omega arith) f4 in
    let f2 : Covers n (c + 4 ^ m + 4 ^ m) (R ++ (S ++ rest)) = covers_flat n m (c + 4 ^ m + 4 ^ m) r (S ++ rest) (omega arith) ds.2 (omega arith) f3 in
    let f1 : Covers n (c + 4 ^ m) (Q ++ (R ++ (S ++ rest))) = covers_flat n m (c + 4 ^ m) q (R ++ (S ++ rest)) (omega arith) ds.1 (omega arith) f2 in
    let f0 : Covers n c (flat m c p ++ (Q ++ (R ++ (S ++ rest)))) = covers_flat n m c p (Q ++ (R ++ (S ++ rest))) (omega arith) ds.0 (omega arith) f1 in
    let same : (flat m c p ++ (Q ++ (R ++ S))) ++ rest ≡ flat m c p ++ (Q ++ (R ++ (S ++ rest))) = simp append_assoc in
    subst (λ x. Covers n c x) (sym same) f0

pub covering_of_tree : (n : ℕ) (t : Tree n) → Covers n 0 (flat n 0 t)
unfolding Covers
covering_of_tree n t =
    subst (λ x. Covers n 0 x) (append-nil (flat n 0 t))
    (covers_flat n n 0 t [] (omega arith) (dvd-zero (4 ^ n)) (omega arith) (omega arith))
