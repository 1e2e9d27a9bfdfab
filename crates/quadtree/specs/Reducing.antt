-- A tree is reduced exactly where cause 7 does not apply, and then no four sibling blocks of its list share a colour.
use Rattle.std.specs.Prelude.{◌≡◌, refl, ◌⊎◌, true, false, ℕ, suc, ◌+◌, ◌-◌, ◌*◌, ◌^◌, ◌≤◌, ◌<◌}
use Rattle.std.proofs.Common.{sym, ap, ◌∙◌, inl, inr, ⊎_elim, true≢false, eq-or-lt_of_le, le_of_suc-le-suc, arith}
use mathlib.Core.List.Memᴰ
use mathlib.Core.List.{List, [], ◌++◌, Memᴰ}
use Rattle.std.specs.Int.{◌∣◌}
use Rattle.std.proofs.Math.Nat.{dvd_trans, dvd-add, dvd-sub, le_of_dvd, mod-eq-zero_of_dvd}
use Rattle.sequences.specs.Powers.{pow4_pos, pow4_divides}
use Rattle.quadtree.specs.Blocks.{Block}
use Rattle.quadtree.specs.Number.{siblings}
use Rattle.quadtree.specs.Painting.{block}
use Rattle.quadtree.specs.Siblings.{siblings-here, facts_mergeable, none_left, none_right}
use Rattle.quadtree.specs.Trees.{Tree, leaf, node, flat, Reduced, flat_leaf, flat_node, quarters_divide}

-- ---- where cause 7 does not apply, the tree is reduced

-- Four leaves of one colour below n are four blocks that could be one.
four_leaves : (n m c v : ℕ) (p q r s : Tree m) → m < n → 4 ^ suc m ∣ c → p ≡ leaf v → q ≡ leaf v → r ≡ leaf v → s ≡ leaf v
    → siblings n (flat (suc m) c (node p q r s)) ≡ true
unfolding flat
four_leaves n m c v p q r s below d ep eq er es =
    rw (ep, eq, er, es)
    (siblings-here n (block c m v) (block (c + 4 ^ m) m v) (block (c + 4 ^ m + 4 ^ m) m v) (block (c + 4 ^ m + 4 ^ m + 4 ^ m) m v) []
    (facts_mergeable n (block c m v) (block (c + 4 ^ m) m v) (block (c + 4 ^ m + 4 ^ m) m v) (block (c + 4 ^ m + 4 ^ m + 4 ^ m) m v)
    (record {
      below = below;
      multiple = mod-eq-zero_of_dvd (4 ^ suc m) d;
      level_b = refl;
      level_c = refl;
      level_d = refl;
      colour_b = refl;
      colour_c = refl;
      colour_d = refl;
    })))

pub none_reduced : (n m c : ℕ) (t : Tree m) → m ≤ n → 4 ^ m ∣ c → siblings n (flat m c t) ≡ false → Reduced m t
unfolding Reduced
none_reduced n m c (leaf v) low d h = tt
none_reduced n (suc m) c (node p q r s) low d h =
    let P : List Block = flat m c p in
    let Q : List Block = flat m (c + 4 ^ m) q in
    let R : List Block = flat m (c + 4 ^ m + 4 ^ m) r in
    let S : List Block = flat m (c + 4 ^ m + 4 ^ m + 4 ^ m) s in
    let ds = quarters_divide m c d in
    let h0 : siblings n (P ++ (Q ++ (R ++ S))) ≡ false = rw (flat_node m c p q r s) at h in
    let h1 : siblings n (Q ++ (R ++ S)) ≡ false = none_right n P (Q ++ (R ++ S)) h0 in
    let h2 : siblings n (R ++ S) ≡ false = none_right n Q (R ++ S) h1 in (
      λ v ep eq er es. true≢false (sym (four_leaves n m c v p q r s (omega arith) d ep eq er es) ∙ h),
      none_reduced n m c p (omega arith) ds.0 (none_left n P (Q ++ (R ++ S)) h0),
      none_reduced n m (c + 4 ^ m) q (omega arith) ds.1 (none_left n Q (R ++ S) h1),
      none_reduced n m (c + 4 ^ m + 4 ^ m) r (omega arith) ds.2 (none_left n R S h2),
      none_reduced n m (c + 4 ^ m + 4 ^ m + 4 ^ m) s (omega arith) ds.3 (none_right n R S h2),
    )

-- ---- where the tree is reduced, no four siblings share a colour

-- Four sibling blocks of level l at the code q, all of the colour v, anywhere in the list.
pub record SiblingBlocks (bs : List Block) (l q v : ℕ) : Type 0 where
  pub northwest : Memᴰ (block q l v) bs
  pub northeast : Memᴰ (block (q + 4 ^ l) l v) bs
  pub southwest : Memᴰ (block (q + 2 * 4 ^ l) l v) bs
  pub southeast : Memᴰ (block (q + 3 * 4 ^ l) l v) bs

-- A block of a square's list lies in the square.
pub record InSquare (m c : ℕ) (b : Block) : Type 0 where
  pub starts : c ≤ b.code
  pub ends : b.code + 4 ^ b.level ≤ c + 4 ^ m
  pub low : b.level ≤ m

-- In which of the four quarters a block of a square's list stands.
quarter_cases : {X : Type 0} (b : Block) (P Q R S : List Block) → (Memᴰ b P → X) → (Memᴰ b Q → X) → (Memᴰ b R → X) → (Memᴰ b S → X)
    → Memᴰ b (P ++ (Q ++ (R ++ S))) → X
quarter_cases b P Q R S f g h k i =
    ⊎_elim f (λ j. ⊎_elim g (λ e. ⊎_elim h k (Memᴰ.append_cases R e)) (Memᴰ.append_cases Q j)) (Memᴰ.append_cases P i)

widen : {m c d : ℕ} {b : Block} → c ≤ d → d + 4 ^ m ≤ c + 4 ^ suc m → InSquare m d b → InSquare (suc m) c b
widen low high i = record { starts = omega arith; ends = omega arith; low = omega arith }

pub flat-inside : (m c : ℕ) (t : Tree m) (b : Block) → Memᴰ b (flat m c t) → InSquare m c b
unfolding flat
flat-inside m c (leaf v) b i =
    let e : b ≡ block c m v = Memᴰ.eq_of_singleton i in
    let code : b.code ≡ c = ap (λ (x : Block). x.code) e in
    let level : b.level ≡ m = ap (λ (x : Block). x.level) e in
    let size : 4 ^ b.level ≡ 4 ^ m = ap (λ (l : ℕ). 4 ^ l) level in
    record { starts = omega arith; ends = omega arith; low = omega arith }
flat-inside (suc m) c (node p q r s) b i =
    quarter_cases b (flat m c p) (flat m (c + 4 ^ m) q) (flat m (c + 4 ^ m + 4 ^ m) r) (flat m (c + 4 ^ m + 4 ^ m + 4 ^ m) s)
    (λ j. widen (omega arith) (omega arith) (flat-inside m c p b j))
    (λ j. widen (omega arith) (omega arith) (flat-inside m (c + 4 ^ m) q b j))
    (λ j. widen (omega arith) (omega arith) (flat-inside m (c + 4 ^ m + 4 ^ m) r b j))
    (λ j. widen (omega arith) (omega arith) (flat-inside m (c + 4 ^ m + 4 ^ m + 4 ^ m) s b j))
    i

-- A block of no higher level than a square does not begin in one square of that level and stand in the list of another.
elsewhere : {X : Type 0} (m d : ℕ) (t : Tree m) (b : Block) → (b.code < d) ⊎ (d + 4 ^ m ≤ b.code) → Memᴰ b (flat m d t) → X
elsewhere m d t b (inl h) j = absurd (omega (arith, (flat-inside m d t b j).starts))
elsewhere m d t b (inr h) j = absurd (omega (arith, (flat-inside m d t b j).ends, pow4_pos b.level))

module _ (m c : ℕ) (p q r s : Tree m) where
  abbrev Listed : Block → Type 0
  Listed b = Memᴰ b (flat (suc m) c (node p q r s))

  cases : {X : Type 0} (b : Block) → (Memᴰ b (flat m c p) → X) → (Memᴰ b (flat m (c + 4 ^ m) q) → X) → (Memᴰ b (flat m (c + 4 ^ m + 4 ^ m) r) → X)
      → (Memᴰ b (flat m (c + 4 ^ m + 4 ^ m + 4 ^ m) s) → X) → Listed b → X
  unfolding flat
  cases b f g h k i =
      quarter_cases b (flat m c p) (flat m (c + 4 ^ m) q) (flat m (c + 4 ^ m + 4 ^ m) r) (flat m (c + 4 ^ m + 4 ^ m + 4 ^ m) s) f g h k i

  node_low : (b : Block) → Listed b → b.level ≤ m
  node_low b i =
      cases b (λ j. (flat-inside m c p b j).low) (λ j. (flat-inside m (c + 4 ^ m) q b j).low) (λ j. (flat-inside m (c + 4 ^ m + 4 ^ m) r b j).low)
      (λ j. (flat-inside m (c + 4 ^ m + 4 ^ m + 4 ^ m) s b j).low) i

  -- The square t at the code d is a quarter: a block of the list that begins in it stands in its list.
  abbrev Quarter : ℕ → Tree m → Type 0
  Quarter d t = (b : Block) → d ≤ b.code → b.code < d + 4 ^ m → Listed b → Memᴰ b (flat m d t)

  northwest : Quarter c p
  northwest b low high i =
      cases b (λ j. j) (elsewhere m (c + 4 ^ m) q b (inl (omega arith))) (elsewhere m (c + 4 ^ m + 4 ^ m) r b (inl (omega arith)))
      (elsewhere m (c + 4 ^ m + 4 ^ m + 4 ^ m) s b (inl (omega arith))) i

  northeast : Quarter (c + 4 ^ m) q
  northeast b low high i =
      cases b (elsewhere m c p b (inr (omega arith))) (λ j. j) (elsewhere m (c + 4 ^ m + 4 ^ m) r b (inl (omega arith)))
      (elsewhere m (c + 4 ^ m + 4 ^ m + 4 ^ m) s b (inl (omega arith))) i

  southwest : Quarter (c + 4 ^ m + 4 ^ m) r
  southwest b low high i =
      cases b (elsewhere m c p b (inr (omega arith))) (elsewhere m (c + 4 ^ m) q b (inr (omega arith))) (λ j. j)
      (elsewhere m (c + 4 ^ m + 4 ^ m + 4 ^ m) s b (inl (omega arith))) i

  southeast : Quarter (c + 4 ^ m + 4 ^ m + 4 ^ m) s
  southeast b low high i =
      cases b (elsewhere m c p b (inr (omega arith))) (elsewhere m (c + 4 ^ m) q b (inr (omega arith)))
      (elsewhere m (c + 4 ^ m + 4 ^ m) r b (inr (omega arith))) (λ j. j) i

-- A block as large as the square is the square.
top_leaf : (m c : ℕ) (t : Tree m) (b : Block) → Memᴰ b (flat m c t) → b.level ≡ m → t ≡ leaf b.colour
unfolding flat
top_leaf m c (leaf v) b i e = ap leaf (sym (ap (λ (x : Block). x.colour) (Memᴰ.eq_of_singleton i)))
top_leaf (suc m) c (node p q r s) b i e = absurd (omega (arith, node_low m c p q r s b i))

-- Four siblings that begin in a square of a higher level lie in it.
siblings_fit : (m d l q : ℕ) → 4 ^ m ∣ d → l < m → 4 ^ suc l ∣ q → q < d + 4 ^ m → q + 4 ^ suc l ≤ d + 4 ^ m
siblings_fit m d l q dm below dq high =
    let w : 4 ^ suc l ∣ 4 ^ m = pow4_divides below in
    let whole : 4 ^ suc l ∣ d + 4 ^ m = dvd-add (4 ^ suc l) (dvd_trans (4 ^ suc l) w dm) w in
    let left : 0 < d + 4 ^ m - q = omega arith in
    omega (arith, le_of_dvd left (dvd-sub (4 ^ suc l) whole dq))

-- Siblings in the list of a square of level m + 1: they are its quarters, or all four lie in one quarter.
module _ (m c : ℕ) (p q r s : Tree m) (l k v : ℕ) (f : SiblingBlocks (flat (suc m) c (node p q r s)) l k v) where
  is_leaf : (d e : ℕ) (t : Tree m) → Quarter m c p q r s d t → l ≡ m → e ≡ d → Listed m c p q r s (block e l v) → t ≡ leaf v
  is_leaf d e t quarter same here i =
      top_leaf m d t (block e l v) (quarter (block e l v) (omega arith) (omega (arith, pow4_pos m)) i) same

  are_quarters : l ≡ m → (p ≡ leaf v) × (q ≡ leaf v) × (r ≡ leaf v) × (s ≡ leaf v)
  are_quarters e =
      let size : 4 ^ l ≡ 4 ^ m = ap (λ (x : ℕ). 4 ^ x) e in
      let first : c ≤ k = (flat-inside (suc m) c (node p q r s) (block k l v) f.northwest).starts in
      let last : k + 3 * 4 ^ l + 4 ^ l ≤ c + 4 ^ suc m = (flat-inside (suc m) c (node p q r s) (block (k + 3 * 4 ^ l) l v) f.southeast).ends in
      let here : k ≡ c = omega arith in (
        is_leaf c k p (northwest m c p q r s) e here f.northwest,
        is_leaf (c + 4 ^ m) (k + 4 ^ l) q (northeast m c p q r s) e (omega arith) f.northeast,
        is_leaf (c + 4 ^ m + 4 ^ m) (k + 2 * 4 ^ l) r (southwest m c p q r s) e (omega arith) f.southwest,
        is_leaf (c + 4 ^ m + 4 ^ m + 4 ^ m) (k + 3 * 4 ^ l) s (southeast m c p q r s) e (omega arith) f.southeast,
      )

  all_in : l < m → 4 ^ suc l ∣ k → (d : ℕ) (t : Tree m) → Quarter m c p q r s d t → 4 ^ m ∣ d → Memᴰ (block k l v) (flat m d t)
      → SiblingBlocks (flat m d t) l k v
  all_in below dk d t quarter dd j =
      let inside = flat-inside m d t (block k l v) j in
      let pos : 0 < 4 ^ l = pow4_pos l in
      let room : k + 4 ^ suc l ≤ d + 4 ^ m = siblings_fit m d l k dd below dk (omega (arith, inside.ends)) in
      let starts : d ≤ k = inside.starts in
      record {
        northwest = j;
        northeast = quarter (block (k + 4 ^ l) l v) (omega arith) (omega arith) f.northeast;
        southwest = quarter (block (k + 2 * 4 ^ l) l v) (omega arith) (omega arith) f.southwest;
        southeast = quarter (block (k + 3 * 4 ^ l) l v) (omega arith) (omega arith) f.southeast;
      }

-- In the list of a reduced square no four siblings share a colour.
abbrev UnmergedSquare : (m c : ℕ) → Tree m → Type 0
UnmergedSquare m c t = (l k v : ℕ) → l < m → 4 ^ suc l ∣ k → SiblingBlocks (flat m c t) l k v → ⊥

pub reduced_unmerged : (m c : ℕ) (t : Tree m) → Reduced m t → 4 ^ m ∣ c → UnmergedSquare m c t
unfolding Reduced
reduced_unmerged m c (leaf w) h d l k v below dk f =
    absurd (omega (arith, ap (λ (b : Block). b.level) (Memᴰ.eq_of_singleton (rw (flat_leaf m c w) at f.northwest))))
reduced_unmerged (suc m) c (node p q r s) h d l k v below dk f =
    pick (reduced_unmerged m c p h.1 ds.0) (reduced_unmerged m (c + 4 ^ m) q h.2 ds.1) (reduced_unmerged m (c + 4 ^ m + 4 ^ m) r h.3 ds.2)
    (reduced_unmerged m (c + 4 ^ m + 4 ^ m + 4 ^ m) s h.4 ds.3) (eq-or-lt_of_le (le_of_suc-le-suc below))
  where
    ds : (4 ^ m ∣ c) × (4 ^ m ∣ c + 4 ^ m) × (4 ^ m ∣ c + 4 ^ m + 4 ^ m) × (4 ^ m ∣ c + 4 ^ m + 4 ^ m + 4 ^ m)
    ds = quarters_divide m c d

    pick : UnmergedSquare m c p → UnmergedSquare m (c + 4 ^ m) q → UnmergedSquare m (c + 4 ^ m + 4 ^ m) r → UnmergedSquare m (c + 4 ^ m + 4 ^ m + 4 ^ m) s → (l ≡ m) ⊎ (l < m) → ⊥
    pick ip iq ir is (inl e) = let leaves = are_quarters m c p q r s l k v f e in h.0 v leaves.0 leaves.1 leaves.2 leaves.3
    pick ip iq ir is (inr less) =
        cases m c p q r s (block k l v)
        (λ j. ip l k v less dk (all_in m c p q r s l k v f less dk c p (northwest m c p q r s) ds.0 j))
        (λ j. iq l k v less dk (all_in m c p q r s l k v f less dk (c + 4 ^ m) q (northeast m c p q r s) ds.1 j))
        (λ j. ir l k v less dk (all_in m c p q r s l k v f less dk (c + 4 ^ m + 4 ^ m) r (southwest m c p q r s) ds.2 j))
        (λ j. is l k v less dk (all_in m c p q r s l k v f less dk (c + 4 ^ m + 4 ^ m + 4 ^ m) s (southeast m c p q r s) ds.3 j))
        f.northwest
