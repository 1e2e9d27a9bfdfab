-- The pairs of blocks that the walk joins: each block with its north and its west neighbours of its colour.
use Rattle.std.specs.Prelude.{◌≡◌, ◌⊎◌, ◌≢◌, true, false, ℕ, zero, suc, ◌+◌, ◌-◌, ◌^◌, ◌≤◌, ◌<◌, get_or, eqb}
use Rattle.std.proofs.Math.Path.{refl}
use Rattle.std.proofs.Common.{sym, ap, ◌∙◌, inl, inr, eq-or-lt_of_le, arith, eq-eqb, ne_eqb}
use mathlib.Core.List.Memᴰ
use mathlib.Core.List.{List, [], ◌∷◌, Memᴰ}
use Rattle.std.proofs.Math.Decide.{ℕ_discrete}
use Rattle.interleaving.specs.Codes.{code, column, row}
use Rattle.quadtree.specs.Blocks.{Block, blocks}
use Rattle.quadtree.specs.Fields.{colours}
use Rattle.staircase.specs.Staircase.{done}
use Rattle.staircase.specs.Rows.{count_true}
use Rattle.unions.specs.Pairs.{Pair, pair_of}
use Rattle.unions.specs.Joining.{onto, onto_old, onto_new, onto_cases}
use Rattle.components.specs.Holders.{block_at}
use Rattle.components.specs.LastBlocks.{last_in_column, last_in_row}

-- The pairs of the block k with each of the blocks that s entries from x on name, where both have one colour. All of the entries are
-- asked, in rising order.
unfoldable pub span_pairs : (ℕ → ℕ) → List ℕ → ℕ → ℕ → ℕ → List Pair
span_pairs entry ks k x zero = []
span_pairs entry ks k x (suc s) =
    elim (eqb (get_or ks (entry x) 0) (get_or ks k 0)) [
      | true ↦ pair_of (entry x) k ∷ span_pairs entry ks k (suc x) s
      | false ↦ span_pairs entry ks k (suc x) s
    ]

-- Of the blocks 0 and 1 the first has the colour of block 2.
like_coloured_only : span_pairs (λ x. x) (5 ∷ 6 ∷ 5 ∷ []) 2 0 2 ≡ pair_of 0 2 ∷ []
unfolding span_pairs
like_coloured_only = refl

-- No pairs where a block begins in the first row, or in the first column: nothing of the image lies beyond.
unfoldable pub unless_first : ℕ → List Pair → List Pair
unless_first zero es = []
unless_first (suc z) es = es

-- With the blocks north of it: the last ones in its columns.
unfoldable pub north_pairs : ℕ → List Block → ℕ → List Pair
unfolding unless_first span_pairs last_in_column column row
north_pairs n bs k =
    let b = block_at bs k in
    unless_first (row n b.code) (span_pairs (last_in_column n bs k) (colours bs) k (column n b.code) (2 ^ b.level))

-- Of the blocks 2 and 3 north of block 5 only the second has its colour: "a large block has many" neighbours (document 01, "Traps in
-- this trade").
all_neighbours_asked : north_pairs 2 (blocks (0 ∷ 1 ∷ 2 ∷ 3 ∷ 4 ∷ 8 ∷ 12 ∷ []) (0 ∷ 0 ∷ 0 ∷ 0 ∷ 1 ∷ 1 ∷ 1 ∷ []) (1 ∷ 1 ∷ 2 ∷ 1 ∷ 1 ∷ 1 ∷ 3 ∷ [])) 5 ≡ pair_of 3 5 ∷ []
unfolding north_pairs blocks count_true done
all_neighbours_asked = refl

-- With the blocks west of it: the last ones in its rows.
unfoldable pub west_pairs : ℕ → List Block → ℕ → List Pair
unfolding unless_first span_pairs last_in_row column row
west_pairs n bs k =
    let b = block_at bs k in
    unless_first (column n b.code) (span_pairs (last_in_row n bs k) (colours bs) k (row n b.code) (2 ^ b.level))

-- All pairs joined by the first k blocks, the latest in front.
unfoldable pub block_pairs : ℕ → List Block → ℕ → List Pair
unfolding onto north_pairs west_pairs
block_pairs n bs zero = []
block_pairs n bs (suc k) = onto (west_pairs n bs k) (onto (north_pairs n bs k) (block_pairs n bs k))

-- ---- the pairs of a span

pub span_yes : (entry : ℕ → ℕ) (ks : List ℕ) (k x s : ℕ) → get_or ks (entry x) 0 ≡ get_or ks k 0
    → span_pairs entry ks k x (suc s) ≡ pair_of (entry x) k ∷ span_pairs entry ks k (suc x) s
unfolding span_pairs
span_yes entry ks k x s h = rw (eq-eqb (get_or ks (entry x) 0) (get_or ks k 0) h, span_pairs)

pub span_no : (entry : ℕ → ℕ) (ks : List ℕ) (k x s : ℕ) → get_or ks (entry x) 0 ≢ get_or ks k 0
    → span_pairs entry ks k x (suc s) ≡ span_pairs entry ks k (suc x) s
unfolding span_pairs
span_no entry ks k x s h = rw (ne_eqb (get_or ks (entry x) 0) (get_or ks k 0) h, span_pairs)

pub span_none : (entry : ℕ → ℕ) (ks : List ℕ) (k x : ℕ) → span_pairs entry ks k x 0 ≡ []
unfolding span_pairs
span_none entry ks k x = refl

-- Entries that agree along a span give the same pairs.
pub span_same : (entry other : ℕ → ℕ) (ks : List ℕ) (k x y s : ℕ) → ((t : ℕ) → t < s → entry (x + t) ≡ other (y + t))
    → span_pairs entry ks k x s ≡ span_pairs other ks k y s
span_same entry other ks k x y zero h = span_none entry ks k x ∙ sym (span_none other ks k y)
span_same entry other ks k x y (suc s) h = pick (span_same entry other ks k (suc x) (suc y) s next) (ℕ_discrete (get_or ks (entry x) 0) (get_or ks k 0))
  where
    next : (t : ℕ) → t < s → entry (suc x + t) ≡ other (suc y + t)
    next t l =
        let a : suc x + t ≡ x + suc t = omega arith in
        let b : suc y + t ≡ y + suc t = omega arith in
        ap entry a ∙ h (suc t) (omega arith) ∙ ap other (sym b)

    here : entry x ≡ other y
    here =
        let a : x ≡ x + 0 = omega arith in
        let b : y ≡ y + 0 = omega arith in
        ap entry a ∙ h 0 (omega arith) ∙ ap other (sym b)

    pick : span_pairs entry ks k (suc x) s ≡ span_pairs other ks k (suc y) s → Dec (get_or ks (entry x) 0 ≡ get_or ks k 0)
        → span_pairs entry ks k x (suc s) ≡ span_pairs other ks k y (suc s)
    pick ih (yes e) =
        span_yes entry ks k x s e ∙ rw (ih, here) refl ∙ sym (span_yes other ks k y s (ap (λ (b : ℕ). get_or ks b 0) (sym here) ∙ e))
    pick ih (no f) =
        span_no entry ks k x s f ∙ ih ∙ sym (span_no other ks k y s (λ e. f (ap (λ (b : ℕ). get_or ks b 0) here ∙ e)))

-- A pair of a span: the entry at some place of it, of the block's colour.
pub record OfSpan (entry : ℕ → ℕ) (ks : List ℕ) (k x s : ℕ) (e : Pair) : Type 0 where
  pub at : ℕ
  pub from : x ≤ at
  pub before : at < x + s
  pub one : e.one ≡ entry at
  pub two : e.two ≡ k
  pub alike : get_or ks (entry at) 0 ≡ get_or ks k 0

pub span_pair : (entry : ℕ → ℕ) (ks : List ℕ) (k x s : ℕ) (e : Pair) → Memᴰ e (span_pairs entry ks k x s) → OfSpan entry ks k x s e
span_pair entry ks k x zero e m = absurd (Memᴰ.not-nil (rw (span_none entry ks k x) at m))
span_pair entry ks k x (suc s) e m = pick (span_pair entry ks k (suc x) s e) (ℕ_discrete (get_or ks (entry x) 0) (get_or ks k 0))
  where
    later : OfSpan entry ks k (suc x) s e → OfSpan entry ks k x (suc s) e
    later o = record { at = o.at; from = omega (arith, o.from); before = omega (arith, o.before); one = o.one; two = o.two; alike = o.alike }

    head : (Memᴰ e (span_pairs entry ks k (suc x) s) → OfSpan entry ks k (suc x) s e) → get_or ks (entry x) 0 ≡ get_or ks k 0
        → (e ≡ pair_of (entry x) k) ⊎ Memᴰ e (span_pairs entry ks k (suc x) s) → OfSpan entry ks k x (suc s) e
    head ih h (inl q) = record {
      at = x;
      from = omega arith;
      before = omega arith;
      one = ap (λ (p : Pair). p.one) q;
      two = ap (λ (p : Pair). p.two) q;
      alike = h;
    }
    head ih h (inr n) = later (ih n)

    pick : (Memᴰ e (span_pairs entry ks k (suc x) s) → OfSpan entry ks k (suc x) s e) → Dec (get_or ks (entry x) 0 ≡ get_or ks k 0)
        → OfSpan entry ks k x (suc s) e
    pick ih (yes h) = head ih h (Memᴰ.cases_cons (rw (span_yes entry ks k x s h) at m))
    pick ih (no f) = later (ih (rw (span_no entry ks k x s f) at m))

pub span-listed : (entry : ℕ → ℕ) (ks : List ℕ) (k x s at : ℕ) → x ≤ at → at < x + s → get_or ks (entry at) 0 ≡ get_or ks k 0
    → Memᴰ (pair_of (entry at) k) (span_pairs entry ks k x s)
span-listed entry ks k x zero at a b h = absurd (omega arith)
span-listed entry ks k x (suc s) at a b h =
    pick (ℕ_discrete at x) (ℕ_discrete (get_or ks (entry x) 0) (get_or ks k 0)) (span-listed entry ks k (suc x) s at)
  where
    pick : Dec (at ≡ x) → Dec (get_or ks (entry x) 0 ≡ get_or ks k 0)
        → (suc x ≤ at → at < suc x + s → get_or ks (entry at) 0 ≡ get_or ks k 0 → Memᴰ (pair_of (entry at) k) (span_pairs entry ks k (suc x) s))
        → Memᴰ (pair_of (entry at) k) (span_pairs entry ks k x (suc s))
    pick (yes e) (yes q) ih = rw (span_yes entry ks k x s q) (Memᴰ.head (ap (λ (z : ℕ). pair_of (entry z) k) e))
    pick (yes e) (no f) ih = absurd (f (rw e at h))
    pick (no d) (yes q) ih = rw (span_yes entry ks k x s q) (Memᴰ.tail (ih (omega arith) (omega arith) h))
    pick (no d) (no f) ih = rw (span_no entry ks k x s f) (ih (omega arith) (omega arith) h)

-- ---- the pairs of a block, as equations

pub pairs_at_edge : (z : ℕ) (es : List Pair) → z ≡ 0 → unless_first z es ≡ []
unfolding unless_first
pairs_at_edge zero es h = refl
pairs_at_edge (suc z) es h = absurd (omega arith)

pub pairs_inside : (z : ℕ) (es : List Pair) → 0 < z → unless_first z es ≡ es
unfolding unless_first
pairs_inside zero es h = absurd (omega arith)
pairs_inside (suc z) es h = refl

module _ (n : ℕ) (bs : List Block) (k : ℕ) where
  pub north_pairs_lem : 0 < row n (block_at bs k).code
      → north_pairs n bs k ≡ span_pairs (last_in_column n bs k) (colours bs) k (column n (block_at bs k).code) (2 ^ (block_at bs k).level)
  unfolding north_pairs
  north_pairs_lem h = pairs_inside (row n (block_at bs k).code) _ h

  pub no_north_pairs : row n (block_at bs k).code ≡ 0 → north_pairs n bs k ≡ []
  unfolding north_pairs
  no_north_pairs h = pairs_at_edge (row n (block_at bs k).code) _ h

  pub west_pairs_lem : 0 < column n (block_at bs k).code
      → west_pairs n bs k ≡ span_pairs (last_in_row n bs k) (colours bs) k (row n (block_at bs k).code) (2 ^ (block_at bs k).level)
  unfolding west_pairs
  west_pairs_lem h = pairs_inside (column n (block_at bs k).code) _ h

  pub no_west_pairs : column n (block_at bs k).code ≡ 0 → west_pairs n bs k ≡ []
  unfolding west_pairs
  no_west_pairs h = pairs_at_edge (column n (block_at bs k).code) _ h

  pub pairs_one_more : block_pairs n bs (suc k) ≡ onto (west_pairs n bs k) (onto (north_pairs n bs k) (block_pairs n bs k))
  unfolding block_pairs
  pairs_one_more = refl

pub no_pairs : (n : ℕ) (bs : List Block) → block_pairs n bs 0 ≡ []
unfolding block_pairs
no_pairs n bs = refl

-- The pairs of a block stay among those of later blocks.
older_pairs : (n : ℕ) (bs : List Block) (k : ℕ) (e : Pair) → Memᴰ e (block_pairs n bs k) → Memᴰ e (block_pairs n bs (suc k))
older_pairs n bs k e m =
    rw (pairs_one_more n bs k) (onto_old (west_pairs n bs k) (onto (north_pairs n bs k) (block_pairs n bs k)) e (onto_old (north_pairs n bs k) (block_pairs n bs k) e m))

pairs_of_later : (n : ℕ) (bs : List Block) (i k : ℕ) (e : Pair) → i ≤ k → Memᴰ e (block_pairs n bs i) → Memᴰ e (block_pairs n bs k)
pairs_of_later n bs i zero e h m = let z : i ≡ 0 = omega arith in rw z at m
pairs_of_later n bs i (suc k) e h m = pick (eq-or-lt_of_le h) (pairs_of_later n bs i k e)
  where
    pick : (i ≡ suc k) ⊎ (i < suc k) → (i ≤ k → Memᴰ e (block_pairs n bs i) → Memᴰ e (block_pairs n bs k)) → Memᴰ e (block_pairs n bs (suc k))
    pick (inl q) ih = rw q at m
    pick (inr l) ih = older_pairs n bs k e (ih (omega arith) m)

pub north_among : (n : ℕ) (bs : List Block) (i k : ℕ) (e : Pair) → i < k → Memᴰ e (north_pairs n bs i) → Memᴰ e (block_pairs n bs k)
north_among n bs i k e l m =
    pairs_of_later n bs (suc i) k e l
    (rw (pairs_one_more n bs i) (onto_old (west_pairs n bs i) (onto (north_pairs n bs i) (block_pairs n bs i)) e (onto_new (north_pairs n bs i) (block_pairs n bs i) e m)))

pub west_among : (n : ℕ) (bs : List Block) (i k : ℕ) (e : Pair) → i < k → Memᴰ e (west_pairs n bs i) → Memᴰ e (block_pairs n bs k)
west_among n bs i k e l m =
    pairs_of_later n bs (suc i) k e l (rw (pairs_one_more n bs i) (onto_new (west_pairs n bs i) (onto (north_pairs n bs i) (block_pairs n bs i)) e m))

pub newest_pairs : (n : ℕ) (bs : List Block) (k : ℕ) (e : Pair) → Memᴰ e (block_pairs n bs (suc k))
    → Memᴰ e (west_pairs n bs k) ⊎ (Memᴰ e (north_pairs n bs k) ⊎ Memᴰ e (block_pairs n bs k))
newest_pairs n bs k e m = pick (onto_cases (west_pairs n bs k) (onto (north_pairs n bs k) (block_pairs n bs k)) e (rw (pairs_one_more n bs k) at m))
  where
    pick : Memᴰ e (west_pairs n bs k) ⊎ Memᴰ e (onto (north_pairs n bs k) (block_pairs n bs k))
        → Memᴰ e (west_pairs n bs k) ⊎ (Memᴰ e (north_pairs n bs k) ⊎ Memᴰ e (block_pairs n bs k))
    pick (inl w) = inl w
    pick (inr o) = inr (onto_cases (north_pairs n bs k) (block_pairs n bs k) e o)
