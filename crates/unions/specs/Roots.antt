-- A forest as a list of parents, none above its child: roots, and what joining two roots does to every root.
use Rattle.std.specs.Prelude.{◌≡◌, refl, ◌≢◌, ◌⊎◌, List, [], ◌∷◌, length, get_or, set}
use Rattle.std.proofs.Math.Path.{sym, ap, fun_ext}
use Rattle.std.proofs.Common.{◌∙◌, subst, inl, inr, le_refl, eq-or-lt_of_le, suc-add, zero-add}
use Prim.Native.Nat.{ℕ, zero, suc, ◌+◌, ◌-◌, ◌≤◌, ◌<◌, min, max}
use Rattle.std.proofs.Math.Decide.{ℕ_discrete, dec_lt}
use native.Mathlib.Omega.{arith}
use Rattle.std.proofs.Math.ListN.{get_or-eq_default}
use Rattle.std.proofs.Math.Seq.{get_or-set_same, get_or-set_other}
use Rattle.sequences.specs.Ranges.{range, length-range, range_at}
use Rattle.unions.specs.Pairs.{Pair}
use Rattle.unions.specs.Representatives.{merge, merge_at, merge_off, rep, join_at}

-- The parent of i. What lies past the list is its own parent.
unfoldable pub parent : List ℕ → ℕ → ℕ
parent p i = get_or p i i

-- No parent is above its child.
unfoldable pub Low : List ℕ → Type 0
unfolding parent
Low p = (i : ℕ) → parent p i ≤ i

-- k steps up from i, each to the parent.
unfoldable pub up : List ℕ → ℕ → ℕ → ℕ
unfolding parent
up p zero i = i
up p (suc k) i = parent p (up p k i)

-- The root of i: where no parent is above its child, i steps are enough.
unfoldable pub root : List ℕ → ℕ → ℕ
unfolding up
root p i = up p i i

-- What the code reads is the parent.
inside-list : (p : List ℕ) (i a b : ℕ) → i < length p → get_or p i a ≡ get_or p i b
inside-list [] i a b h = absurd (omega arith)
inside-list (x ∷ p) zero a b h = refl
inside-list (x ∷ p) (suc i) a b h = inside-list p i a b (omega arith)

pub read_parent : (p : List ℕ) (i : ℕ) → i < length p → get_or p i 0 ≡ parent p i
unfolding parent
read_parent p i h = inside-list p i 0 i h

pub parent-le : (p : List ℕ) → Low p → (i : ℕ) → parent p i ≤ i
unfolding Low
parent-le p low i = low i

pub low_of : (p : List ℕ) → ((i : ℕ) → parent p i ≤ i) → Low p
unfolding Low
low_of p h = h

-- It is enough to look at the places of the list.
pub low_inside : (p : List ℕ) → ((i : ℕ) → i < length p → get_or p i 0 ≤ i) → Low p
unfolding parent
low_inside p h = low_of p (λ i. pick i (dec_lt i (length p)))
  where
    pick : (i : ℕ) → Dec (i < length p) → parent p i ≤ i
    pick i (yes l) = omega (arith, read_parent p i l, h i l)
    pick i (no g) = omega (arith, get_or-eq_default p i {n = i} (omega arith))

up_out : (p : List ℕ) (k i : ℕ) → up p k (parent p i) ≡ parent p (up p k i)
unfolding up
up_out p zero i = refl
up_out p (suc k) i = ap (parent p) (up_out p k i)

up-add : (p : List ℕ) (j k i : ℕ) → up p (j + k) i ≡ up p j (up p k i)
unfolding up
up-add p zero k i = ap (λ (x : ℕ). up p x i) (zero-add k)
up-add p (suc j) k i = ap (λ (x : ℕ). up p x i) (suc-add j k) ∙ ap (parent p) (up-add p j k i)

up_stays : (p : List ℕ) (k i : ℕ) → parent p i ≡ i → up p k i ≡ i
unfolding up
up_stays p zero i h = refl
up_stays p (suc k) i h = ap (parent p) (up_stays p k i h) ∙ h

module _ (p : List ℕ) (low : Low p) where
  -- Induction from the roots down.
  module _ (Q : ℕ → Type 0) (top : (i : ℕ) → parent p i ≡ i → Q i) (down : (i : ℕ) → parent p i < i → Q (parent p i) → Q i) where
    climb_to : (k i : ℕ) → i ≤ k → Q i
    climb_to zero i h = top i (omega (arith, parent-le p low i))
    climb_to (suc k) i h = pick (λ l. climb_to k (parent p i) (omega arith)) (eq-or-lt_of_le (parent-le p low i))
      where
        pick : (parent p i < i → Q (parent p i)) → (parent p i ≡ i) ⊎ (parent p i < i) → Q i
        pick again (inl e) = top i e
        pick again (inr l) = down i l (again l)

    pub climb : (i : ℕ) → Q i
    climb i = climb_to i i (le_refl i)

  reaches : (k i : ℕ) → i ≤ k → parent p (up p k i) ≡ up p k i
  unfolding up
  reaches zero i h = omega (arith, parent-le p low i)
  reaches (suc k) i h = pick (λ l. reaches k (parent p i) (omega arith)) (eq-or-lt_of_le (parent-le p low i))
    where
      pick : (parent p i < i → parent p (up p k (parent p i)) ≡ up p k (parent p i)) → (parent p i ≡ i) ⊎ (parent p i < i)
          → parent p (up p (suc k) i) ≡ up p (suc k) i
      pick again (inl e) = let f : up p (suc k) i ≡ i = up_stays p (suc k) i e in ap (parent p) f ∙ e ∙ sym f
      pick again (inr l) = let f : up p k (parent p i) ≡ up p (suc k) i = up_out p k i in ap (parent p) (sym f) ∙ again l ∙ f

  -- A root is its own parent, and what is its own parent is its own root.
  pub root_is_top : (i : ℕ) → parent p (root p i) ≡ root p i
  unfolding root
  root_is_top i = reaches i i (le_refl i)

  pub root_of_top : (i : ℕ) → parent p i ≡ i → root p i ≡ i
  unfolding root
  root_of_top i h = up_stays p i i h

  enough : (k i : ℕ) → i ≤ k → up p k i ≡ root p i
  unfolding root
  enough k i h =
      let s : k ≡ (k - i) + i = omega arith in
      ap (λ (x : ℕ). up p x i) s ∙ up-add p (k - i) i i ∙ up_stays p (k - i) (up p i i) (reaches i i (le_refl i))

  pub root_of_parent : (i : ℕ) → root p (parent p i) ≡ root p i
  unfolding up
  root_of_parent i = sym (enough i (parent p i) (parent-le p low i)) ∙ up_out p i i ∙ enough (suc i) i (omega arith)

  pub root-le : (i : ℕ) → root p i ≤ i
  root-le = climb (λ i. root p i ≤ i) (λ i h. omega (arith, root_of_top i h)) (λ i l ih. omega (arith, root_of_parent i))

-- ---- before any join: each place is its own parent

pub range_low : (k : ℕ) → Low (range 0 k)
range_low k = low_inside (range 0 k) (λ i l. omega (arith, range_at 0 k i (omega (arith, length-range 0 k))))

range-parent : (k i : ℕ) → parent (range 0 k) i ≡ i
unfolding parent
range-parent k i = pick (dec_lt i k)
  where
    pick : Dec (i < k) → get_or (range 0 k) i i ≡ i
    pick (yes l) = inside-list (range 0 k) i i 0 (omega (arith, length-range 0 k)) ∙ range_at 0 k i l ∙ omega arith
    pick (no g) = get_or-eq_default (range 0 k) i {n = i} (omega (arith, length-range 0 k))

pub range_roots : (k : ℕ) → root (range 0 k) ≡ rep []
unfolding rep
range_roots k = fun_ext (λ i. root_of_top (range 0 k) (range_low k) i (range-parent k i))

-- ---- two roots joined, the larger under the smaller

module _ (p : List ℕ) (low : Low p) (a b : ℕ) (less : a < b) (inside : b < length p) (top_a : parent p a ≡ a) (top_b : parent p b ≡ b) where
  at_b : parent (set p b a) b ≡ a
  unfolding parent
  at_b = get_or-set_same p b a b inside

  off_b : (i : ℕ) → i ≢ b → parent (set p b a) i ≡ parent p i
  unfolding parent
  off_b i n = get_or-set_other p b i a i n

  pub low_joined : Low (set p b a)
  low_joined = low_of (set p b a) (λ i. pick i (ℕ_discrete i b))
    where
      pick : (i : ℕ) → Dec (i ≡ b) → parent (set p b a) i ≤ i
      pick i (yes e) = subst (λ x. parent (set p b a) x ≤ x) (sym e) (omega (arith, at_b))
      pick i (no n) = omega (arith, off_b i n, parent-le p low i)

  top_a_still : root (set p b a) a ≡ a
  top_a_still = root_of_top (set p b a) low_joined a (off_b a (omega arith) ∙ top_a)

  pub root-joined : (i : ℕ) → root (set p b a) i ≡ merge a b (root p i)
  root-joined = climb p low (λ i. root (set p b a) i ≡ merge a b (root p i)) (λ i h. top i h (ℕ_discrete i b)) down
    where
      top : (i : ℕ) → parent p i ≡ i → Dec (i ≡ b) → root (set p b a) i ≡ merge a b (root p i)
      top i h (yes e) =
          ap (root (set p b a)) e ∙ sym (root_of_parent (set p b a) low_joined b) ∙ ap (root (set p b a)) at_b ∙ top_a_still
          ∙ sym (merge_at a b (root p i) (root_of_top p low i h ∙ e))
      top i h (no n) =
          root_of_top (set p b a) low_joined i (off_b i n ∙ h)
          ∙ sym (root_of_top p low i h)
          ∙ sym (merge_off a b (root p i) (λ e. n (sym (root_of_top p low i h) ∙ e)))

      down : (i : ℕ) → parent p i < i → root (set p b a) (parent p i) ≡ merge a b (root p (parent p i)) → root (set p b a) i ≡ merge a b (root p i)
      down i l ih =
          let n : i ≢ b = λ e. omega (arith, ap (parent p) e) in
          sym (root_of_parent (set p b a) low_joined i) ∙ ap (root (set p b a)) (off_b i n) ∙ ih ∙ ap (merge a b) (root_of_parent p low i)

-- ---- the roots after joins are the representatives of the pairs joined

-- Joining the roots a and b of a pair, a the smaller: the roots are then those of one pair more.
pub roots_join : (p : List ℕ) → Low p → (e : Pair) (a b : ℕ) → a < b → b < length p
    → ((a ≡ root p e.one) × (b ≡ root p e.two)) ⊎ ((a ≡ root p e.two) × (b ≡ root p e.one))
    → (Low (set p b a)) × (root (set p b a) ≡ join_at (root p) e)
unfolding join_at
roots_join p low e a b l n (inl o) =
    let ta : parent p a ≡ a = subst (λ x. parent p x ≡ x) (sym o.0) (root_is_top p low e.one) in
    let tb : parent p b ≡ b = subst (λ x. parent p x ≡ x) (sym o.1) (root_is_top p low e.two) in
    let small : a ≡ min (root p e.one) (root p e.two) = omega arith in
    let large : b ≡ max (root p e.one) (root p e.two) = omega arith in
    (low_joined p low a b l n ta tb, fun_ext (λ i. root-joined p low a b l n ta tb i ∙ rw (← small, ← large) refl))
roots_join p low e a b l n (inr o) =
    let ta : parent p a ≡ a = subst (λ x. parent p x ≡ x) (sym o.0) (root_is_top p low e.two) in
    let tb : parent p b ≡ b = subst (λ x. parent p x ≡ x) (sym o.1) (root_is_top p low e.one) in
    let small : a ≡ min (root p e.one) (root p e.two) = omega arith in
    let large : b ≡ max (root p e.one) (root p e.two) = omega arith in
    (low_joined p low a b l n ta tb, fun_ext (λ i. root-joined p low a b l n ta tb i ∙ rw (← small, ← large) refl))

-- A pair whose roots are one changes nothing.
pub join_same : (r : ℕ → ℕ) (e : Pair) → r e.one ≡ r e.two → join_at r e ≡ r
unfolding join_at
join_same r e s = fun_ext (λ i. pick i (ℕ_discrete (r i) high))
  where
    low : ℕ
    low = min (r e.one) (r e.two)

    high : ℕ
    high = max (r e.one) (r e.two)

    both : low ≡ high
    both = omega arith

    pick : (i : ℕ) → Dec (r i ≡ high) → merge low high (r i) ≡ r i
    pick i (yes c) = merge_at low high (r i) c ∙ both ∙ sym c
    pick i (no n) = merge_off low high (r i) n

pub roots_same : (p : List ℕ) (e : Pair) → root p e.one ≡ root p e.two → root p ≡ join_at (root p) e
roots_same p e s = sym (join_same (root p) e s)
