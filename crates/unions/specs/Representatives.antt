-- Representatives: the least number of a class under a list of pairs, found by merging pair after pair.
use Rattle.std.specs.Prelude.{◌≡◌, refl, ◌≢◌, ◌⊎◌, true, false, ℕ, ◌≤◌, min, max, eqb}
use Rattle.std.proofs.Math.Path.{sym, ap}
use Rattle.std.proofs.Common.{◌∙◌, subst, le_refl, eq-eqb, ne_eqb}
use Rattle.std.proofs.Math.Logic.{inl, inr}
use mathlib.Core.List.Memᴰ
use mathlib.Core.List.{List, [], ◌∷◌, Memᴰ}
use Rattle.std.proofs.Math.Decide.{ℕ_discrete, dec_le}
use native.Mathlib.Omega.{arith}
use Rattle.unions.specs.Pairs.{Pair, pair_of, Linked, same, pair, symmetric, transitive, linked_more}

-- The representative r after b was merged into a.
unfoldable pub merge : ℕ → ℕ → ℕ → ℕ
merge a b r = elim (eqb r b) [ true ↦ a | false ↦ r ]

pub merge_at : (a b r : ℕ) → r ≡ b → merge a b r ≡ a
unfolding merge
merge_at a b r e = rw (eq-eqb r b e, merge)

pub merge_off : (a b r : ℕ) → r ≢ b → merge a b r ≡ r
unfolding merge
merge_off a b r n = rw (ne_eqb r b n, merge)

pub merge_self : (a b : ℕ) → merge a b a ≡ a
merge_self a b = pick (ℕ_discrete a b)
  where
    pick : Dec (a ≡ b) → merge a b a ≡ a
    pick (yes e) = merge_at a b a e
    pick (no n) = merge_off a b a n

-- Where r gives representatives, those after one pair more: the larger of the pair's two is merged into the smaller.
unfoldable pub join_at : (ℕ → ℕ) → Pair → ℕ → ℕ
unfolding merge
join_at r e i = merge (min (r e.one) (r e.two)) (max (r e.one) (r e.two)) (r i)

-- The representative of i under a list of pairs, of which the last is merged first.
unfoldable pub rep : List Pair → ℕ → ℕ
unfolding join_at
rep [] i = i
rep (e ∷ es) i = join_at (rep es) e i

-- Of 0, 1 and 2 in one class, 0 represents 2.
least_of_three : rep (pair_of 0 1 ∷ pair_of 1 2 ∷ []) 2 ≡ 0
unfolding rep
least_of_three = refl

-- ---- one pair more

module _ (r : ℕ → ℕ) (e : Pair) where
  low : ℕ
  low = min (r e.one) (r e.two)

  high : ℕ
  high = max (r e.one) (r e.two)

  -- which of the pair has the smaller representative
  InOrder : Type 0
  InOrder = ((low ≡ r e.one) × (high ≡ r e.two)) ⊎ ((low ≡ r e.two) × (high ≡ r e.one))

  in_order : InOrder
  unfolding low high InOrder
  in_order = pick (dec_le (r e.one) (r e.two))
    where
      pick : Dec (r e.one ≤ r e.two) → InOrder
      pick (yes h) = inl (omega arith, omega arith)
      pick (no n) = inr (omega arith, omega arith)

  pub join_pair : join_at r e e.one ≡ join_at r e e.two
  unfolding join_at low high InOrder
  join_pair = pick in_order
    where
      pick : InOrder → join_at r e e.one ≡ join_at r e e.two
      pick (inl h) = ap (merge low high) (sym h.0) ∙ merge_self low high ∙ sym (merge_at low high (r e.two) (sym h.1))
      pick (inr h) = merge_at low high (r e.one) (sym h.1) ∙ sym (ap (merge low high) (sym h.0) ∙ merge_self low high)

  module _ (es : List Pair) (old : (i j : ℕ) → r i ≡ r j → Linked es i j) where
    the_pair : Linked (e ∷ es) e.one e.two
    the_pair = pair e (Memᴰ.head refl) refl refl

    across : (i j : ℕ) → r i ≡ high → low ≡ r j → Linked (e ∷ es) i j
    unfolding InOrder
    across i j a b = pick in_order
      where
        pick : InOrder → Linked (e ∷ es) i j
        pick (inl h) = transitive (linked_more e es (old i e.two (cc))) (transitive (symmetric the_pair) (linked_more e es (old e.one j (cc))))
        pick (inr h) = transitive (linked_more e es (old i e.one (cc))) (transitive the_pair (linked_more e es (old e.two j (cc))))

    join_links : (i j : ℕ) → join_at r e i ≡ join_at r e j → Linked (e ∷ es) i j
    unfolding join_at low high
    join_links i j h = pick (ℕ_discrete (r i) high) (ℕ_discrete (r j) high)
      where
        pick : Dec (r i ≡ high) → Dec (r j ≡ high) → Linked (e ∷ es) i j
        pick (yes a) (yes b) = linked_more e es (old i j (a ∙ sym b))
        pick (yes a) (no b) = across i j a (sym (merge_at low high (r i) a) ∙ h ∙ merge_off low high (r j) b)
        pick (no a) (yes b) = symmetric (across j i b (sym (merge_at low high (r j) b) ∙ sym h ∙ merge_off low high (r i) a))
        pick (no a) (no b) = linked_more e es (old i j (sym (merge_off low high (r i) a) ∙ h ∙ merge_off low high (r j) b))

  join_le : ((i : ℕ) → r i ≤ i) → (i : ℕ) → join_at r e i ≤ i
  unfolding join_at low high
  join_le below i = pick (ℕ_discrete (r i) high)
    where
      pick : Dec (r i ≡ high) → merge low high (r i) ≤ i
      pick (yes h) = omega (arith, merge_at low high (r i) h, below i)
      pick (no n) = omega (arith, merge_off low high (r i) n, below i)

  join_twice : ((i : ℕ) → r (r i) ≡ r i) → (i : ℕ) → join_at r e (join_at r e i) ≡ join_at r e i
  unfolding join_at low high InOrder
  join_twice twice i = pick (ℕ_discrete (r i) high) in_order
    where
      keeps : InOrder → r low ≡ low
      keeps (inl h) = ap r h.0 ∙ twice e.one ∙ sym h.0
      keeps (inr h) = ap r h.0 ∙ twice e.two ∙ sym h.0

      pick : Dec (r i ≡ high) → InOrder → merge low high (r (merge low high (r i))) ≡ merge low high (r i)
      pick (yes h) o = rw (merge_at low high (r i) h, keeps o) (merge_self low high)
      pick (no n) o = rw (merge_off low high (r i) n, twice i) (merge_off low high (r i) n)

-- ---- all pairs of a list

-- Numbers with one representative are linked.
pub rep_links : (es : List Pair) (i j : ℕ) → rep es i ≡ rep es j → Linked es i j
unfolding rep
rep_links [] i j h = same h
rep_links (e ∷ es) i j h = join_links (rep es) e es (rep_links es) i j h

rep_pair : (es : List Pair) (e : Pair) → Memᴰ e es → rep es e.one ≡ rep es e.two
unfolding rep
rep_pair [] e m = absurd (Memᴰ.not-nil m)
rep_pair (d ∷ es) e m = pick (rep_pair es e) (Memᴰ.cases_cons m)
  where
    pick : (Memᴰ e es → rep es e.one ≡ rep es e.two) → (e ≡ d) ⊎ Memᴰ e es → rep (d ∷ es) e.one ≡ rep (d ∷ es) e.two
    pick old (inl h) = subst (λ (z : Pair). join_at (rep es) d z.one ≡ join_at (rep es) d z.two) (sym h) (join_pair (rep es) d)
    pick old (inr m) = ap (merge (min (rep es d.one) (rep es d.two)) (max (rep es d.one) (rep es d.two))) (old m)

-- Linked numbers have one representative.
pub linked_rep : (es : List Pair) {i j : ℕ} → Linked es i j → rep es i ≡ rep es j
linked_rep es (same h) = ap (rep es) h
linked_rep es (pair e m a b) = ap (rep es) a ∙ rep_pair es e m ∙ sym (ap (rep es) b)
linked_rep es (symmetric l) = sym (linked_rep es l)
linked_rep es (transitive k l) = linked_rep es k ∙ linked_rep es l

-- A representative is its own, not above what it stands for, linked with it, and the least that is.
pub rep-le : (es : List Pair) (i : ℕ) → rep es i ≤ i
unfolding rep
rep-le [] i = le_refl i
rep-le (e ∷ es) i = join_le (rep es) e (rep-le es) i

pub rep_twice : (es : List Pair) (i : ℕ) → rep es (rep es i) ≡ rep es i
unfolding rep
rep_twice [] i = refl
rep_twice (e ∷ es) i = join_twice (rep es) e (rep_twice es) i

pub linked_to_rep : (es : List Pair) (i : ℕ) → Linked es i (rep es i)
linked_to_rep es i = rep_links es i (rep es i) (sym (rep_twice es i))

pub rep_least : (es : List Pair) (i j : ℕ) → Linked es i j → rep es i ≤ j
rep_least es i j l = omega (arith, linked_rep es l, rep-le es j)
