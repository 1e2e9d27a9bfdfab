-- Pairs of numbers, and what they link.
use Rattle.std.specs.Prelude.{◌≡◌, refl, ◌⊎◌, ℕ}
use Rattle.std.proofs.Common.{sym, ◌∙◌, subst, inl, inr}
use mathlib.Core.List.{List, ◌∷◌, Memᴰ}

pub record Pair : Type 0 where
  pub one : ℕ
  pub two : ℕ

abbrev pub pair_of : ℕ → ℕ → Pair
pair_of a b = record { one = a; two = b }

-- Two numbers are linked by the pairs of a list: the least equivalence that holds each pair.
pub data Linked (es : List Pair) : ℕ → ℕ → Type 0 where
  same : {i j : ℕ} → i ≡ j → Linked es i j
  pair : {i j : ℕ} → (e : Pair) → Memᴰ e es → i ≡ e.one → j ≡ e.two → Linked es i j
  symmetric : {i j : ℕ} → Linked es i j → Linked es j i
  transitive : {i j k : ℕ} → Linked es i j → Linked es j k → Linked es i k

-- A pair of the list, as it stands there.
pub listed : (es : List Pair) (a b : ℕ) → Memᴰ (pair_of a b) es → Linked es a b
listed es a b m = pair (pair_of a b) m refl refl

-- Where the pairs of one list are linked by another, all that the first links is linked by the second.
pub linked_into : (es fs : List Pair) → ((e : Pair) → Memᴰ e es → Linked fs e.one e.two) → {i j : ℕ} → Linked es i j → Linked fs i j
linked_into es fs into (same h) = same h
linked_into es fs into (pair e m a b) = transitive (same a) (transitive (into e m) (symmetric (same b)))
linked_into es fs into (symmetric l) = symmetric (linked_into es fs into l)
linked_into es fs into (transitive k l) = transitive (linked_into es fs into k) (linked_into es fs into l)

-- What holds of each pair, and passes back and through, holds of all that the pairs link, but for a number with itself.
pub linked_as : (es : List Pair) (R : ℕ → ℕ → Type 0) → ((e : Pair) → Memᴰ e es → R e.one e.two) → ((i j : ℕ) → R i j → R j i)
    → ((i j k : ℕ) → R i j → R j k → R i k) → {i j : ℕ} → Linked es i j → (i ≡ j) ⊎ R i j
linked_as es R each back through (same h) = inl h
linked_as es R each back through (pair {i} {j} e m a b) =
    inr (subst (λ (x : ℕ). R x j) (sym a) (subst (λ (x : ℕ). R e.one x) (sym b) (each e m)))
linked_as es R each back through (symmetric {i} {j} l) = turn (linked_as es R each back through l)
  where
    turn : (i ≡ j) ⊎ R i j → (j ≡ i) ⊎ R j i
    turn (inl h) = inl (sym h)
    turn (inr p) = inr (back i j p)
linked_as es R each back through (transitive {i} {j} {k} l r) = chain (linked_as es R each back through l) (linked_as es R each back through r)
  where
    chain : (i ≡ j) ⊎ R i j → (j ≡ k) ⊎ R j k → (i ≡ k) ⊎ R i k
    chain (inl h) (inl g) = inl (h ∙ g)
    chain (inl h) (inr q) = inr (subst (λ (x : ℕ). R x k) (sym h) q)
    chain (inr p) (inl g) = inr (subst (λ (x : ℕ). R i x) g p)
    chain (inr p) (inr q) = inr (through i j k p q)

-- One pair more, or more of them, link no less.
pub linked_among : (es fs : List Pair) → ((e : Pair) → Memᴰ e es → Memᴰ e fs) → {i j : ℕ} → Linked es i j → Linked fs i j
linked_among es fs among l = linked_into es fs (λ e m. pair e (among e m) refl refl) l

pub linked_more : (e : Pair) (es : List Pair) {i j : ℕ} → Linked es i j → Linked (e ∷ es) i j
linked_more e es l = linked_among es (e ∷ es) (λ f m. Memᴰ.tail m) l
