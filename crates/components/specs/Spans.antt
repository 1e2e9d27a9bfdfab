-- A block joined with each block of its colour that a span of entries names.
use Rattle.std.specs.Prelude.{◌≡◌, refl, ◌≢◌, cond, List, ℕ, suc, ◌+◌, ◌-◌, ◌≤◌, ◌<◌, length, get_or, eqb}
use Rattle.std.proofs.Common.{sym, ap, ◌∙◌, add-one, arith, eq-eqb, ne_eqb}
use Rattle.std.proofs.Math.Decide.{ℕ_discrete}
use Rattle.unions.specs.Pairs.{Pair, pair_of}
use Rattle.unions.specs.Representatives.{join_at, join_pair}
use Rattle.unions.specs.Roots.{Low, root, join_same}
use Rattle.unions.specs.Joining.{Forest, joins, joins_none, joins-first}
use Rattle.components.specs.BlockPairs.{span_pairs, span_yes, span_no, span_none, unless_first, pairs_at_edge, pairs_inside}

-- The representatives after the blocks b and k were joined if their colours are equal.
unfoldable pub join_if_alike : List ℕ → (ℕ → ℕ) → ℕ → ℕ → ℕ → ℕ
unfolding join_at
join_if_alike ks r b k = cond (eqb (get_or ks b 0) (get_or ks k 0)) (join_at r (pair_of b k)) r

pub alike-joined : (ks : List ℕ) (r : ℕ → ℕ) (b k : ℕ) → get_or ks b 0 ≡ get_or ks k 0 → join_if_alike ks r b k ≡ join_at r (pair_of b k)
unfolding join_if_alike
alike-joined ks r b k h = simp (eq-eqb (get_or ks b 0) (get_or ks k 0) h)

pub unlike_kept : (ks : List ℕ) (r : ℕ → ℕ) (b k : ℕ) → get_or ks b 0 ≢ get_or ks k 0 → join_if_alike ks r b k ≡ r
unfolding join_if_alike
unlike_kept ks r b k h = simp (ne_eqb (get_or ks b 0) (get_or ks k 0) h)

-- Two blocks of one colour are joined, others are left.
module _ (ks : List ℕ) (b k : ℕ) where
  pub alike_forest : {p₀ p : List ℕ} → get_or ks b 0 ≡ get_or ks k 0 → Forest p₀ (join_at (root p₀) (pair_of b k)) p → Forest p₀ (join_if_alike ks (root p₀) b k) p
  alike_forest {p₀} h f = record { roots = f.roots ∙ sym (alike-joined ks (root p₀) b k h); low = f.low; long = f.long }

  pub unlike_forest : {p : List ℕ} → get_or ks b 0 ≢ get_or ks k 0 → Low p → Forest p (join_if_alike ks (root p) b k) p
  unlike_forest {p} h low = record { roots = sym (unlike_kept ks (root p) b k h); low = low; long = refl }

-- A block joined with itself, or with another for a second time, changes nothing.
pub alike_self : (ks : List ℕ) (r : ℕ → ℕ) (k : ℕ) → join_if_alike ks r k k ≡ r
alike_self ks r k = alike-joined ks r k k refl ∙ join_same r (pair_of k k) refl

alike_twice : (ks : List ℕ) (r : ℕ → ℕ) (b k : ℕ) → join_if_alike ks (join_if_alike ks r b k) b k ≡ join_if_alike ks r b k
alike_twice ks r b k =
    elim (ℕ_discrete (get_or ks b 0) (get_or ks k 0)) [
      | yes h ↦
          let e = alike-joined ks r b k h in
          alike-joined ks (join_if_alike ks r b k) b k h
          ∙ ap (λ (f : ℕ → ℕ). join_at f (pair_of b k)) e
          ∙ join_same (join_at r (pair_of b k)) (pair_of b k) (join_pair r (pair_of b k))
          ∙ sym e
      | no h ↦ unlike_kept ks (join_if_alike ks r b k) b k h
    ]

pub done-after : (ks : List ℕ) (b k : ℕ) {p₀ p : List ℕ} → Forest p₀ (join_if_alike ks (root p₀) b k) p → join_if_alike ks (root p) b k ≡ root p
done-after ks b k {p₀} j = ap (λ (f : ℕ → ℕ). join_if_alike ks f b k) j.roots ∙ alike_twice ks (root p₀) b k ∙ sym j.roots

pub done-kept : (ks : List ℕ) {b last : ℕ} (k : ℕ) {p : List ℕ} → Low p → b ≡ last → join_if_alike ks (root p) last k ≡ root p
    → Forest p (join_if_alike ks (root p) b k) p
done-kept ks k {p} low e done = record { roots = sym (ap (λ (i : ℕ). join_if_alike ks (root p) i k) e ∙ done); low = low; long = refl }

-- One entry of the span, then the rest.
joins-entry : (entry : ℕ → ℕ) (ks : List ℕ) (k x s : ℕ) (r : ℕ → ℕ)
    → joins r (span_pairs entry ks k x (suc s)) ≡ joins (join_if_alike ks r (entry x) k) (span_pairs entry ks k (suc x) s)
joins-entry entry ks k x s r =
    elim (ℕ_discrete (get_or ks (entry x) 0) (get_or ks k 0)) [
      | yes h ↦
          ap (joins r) (span_yes entry ks k x s h)
          ∙ joins-first r (pair_of (entry x) k) (span_pairs entry ks k (suc x) s)
          ∙ ap (λ (f : ℕ → ℕ). joins f (span_pairs entry ks k (suc x) s)) (sym (alike-joined ks r (entry x) k h))
      | no h ↦
          ap (joins r) (span_no entry ks k x s h) ∙ ap (λ (f : ℕ → ℕ). joins f (span_pairs entry ks k (suc x) s)) (sym (unlike_kept ks r (entry x) k h))
    ]

joins_end : (entry : ℕ → ℕ) (ks : List ℕ) (k x s : ℕ) (r : ℕ → ℕ) → s ≡ 0 → joins r (span_pairs entry ks k x s) ≡ r
joins_end entry ks k x s r h = ap (λ (j : ℕ). joins r (span_pairs entry ks k x j)) h ∙ ap (joins r) (span_none entry ks k x) ∙ joins_none r

-- What the loop over the s entries from `from` on relies on: each of them names a block.
pub record NamedSpan (entries : List ℕ) (from s : ℕ) (ks : List ℕ) (k : ℕ) (p : List ℕ) : Type 0 where
  pub inside : from + s ≤ length entries
  pub each : (x : ℕ) → from ≤ x → x < from + s → get_or entries x 0 < length ks
  pub own : k < length ks
  pub long : length p ≡ length ks
  pub low : Low p

-- At the entry x: what is left to join leads to the whole.
pub record Spanning (entries : List ℕ) (from s : ℕ) (ks : List ℕ) (k : ℕ) (p₀ p : List ℕ) (x : ℕ) : Type 0 where
  pub first : from ≤ x
  pub last : x ≤ from + s
  pub low : Low p
  pub long : length p ≡ length p₀
  pub total : joins (root p) (span_pairs (λ y. get_or entries y 0) ks k x (from + s - x)) ≡ joins (root p₀) (span_pairs (λ y. get_or entries y 0) ks k from s)

module _ {entries : List ℕ} {from s : ℕ} {ks : List ℕ} {k : ℕ} {p₀ : List ℕ} (ready : NamedSpan entries from s ks k p₀) where
  pub begin : Spanning entries from s ks k p₀ p₀ from
  begin =
      let e : from + s - from ≡ s = omega arith in
      record {
        first = omega arith;
        last = omega arith;
        low = ready.low;
        long = refl;
        total = ap (λ (j : ℕ). joins (root p₀) (span_pairs (λ y. get_or entries y 0) ks k from j)) e;
      }

  module _ {p : List ℕ} {x : ℕ} (g : Spanning entries from s ks k p₀ p x) where
    pub entry-inside : x < from + s → get_or entries x 0 < length ks
    entry-inside l = ready.each x g.first l

    pub again : {p' : List ℕ} → x < from + s → Forest p (join_if_alike ks (root p) (get_or entries x 0) k) p' → Spanning entries from s ks k p₀ p' (x + 1)
    again {p'} l j =
        let e : from + s - x ≡ suc (from + s - (x + 1)) = omega arith in
        let rest : ℕ = from + s - (x + 1) in
        record {
          first = omega (arith, g.first);
          last = omega arith;
          low = j.low;
          long = j.long ∙ g.long;
          total =
              ap (λ (y : ℕ). joins (root p') (span_pairs (λ y. get_or entries y 0) ks k y rest)) (add-one x)
              ∙ ap (λ (f : ℕ → ℕ). joins f (span_pairs (λ y. get_or entries y 0) ks k (suc x) rest)) j.roots
              ∙ sym (joins-entry (λ y. get_or entries y 0) ks k x rest (root p))
              ∙ ap (λ (t : ℕ). joins (root p) (span_pairs (λ y. get_or entries y 0) ks k x t)) (sym e)
              ∙ g.total;
        }

    pub finish : from + s ≤ x → Forest p₀ (joins (root p₀) (span_pairs (λ y. get_or entries y 0) ks k from s)) p
    finish h = record {
      roots = sym (joins_end (λ y. get_or entries y 0) ks k x (from + s - x) (root p) (omega arith)) ∙ g.total;
      low = g.low;
      long = g.long;
    }

-- Nothing is joined at the image's edge; elsewhere the whole span is.
pub none_at_edge : (z : ℕ) (es : List Pair) {p : List ℕ} → z ≡ 0 → Low p → Forest p (joins (root p) (unless_first z es)) p
none_at_edge z es {p} h low =
    record { roots = sym (ap (joins (root p)) (pairs_at_edge z es h) ∙ joins_none (root p)); low = low; long = refl }

pub all_inside_lem : (z : ℕ) (es : List Pair) {p₀ p : List ℕ} → 0 < z → Forest p₀ (joins (root p₀) es) p → Forest p₀ (joins (root p₀) (unless_first z es)) p
all_inside_lem z es {p₀} {p} h f = record { roots = f.roots ∙ sym (ap (joins (root p₀)) (pairs_inside z es h)); low = f.low; long = f.long }
