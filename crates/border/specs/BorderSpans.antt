-- What the functions that join one block with its neighbours ask, and what they leave.
use Rattle.std.specs.Prelude.{◌≡◌, List, ℕ, ◌+◌, ◌≤◌, ◌<◌, length, get_or}
use Rattle.std.proofs.Common.{sym, ◌∙◌, subst, arith}
use Rattle.unions.specs.Roots.{Low, root}
use Rattle.unions.specs.Joining.{Forest, joins}
use Rattle.components.specs.BlockPairs.{span_pairs, unless_first}
use Rattle.components.specs.Spans.{join_if_alike, alike_self, NamedSpan, begin, again, finish}

-- Two blocks that may be joined: both have a colour in ks and a parent in p. What joins `last` with k is done.
pub record Joinable (ks p : List ℕ) (last b k : ℕ) : Type 0 where
  pub done : join_if_alike ks (root p) last k ≡ root p
  pub one : b < length ks
  pub two : k < length ks
  pub long : length p ≡ length ks
  pub low : Low p

-- A span of the border beside the block k: the s entries from `from` on name its neighbours, unless z is 0: there the block begins at
-- the image's edge.
pub record BorderSpan (z : ℕ) (entries : List ℕ) (from s : ℕ) (ks : List ℕ) (k : ℕ) (p : List ℕ) : Type 0 where
  pub low : Low p
  pub named : 0 < z → NamedSpan entries from s ks k p

-- The block k joined with each block of its colour that the span names.
abbrev pub SpanJoined : ℕ → List ℕ → ℕ → ℕ → List ℕ → ℕ → List ℕ → List ℕ → Type 0
SpanJoined z entries from s ks k p₀ p = Forest p₀ (joins (root p₀) (unless_first z (span_pairs (λ i. get_or entries i 0) ks k from s))) p

-- The spans north and west of the block k of side s at (x, y): its neighbours stand in the entries of its columns, and in those of its
-- rows, which follow the w entries of all columns.
pub record BorderSpans (entries : List ℕ) (w x y s : ℕ) (ks : List ℕ) (k : ℕ) (p : List ℕ) : Type 0 where
  pub room : w + y + s ≤ length entries
  pub north : BorderSpan y entries x s ks k p
  pub west : BorderSpan x entries (w + y) s ks k p

-- The block k joined with its neighbours in both spans, north first.
pub record SpansJoined (entries : List ℕ) (w x y s : ℕ) (ks : List ℕ) (k : ℕ) (p₀ p : List ℕ) : Type 0 where
  pub between : List ℕ
  pub north : SpanJoined y entries x s ks k p₀ between
  pub west : SpanJoined x entries (w + y) s ks k between p

-- A span of one entry: the block that it names may be joined, and with it the whole span is.
module _ {entries : List ℕ} {at : ℕ} {ks : List ℕ} {k : ℕ} {p₀ : List ℕ} (ready : NamedSpan entries at 1 ks k p₀) where
  pub one_joinable : Joinable ks p₀ k (get_or entries at 0) k
  one_joinable = record { done = alike_self ks (root p₀) k; one = ready.each at (omega arith) (omega arith); two = ready.own; long = ready.long; low = ready.low }

  pub one_joined : {p : List ℕ} → Forest p₀ (join_if_alike ks (root p₀) (get_or entries at 0) k) p
      → Forest p₀ (joins (root p₀) (span_pairs (λ i. get_or entries i 0) ks k at 1)) p
  one_joined j = finish ready (again ready (begin ready) (omega arith) j) (omega arith)

-- Both spans of a single pixel are one entry long.
module _ {entries : List ℕ} {w x y s : ℕ} {ks : List ℕ} {k : ℕ} (single : s ≡ 1) where
  pub single_spans : {p : List ℕ} → BorderSpans entries w x y s ks k p → BorderSpans entries w x y 1 ks k p
  single_spans {p} = subst (λ (i : ℕ). BorderSpans entries w x y i ks k p) single

  pub single_joined : {p₀ p : List ℕ} → SpansJoined entries w x y 1 ks k p₀ p → SpansJoined entries w x y s ks k p₀ p
  single_joined {p₀} {p} = subst (λ (i : ℕ). SpansJoined entries w x y i ks k p₀ p) (sym single)

-- A span is still one after the other was joined.
pub span_after : {z : ℕ} {entries : List ℕ} {from s : ℕ} {ks : List ℕ} {k : ℕ} {p₀ p : List ℕ} → BorderSpan z entries from s ks k p₀ → length p ≡ length p₀ → Low p
    → BorderSpan z entries from s ks k p
span_after span long low = record {
  low = low;
  named = λ h.
      let g = span.named h in
      record { inside = g.inside; each = g.each; own = g.own; long = long ∙ g.long; low = low };
}
