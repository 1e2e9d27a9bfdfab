-- A forest of numbers, given by parents: each number has at most one, a smaller number.
use Rattle.std.specs.Prelude.{◌≡◌, ◌⊎◌, ℕ, suc, ◌<◌}
use Rattle.std.proofs.Common.{sym, ◌∙◌, inl, inr, arith}

-- `up v` is 0 where v has no parent, else 1 plus its parent. Of the numbers below N, each is larger than its parent.
abbrev pub ParentsBelow : ℕ → (ℕ → ℕ) → Type 0
ParentsBelow N up = (v p : ℕ) → v < N → up v ≡ suc p → p < v

-- r is an ancestor of s: the parent of s, or an ancestor of its parent.
pub data Above (up : ℕ → ℕ) (r : ℕ) : ℕ → Type 0 where
  parent : {s : ℕ} → up s ≡ suc r → Above up r s
  further : {s p : ℕ} → up s ≡ suc p → Above up r p → Above up r s

pub above_below : (N : ℕ) (up : ℕ → ℕ) → ParentsBelow N up → {r s : ℕ} → s < N → Above up r s → r < s
above_below N up b {r} h (parent {s} e) = b s r h e
above_below N up b {r} h (further {s} {p} e a) =
    let l : p < s = b s p h e in
    omega (arith, above_below N up b (omega arith) a)

-- The ancestors of s, by what its parent is.
pub above_cases : (up : ℕ → ℕ) {r s : ℕ} → Above up r s → (up s ≡ suc r) ⊎ ((p : ℕ) × (up s ≡ suc p) × Above up r p)
above_cases up (parent e) = inl e
above_cases up (further {s} {p} e a) = inr (p, e, a)

pub above_none : (up : ℕ → ℕ) {r s : ℕ} → up s ≡ 0 → Above up r s → ⊥
above_none up h (parent e) = omega arith
above_none up h (further e a) = omega arith

-- Two numbers with one parent have the same ancestors.
pub above_same : (up : ℕ → ℕ) {r s t : ℕ} → up s ≡ up t → Above up r s → Above up r t
above_same up h (parent e) = parent (sym h ∙ e)
above_same up h (further e a) = further (sym h ∙ e) a
