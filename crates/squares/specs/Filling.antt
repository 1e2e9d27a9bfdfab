-- Runs and squares of a raster filled with one colour.
use Rattle.std.specs.Prelude.{◌≡◌, refl, ◌⊎◌, List, ℕ, zero, suc, ◌+◌, ◌-◌, ◌*◌, ◌≤◌, ◌<◌, length, get_or, set}
use Rattle.std.proofs.Common.{sym, ap, ◌∙◌, subst, inl, inr, add-mul, add-one, arith}
use Rattle.std.proofs.Math.Decide.{ℕ_discrete, dec_lt}
use Rattle.sequences.specs.Fill.{fill, length-fill, fill-inside, fill-before, fill-beyond}
use Rattle.squares.specs.Rows.{RowsFit}

-- A run filled, entry by entry: the s entries from the place `from` on are v, and all others are as they were.
pub record RunFilled (from s v : ℕ) (old new : List ℕ) : Type 0 where
  pub long : length new ≡ length old
  pub inside : (j : ℕ) → from ≤ j → j < from + s → get_or new j 0 ≡ v
  pub outside : (j : ℕ) → (j < from) ⊎ (from + s ≤ j) → get_or new j 0 ≡ get_or old j 0

pub run-filled : {from s v : ℕ} {old new : List ℕ} → from + s ≤ length old → new ≡ fill old from s v → RunFilled from s v old new
run-filled {from} {s} {v} {old} {new} room e = record {
  long = ap length e ∙ length-fill old from s v;
  inside = λ j a b. ap (λ (l : List ℕ). get_or l j 0) e ∙ fill-inside old from s v j room a b;
  outside = λ j o. ap (λ (l : List ℕ). get_or l j 0) e ∙ kept j o;
}
  where
    kept : (j : ℕ) → (j < from) ⊎ (from + s ≤ j) → get_or (fill old from s v) j 0 ≡ get_or old j 0
    kept j (inl h) = fill-before old from s v j h
    kept j (inr h) = fill-beyond old from s v j h

-- k rows of s entries from the place `at` on, w apart, are v, and all others are as they were.
pub record RowsFilled (w at s k v : ℕ) (old new : List ℕ) : Type 0 where
  pub long : length new ≡ length old
  pub inside : (x y : ℕ) → x < s → y < k → get_or new (at + y * w + x) 0 ≡ v
  pub outside : (j : ℕ) → ((x y : ℕ) → x < s → y < k → j ≡ at + y * w + x → ⊥) → get_or new j 0 ≡ get_or old j 0

pub rows_empty : {w at s v : ℕ} {old : List ℕ} → RowsFilled w at s 0 v old old
rows_empty = record { long = refl; inside = λ x y a b. absurd (omega arith); outside = λ j o. refl }

in_run : (from s j : ℕ) → ((from ≤ j) × (j < from + s)) ⊎ ((j < from) ⊎ (from + s ≤ j))
in_run from s j =
    elim (dec_lt j from) [
      | yes a ↦ inr (inl a)
      | no a ↦ elim (dec_lt j (from + s)) [ yes b ↦ inl (omega arith, b) | no b ↦ inr (inr (omega arith)) ]
    ]

pub rows_one_more : {w at s k v : ℕ} {old new newer : List ℕ} (from : ℕ) → from ≡ at + k * w → RowsFilled w at s k v old new → RunFilled from s v new newer
    → RowsFilled w at s (k + 1) v old newer
rows_one_more {w} {at} {s} {k} {v} {old} {new} {newer} from e r f = record {
  long = f.long ∙ r.long;
  inside = λ x y a b. filled x y a b (in_run from s (at + y * w + x));
  outside = λ j o.
      f.outside j (off j o (in_run from s j)) ∙ r.outside j (λ x y a b h. o x y a (omega arith) h);
}
  where
    filled : (x y : ℕ) → x < s → y < k + 1 → ((from ≤ at + y * w + x) × (at + y * w + x < from + s)) ⊎ ((at + y * w + x < from) ⊎ (from + s ≤ at + y * w + x)) → get_or newer (at + y * w + x) 0 ≡ v
    filled x y a b (inl h) = f.inside (at + y * w + x) h.0 h.1
    filled x y a b (inr h) =
        elim (ℕ_discrete y k) [
          | yes q ↦ absurd (here h q)
          | no d ↦ f.outside (at + y * w + x) h ∙ r.inside x y a (omega arith)
        ]
      where
        here : (at + y * w + x < from) ⊎ (from + s ≤ at + y * w + x) → y ≡ k → ⊥
        here (inl g) q = omega (arith, e, ap (λ (z : ℕ). z * w) q)
        here (inr g) q = omega (arith, e, ap (λ (z : ℕ). z * w) q)

    off : (j : ℕ) → ((x y : ℕ) → x < s → y < k + 1 → j ≡ at + y * w + x → ⊥) → ((from ≤ j) × (j < from + s)) ⊎ ((j < from) ⊎ (from + s ≤ j)) → (j < from) ⊎ (from + s ≤ j)
    off j o (inl h) = absurd (o (j - from) k (omega (arith, h.0, h.1)) (omega arith) (omega (arith, e, h.0)))
    off j o (inr h) = h

-- The list with k rows of s entries from the place `at` on, w apart, filled with v, row by row.
unfoldable pub fill_rows : {A : Type 0} → List A → ℕ → ℕ → ℕ → ℕ → A → List A
unfolding fill
fill_rows l w at s zero v = l
fill_rows l w at s (suc k) v = fill (fill_rows l w at s k v) (at + k * w) s v

pub length-fill_rows : {A : Type 0} (l : List A) (w at s k : ℕ) (v : A) → length (fill_rows l w at s k v) ≡ length l
unfolding fill_rows
length-fill_rows l w at s zero v = refl
length-fill_rows l w at s (suc k) v = length-fill (fill_rows l w at s k v) (at + k * w) s v ∙ length-fill_rows l w at s k v

rows_filled_so_far : (old : List ℕ) (w at s k v : ℕ) → RowsFit (length old) w at s k → RowsFilled w at s k v old (fill_rows old w at s k v)
unfolding fill_rows
rows_filled_so_far old w at s zero v fit = rows_empty
rows_filled_so_far old w at s (suc k) v fit =
    let before = rows_filled_so_far old w at s k v (λ j h. fit j (omega arith)) in
    let room : at + k * w + s ≤ length (fill_rows old w at s k v) = omega (arith, fit k (omega arith), length-fill_rows old w at s k v) in
    subst (λ (j : ℕ). RowsFilled w at s j v old (fill_rows old w at s (suc k) v)) (add-one k) (rows_one_more (at + k * w) refl before (run-filled room refl))

-- A square that was filled row by row.
pub rows_filled : {old new : List ℕ} (w at s v : ℕ) → RowsFit (length old) w at s s → new ≡ fill_rows old w at s s v → RowsFilled w at s s v old new
rows_filled {old} w at s v fit e = rw e (rows_filled_so_far old w at s s v fit)

-- The loop over the rows of a square: k rows are filled and the next begins at `from`.
pub record RowsDone (w at s k v from : ℕ) (old new : List ℕ) : Type 0 where
  pub within : k ≤ s
  pub here : from ≡ at + k * w
  pub filled : RowsFilled w at s k v old new

module _ {w at s v : ℕ} {old : List ℕ} where
  pub rows-done_none : RowsDone w at s 0 v at old old
  rows-done_none = record { within = omega arith; here = omega arith; filled = rows_empty }

  module _ {k from : ℕ} {new : List ℕ} (fit : RowsFit (length old) w at s s) (r : RowsDone w at s k v from old new) (more : k < s) where
    pub row_fits : from + s ≤ length new
    row_fits = omega (arith, fit k more, r.here, r.filled.long)

    pub rows-done-more : {newer : List ℕ} → newer ≡ fill new from s v → RowsDone w at s (k + 1) v (from + w) old newer
    rows-done-more e = record {
      within = omega (arith, more);
      here = omega (arith, r.here, add-mul k 1 w);
      filled = rows_one_more from r.here r.filled (run-filled row_fits e);
    }

  pub rows-done_all : {k from : ℕ} {new : List ℕ} → RowsDone w at s k v from old new → s ≤ k → RowsFilled w at s s v old new
  rows-done_all {k} {from} {new} r h = let e : k ≡ s = omega (arith, r.within) in subst (λ (j : ℕ). RowsFilled w at s j v old new) e r.filled

-- One entry is a square of side 1.
pub one_filled : {w at s v : ℕ} {old : List ℕ} → s ≡ 1 → at < length old → RowsFilled w at s s v old (set old at v)
unfolding fill
one_filled {w} {at} {s} {v} {old} one room =
    let here : at ≡ at + 0 = omega arith in
    subst (λ (k : ℕ). RowsFilled w at k k v old (set old at v)) (sym one)
    (rows_one_more at (omega arith) rows_empty (run-filled (omega arith) (ap (λ (i : ℕ). set old i v) here)))
