-- The four pixels of a square of side 2, stored at once.
use Rattle.std.specs.Prelude.{◌≡◌, List, ℕ, ◌+◌, ◌<◌, length, set}
use Rattle.std.proofs.Common.{sym, ap, ◌∙◌, subst, arith, length-set}
use Rattle.sequences.specs.Fill.{fill}
use Rattle.squares.specs.Rows.{RowsFit}
use Rattle.squares.specs.Filling.{RunFilled, run-filled, RowsFilled, rows_empty, rows_one_more}

-- The square of side 2 at the place `at`, in rows of w, given four values.
unfoldable pub four_stored : {A : Type 0} → ℕ → ℕ → A → A → A → A → List A → List A
four_stored w at nw ne sw se raster = set (set (set (set raster at nw) (at + 1) ne) (at + w) sw) (at + w + 1) se

-- The square of side 2 given one colour four times.
four_filled : {w at v : ℕ} {old : List ℕ} → at + w + 1 < length old → RowsFilled w at 2 2 v old (four_stored w at v v v v old)
unfolding four_stored fill
four_filled {w} {at} {v} {old} room = rows_one_more (at + w) (omega arith) (rows_one_more at (omega arith) rows_empty (two at old (omega arith))) (two (at + w) north (omega (arith, same)))
  where
    two : (from : ℕ) (list : List ℕ) → from + 1 < length list → RunFilled from 2 v list (set (set list from v) (from + 1) v)
    two from list h =
        let here : from ≡ from + 0 = omega arith in
        run-filled (omega arith) (ap (λ (i : ℕ). set (set list i v) (from + 1) v) here)

    north : List ℕ
    north = set (set old at v) (at + 1) v

    same : length north ≡ length old
    same = length-set (set old at v) (at + 1) v ∙ length-set old at v

-- A square whose side is 2.
pub two_fit : (size w at s : ℕ) → RowsFit size w at s s → s ≡ 2 → at + w + 1 < size
two_fit size w at s fit side = omega (arith, fit 1 (omega arith))

pub two_filled : {w at s v : ℕ} {old new : List ℕ} → RowsFit (length old) w at s s → s ≡ 2 → new ≡ four_stored w at v v v v old → RowsFilled w at s s v old new
two_filled {w} {at} {s} {v} {old} {new} fit side stored =
    subst (λ (k : ℕ). RowsFilled w at k k v old new) (sym side)
    (subst (RowsFilled w at 2 2 v old) (sym stored) (four_filled (two_fit (length old) w at s fit side)))
