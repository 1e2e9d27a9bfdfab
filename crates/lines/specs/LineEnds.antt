-- Where a line ends, told by the owner list alone.
use Rattle.std.specs.Prelude.{◌≡◌, refl, Bool, true, ◌||◌, List, ℕ, zero, suc, ◌+◌, ◌-◌, ◌≤◌, ◌<◌, eqb, leb, get_or}
use Rattle.std.proofs.Common.{sym, arith, le-leb}
use Rattle.std.proofs.Math.Path.{ap}
use Rattle.std.proofs.Math.Bool.{not}
use Rattle.std.proofs.lemmas.Bool.{lt-leb}
use Rattle.held.specs.Held.{cycles_from, cycle_held}
use Rattle.lines.specs.Lines.{is_last}

-- By the owner list alone, the cycle k of `count` is the last of its region.
unfoldable pub ends_line : List ℕ → ℕ → ℕ → Bool
ends_line os count k = leb count (k + 1) || not (eqb (get_or os (k + 1) 0) (get_or os k 0))

module _ (os : List ℕ) (count k : ℕ) where
  pub line_at_end : count ≤ k + 1 → true ≡ ends_line os count k
  unfolding ends_line
  line_at_end h = ap (λ (b : Bool). b || not (eqb (get_or os (k + 1) 0) (get_or os k 0))) (sym (le-leb count (k + 1) h))

  pub line_by_owners : k + 1 < count → not (eqb (get_or os (k + 1) 0) (get_or os k 0)) ≡ ends_line os count k
  unfolding ends_line
  line_by_owners h = ap (λ (b : Bool). b || not (eqb (get_or os (k + 1) 0) (get_or os k 0))) (sym (lt-leb count (k + 1) h))

-- It is where the definition has LF.
pub ends-line : (os es cs : List ℕ) (count k : ℕ) → is_last (get_or os k 0) (cycles_from os es cs count (k + 1) (count - (k + 1))) ≡ ends_line os count k
unfolding is_last cycles_from cycle_held
ends-line os es cs count k = pick (count - (k + 1)) refl
  where
    pick : (left : ℕ) → count - (k + 1) ≡ left → is_last (get_or os k 0) (cycles_from os es cs count (k + 1) left) ≡ ends_line os count k
    pick zero e = line_at_end os count k (omega arith)
    pick (suc left) e = line_by_owners os count k (omega arith)
