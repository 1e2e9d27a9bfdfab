-- The loop that counts the children of each number, from zeros on, in the front of the work list.
use Rattle.std.specs.Prelude.{◌≡◌, List, [], ℕ, suc, ◌+◌, ◌≤◌, ◌<◌, get_or, set}
use Rattle.std.proofs.Common.{sym, ap, ◌∙◌, arith, get_or-set_same, get_or-set_other}
use Rattle.std.proofs.Math.Decide.{ℕ_discrete}
use Rattle.orbits.specs.Members.{in_none}
use Rattle.forests.specs.Forest.{ParentsBelow}
use Rattle.forests.specs.WorkList.{ParentsFrom, parents-kept}
use Rattle.forests.specs.Waiting.{missing, missing_none, missing_other, missing-more, missing-below, Waits}

-- The numbers below v have been counted as children.
pub record Counting (N whole : ℕ) (up : ℕ → ℕ) (v : ℕ) (w : List ℕ) : Type 0 where
  pub within : v ≤ N
  pub parents : ParentsFrom N whole up w
  pub counts : (p : ℕ) → p < N → get_or w p 0 ≡ missing up [] p v

pub counting_begins : {N whole : ℕ} {up : ℕ → ℕ} {w : List ℕ} → ParentsFrom N whole up w → ((p : ℕ) → p < N → get_or w p 0 ≡ 0) → Counting N whole up 0 w
counting_begins {N} {whole} {up} s zeros = record { within = omega arith; parents = s; counts = λ p h. zeros p h ∙ sym (missing_none up [] p) }

pub counting_ends : {N whole : ℕ} {up : ℕ → ℕ} {v : ℕ} {w : List ℕ} → N ≤ v → Counting N whole up v w → Waits N up [] w
counting_ends {N} {whole} {up} {v} {w} h s = record {
  long = omega (arith, s.parents.apart, s.parents.room);
  holds = λ p k. s.counts p k ∙ ap (missing up [] p) (omega (arith, s.within));
}

module _ {N whole : ℕ} {up : ℕ → ℕ} {v : ℕ} {w : List ℕ} (h : v < N) (s : Counting N whole up v w) where
  -- A number without a parent is no child.
  pub counting_root : get_or w (whole + v) 0 ≡ 0 → Counting N whole up (v + 1) w
  counting_root e = record {
    within = omega arith;
    parents = s.parents;
    counts = λ p k. s.counts p k ∙ sym (missing_other up [] p v (λ q. omega (arith, s.parents.holds v h))) ∙ ap (missing up [] p) (omega arith);
  }

  module _ (low : ParentsBelow N up) (p : ℕ) (e : get_or w (whole + v) 0 ≡ suc p) where
    pub counted_parent_lower : p < v
    counted_parent_lower = low v p h (sym (s.parents.holds v h) ∙ e)

    -- A count stays below the number that is counted.
    pub count_small : get_or w p 0 ≤ v
    count_small = omega (arith, s.counts p (omega (arith, counted_parent_lower)), missing-below up [] p v)

    pub counting_child : Counting N whole up (v + 1) (set w p (get_or w p 0 + 1))
    counting_child = record {
      within = omega arith;
      parents = parents-kept p (get_or w p 0 + 1) below s.parents;
      counts = λ q k. one q k (ℕ_discrete q p);
    }
      where
        below : p < N
        below = omega (arith, counted_parent_lower)

        parent : up v ≡ suc p
        parent = sym (s.parents.holds v h) ∙ e

        next : (q : ℕ) → missing up [] q (suc v) ≡ missing up [] q (v + 1)
        next q = ap (missing up [] q) (omega arith)

        one : (q : ℕ) → q < N → Dec (q ≡ p) → get_or (set w p (get_or w p 0 + 1)) q 0 ≡ missing up [] q (v + 1)
        one q k (yes f) =
            ap (λ x. get_or (set w p (get_or w p 0 + 1)) x 0) f ∙ get_or-set_same w p (get_or w p 0 + 1) 0 (omega (arith, below, s.parents.apart, s.parents.room))
            ∙ omega (arith, s.counts p below, missing-more up [] p v parent (λ i. in_none v i)) ∙ ap (λ x. missing up [] x (suc v)) (sym f) ∙ next q
        one q k (no f) =
            get_or-set_other w p q (get_or w p 0 + 1) 0 f ∙ s.counts q k ∙ sym (missing_other up [] q v (λ g. f (omega (arith, parent)))) ∙ next q
