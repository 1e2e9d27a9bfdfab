-- The answer: each cycle is checked, and the last pass finds no edge that is left over.
use Rattle.std.specs.Prelude.{◌≡◌, Bool, true, false, not, List, ℕ}
use Rattle.std.proofs.Common.{sym, subst}
use Rattle.std.proofs.lemmas.Bool.{false≢true, not-true, not-false}
use Rattle.grid.specs.Listing.{Cycle}
use Rattle.cycles.specs.Mapped.{nums_of, Mapped}
use Rattle.starts.specs.Unmarked.{NorthEdge}
use Rattle.given_outlines.specs.CycleByCycle.{finish, each_marked}
use Rattle.sequences.specs.Says.{Says, says_no}
use Rattle.retracing.specs.Promise.{Retraced}
use Rattle.retracing.specs.Checking.{EachChecked}
use Rattle.retracing.specs.LastPass.{EachMarked}

module _ {n : ℕ} {l : List Cycle} {map map' : List ℕ} {ok : Bool} (checked : EachChecked n l map map' ok) where
  pub one_disagrees : not ok ≡ true → Retraced n l map map' false
  one_disagrees e = record { long = checked.long; agree = says_no (checked.refuted (not-true ok e)); kept = λ f. absurd (false≢true f) }

  module _ (all : not ok ≡ false) where
    pub mapped_then : Mapped n map'
    mapped_then = (checked.kept (not-false ok all)).mapped

    pub by_last_pass : {last : Bool} → Says last (EachMarked n map') → Retraced n l map map' last
    by_last_pass says = record {
      long = checked.long;
      agree = (
        λ t. finish (checked.agree (not-false ok all)) (λ c h e. says.0 t c h (subst (λ (v : List ℕ). NorthEdge n v c) (sym same) e)),
        λ f. says.1 (λ c h e. each_marked f (checked.agree (not-false ok all)) c h (subst (λ (v : List ℕ). NorthEdge n v c) same e)),
      );
      kept = λ t. checked.kept (not-false ok all);
    }
      where
        same : nums_of n map' ≡ nums_of n map
        same = (checked.kept (not-false ok all)).same_numbers
