-- Ends that rise from 0 to the number of corners, asked one after the other.
use Rattle.std.specs.Prelude.{◌≡◌, refl, Bool, true, false, List, [], ◌∷◌, ℕ, zero, suc, ◌+◌, ◌≤◌, ◌<◌, eqb, ltb, length, get_or, drop}
use Rattle.std.proofs.Common.{sym, ◌∙◌, add-one, arith, drop_of_length-le, drop-cons, lt-ltb, le-ltb, eq-eqb, eqb-true}
use Rattle.std.proofs.Math.Path.{ap}
use Rattle.std.proofs.lemmas.Bool.{false≢true}
use Rattle.std.proofs.Math.Decide.{dec_lt}
use Rattle.grid.specs.Stretches.{begin_from}
use Rattle.held.specs.Held.{begins_alike}
use Rattle.given_outlines.specs.Agreeing.{Agreeing}

-- Whether the ends rise from the place `from` to `total`.
unfoldable pub ends_rise : ℕ → List ℕ → ℕ → Bool
ends_rise from [] total = eqb from total
ends_rise from (e ∷ es) total = elim (ltb e from) [ true ↦ false | false ↦ ends_rise e es total ]

rise_on : (from e : ℕ) (es : List ℕ) (total : ℕ) → from ≤ e → ends_rise from (e ∷ es) total ≡ ends_rise e es total
unfolding ends_rise
rise_on from e es total h = rw (le-ltb e from h, ends_rise)

fall : (from e : ℕ) (es : List ℕ) (total : ℕ) → e < from → ends_rise from (e ∷ es) total ≡ false
unfolding ends_rise
fall from e es total h = rw (lt-ltb e from h, ends_rise)

-- ---- the loop: from the end k on, past the place `from`, the answer is the same

pub record EndsLeft (es : List ℕ) (total from k : ℕ) : Type 0 where
  pub same : ends_rise from (drop k es) total ≡ ends_rise 0 es total

pub all_ends : (es : List ℕ) (total : ℕ) → EndsLeft es total 0 0
all_ends es total = record { same = refl }

module _ {es : List ℕ} {total from k : ℕ} (i : EndsLeft es total from k) where
  pub next_end : k < length es → from ≤ get_or es k 0 → EndsLeft es total (get_or es k 0) (k + 1)
  next_end h up = record {
    same =
        ap (λ j. ends_rise (get_or es k 0) (drop j es) total) (add-one k)
        ∙ sym (rise_on from (get_or es k 0) (drop (suc k) es) total up)
        ∙ ap (λ l. ends_rise from l total) (sym (drop-cons es k 0 h))
        ∙ i.same;
  }

  pub end_too_low : k < length es → get_or es k 0 < from → false ≡ ends_rise 0 es total
  end_too_low h low =
      sym (fall from (get_or es k 0) (drop (suc k) es) total low) ∙ ap (λ l. ends_rise from l total) (sym (drop-cons es k 0 h)) ∙ i.same

  pub no_end_left : length es ≤ k → eqb from total ≡ ends_rise 0 es total
  unfolding ends_rise
  no_end_left h = ap (λ l. ends_rise from l total) (sym (drop_of_length-le es h)) ∙ i.same

-- ---- what it says

begin_later : (from e : ℕ) (es : List ℕ) (k : ℕ) → begin_from from (e ∷ es) (suc k) ≡ begin_from e es k
unfolding begin_from
begin_later from e es zero = refl
begin_later from e es (suc k) = refl

RiseFrom : ℕ → List ℕ → ℕ → Type 0
RiseFrom from es total = ((k : ℕ) → k < length es → begin_from from es k ≤ get_or es k 0) × (begin_from from es (length es) ≡ total)

rise_says : (from : ℕ) (es : List ℕ) (total : ℕ) → ends_rise from es total ≡ true → RiseFrom from es total
unfolding ends_rise RiseFrom begin_from
rise_says from [] total h = (λ k b. absurd (omega arith), eqb-true from total h)
rise_says from (e ∷ es) total h = pick (dec_lt e from) (rise_says e es total)
  where
    at : (r : RiseFrom e es total) → from ≤ e → (k : ℕ) → k < length (e ∷ es) → begin_from from (e ∷ es) k ≤ get_or (e ∷ es) k 0
    at r up zero b = up
    at r up (suc k) b = omega (arith, begin_later from e es k, r.0 k (omega arith))

    pick : Dec (e < from) → (ends_rise e es total ≡ true → RiseFrom e es total) → RiseFrom from (e ∷ es) total
    pick (yes d) ih = absurd (false≢true (sym (fall from e es total d) ∙ h))
    pick (no d) ih =
        let up : from ≤ e = omega arith in
        let r = ih (sym (rise_on from e es total up) ∙ h) in
        (at r up, begin_later from e es (length es) ∙ r.1)

says_rise : (from : ℕ) (es : List ℕ) (total : ℕ) → RiseFrom from es total → ends_rise from es total ≡ true
unfolding ends_rise RiseFrom begin_from
says_rise from [] total r = eq-eqb from total r.1
says_rise from (e ∷ es) total r =
    rise_on from e es total (r.0 0 (omega arith))
    ∙ says_rise e es total (λ k b. omega (arith, begin_later from e es k, r.0 (suc k) (omega arith)), sym (begin_later from e es (length es)) ∙ r.1)

-- Lists with an owner for each end agree exactly where the ends rise from 0 to the number of corners.
pub rising_agree : {os es cs : List ℕ} → length os ≡ length es → ends_rise 0 es (length cs) ≡ true → Agreeing os es cs
unfolding RiseFrom
rising_agree {os} {es} {cs} each h =
    let r = rise_says 0 es (length cs) h in
    record {
      an_owner_each = each;
      rising = λ k b. omega (arith, begins_alike es k, r.0 k b);
      last = begins_alike es (length es) ∙ r.1;
    }

pub agree_rising : {os es cs : List ℕ} → Agreeing os es cs → ends_rise 0 es (length cs) ≡ true
unfolding RiseFrom
agree_rising {os} {es} {cs} a =
    says_rise 0 es (length cs) (λ k b. omega (arith, begins_alike es k, a.rising k b), sym (begins_alike es (length es)) ∙ a.last)
