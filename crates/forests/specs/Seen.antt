-- The loops of the two tests of an order: they go along it and mark in the front of a list each number that they have passed.
use Rattle.std.specs.Prelude.{◌≡◌, refl, ◌≢◌, Bool, true, false, List, [], ◌∷◌, ℕ, suc, ◌+◌, ◌≤◌, ◌<◌, length, get_or, set, drop}
use Rattle.std.proofs.Common.{sym, ap, ◌∙◌, arith, length-set, drop_of_length-le, drop-cons, get_or-set_same, get_or-set_other}
use Rattle.std.proofs.Math.Decide.{ℕ_discrete}
use Rattle.sequences.specs.Cases.{when, when_yes, when_no, when_zero}
use Rattle.orbits.specs.Finding.{member, member-here, member_later}
use Rattle.forests.specs.Checking.{along, along_on, along_stop, along_end, is_new, new_when_absent, not_new_when_present, parent_later, later_when_absent, not_later_when_present}

-- Of the first N entries those are 1 whose numbers stand in `before`, the others 0.
pub record Seen (N : ℕ) (before w : List ℕ) : Type 0 where
  pub long : N ≤ length w
  pub holds : (v : ℕ) → v < N → get_or w v 0 ≡ when (member v before) 1

pub seen_none : (N : ℕ) (w : List ℕ) → N ≤ length w → ((v : ℕ) → v < N → get_or w v 0 ≡ 0) → Seen N [] w
unfolding member
seen_none N w long zeros = record { long = long; holds = λ v h. zeros v h ∙ sym (when_no false 1 refl) }

seen_more : {N : ℕ} {before w : List ℕ} (v : ℕ) → v < N → Seen N before w → Seen N (v ∷ before) (set w v 1)
seen_more {N} {before} {w} v h s = record { long = omega (arith, length-set w v 1, s.long); holds = λ a k. one a k (ℕ_discrete v a) }
  where
    one : (a : ℕ) → a < N → Dec (v ≡ a) → get_or (set w v 1) a 0 ≡ when (member a (v ∷ before)) 1
    one a k (yes e) =
        ap (λ x. get_or (set w v 1) x 0) (sym e) ∙ get_or-set_same w v 1 0 (omega (arith, s.long)) ∙ sym (when_yes (member a (v ∷ before)) 1 (member-here a v before e))
    one a k (no e) = get_or-set_other w v a 1 0 (λ q. e (sym q)) ∙ s.holds a k ∙ ap (λ (b : Bool). when b 1) (sym (member_later a v before e))

module _ {N : ℕ} {before w : List ℕ} (s : Seen N before w) (v : ℕ) (h : v < N) where
  absent : get_or w v 0 ≡ 0 → member v before ≡ false
  absent e = when_zero (member v before) 1 (omega arith) (sym (s.holds v h) ∙ e)

  present : get_or w v 0 ≢ 0 → member v before ≡ true
  present n = pick (member v before) refl
    where
      pick : (b : Bool) → member v before ≡ b → member v before ≡ true
      pick true e = e
      pick false e = absurd (n (s.holds v h ∙ when_no (member v before) 1 e))

  pub seen_new : get_or w v 0 ≡ 0 → is_new N before v ≡ true
  seen_new e = new_when_absent N before v h (absent e)

  pub seen_old : get_or w v 0 ≢ 0 → is_new N before v ≡ false
  seen_old n = not_new_when_present N before v h (present n)

  -- Where v is the parent of c.
  pub seen_parent_later : (up : ℕ → ℕ) (c : ℕ) → up c ≡ suc v → get_or w v 0 ≡ 0 → parent_later up before c ≡ true
  seen_parent_later up c p e = later_when_absent up before c v p (absent e)

  pub seen_parent_before : (up : ℕ → ℕ) (c : ℕ) → up c ≡ suc v → get_or w v 0 ≢ 0 → parent_later up before c ≡ false
  seen_parent_before up c p n = not_later_when_present up before c v p (present n)

-- The first i entries of the order have been passed and marked, in a list that was w₀: what is left decides.
pub record Passing (test : List ℕ → ℕ → Bool) (N : ℕ) (order w₀ : List ℕ) (i : ℕ) (w : List ℕ) : Type 0 where
  pub before : List ℕ
  pub same_length : length w ≡ length w₀
  pub seen : Seen N before w
  pub left : along test [] order ≡ along test before (drop i order)

pub passing_begins : (test : List ℕ → ℕ → Bool) {N : ℕ} (order : List ℕ) {w : List ℕ} → Seen N [] w → Passing test N order w 0 w
passing_begins test order s = record { before = []; same_length = refl; seen = s; left = refl }

pub passing_ends : {test : List ℕ → ℕ → Bool} {N : ℕ} {order w₀ : List ℕ} {i : ℕ} {w : List ℕ} → length order ≤ i → Passing test N order w₀ i w
    → along test [] order ≡ true
passing_ends {test} {N} {order} h s = s.left ∙ ap (along test s.before) (drop_of_length-le order h) ∙ along_end test s.before

module _ {test : List ℕ → ℕ → Bool} {N : ℕ} {order w₀ : List ℕ} {i : ℕ} {w : List ℕ} (h : i < length order) (s : Passing test N order w₀ i w) where
  here : along test [] order ≡ along test s.before (get_or order i 0 ∷ drop (suc i) order)
  here = s.left ∙ ap (along test s.before) (drop-cons order i 0 h)

  pub passing_on : get_or order i 0 < N → test s.before (get_or order i 0) ≡ true → Passing test N order w₀ (i + 1) (set w (get_or order i 0) 1)
  passing_on b t =
      let e : suc i ≡ i + 1 = omega arith in
      record {
        before = get_or order i 0 ∷ s.before;
        same_length = length-set w (get_or order i 0) 1 ∙ s.same_length;
        seen = seen_more (get_or order i 0) b s.seen;
        left = here ∙ along_on test s.before (drop (suc i) order) (get_or order i 0) t ∙ ap (λ k. along test (get_or order i 0 ∷ s.before) (drop k order)) e;
      }

  pub passing_stops : test s.before (get_or order i 0) ≡ false → along test [] order ≡ false
  passing_stops t = here ∙ along_stop test s.before (drop (suc i) order) (get_or order i 0) t
