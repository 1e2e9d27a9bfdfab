-- The two walks along an order, which mark in the front of the work list the numbers that they have passed.
use Rattle.std.specs.Prelude.{◌≡◌, ◌≢◌, Bool, true, false, not, List, [], ℕ, zero, suc, ◌+◌, ◌≤◌, ◌<◌, length, get_or, set, eqb}
use Rattle.std.proofs.Math.Path.{refl, sym}
use Rattle.std.proofs.Common.{ap, ◌∙◌, subst, arith, ext_get_or, get_or-set_other, eq-eqb, ne_eqb}
use Rattle.std.proofs.Math.Decide.{ℕ_discrete, dec_lt}
use Rattle.sequences.specs.Fill.{fill, length-fill, fill-inside, fill-beyond}
use Rattle.forests.specs.Forest.{ParentsBelow}
use Rattle.forests.specs.Checking.{along, is_new, new_outside, parent_later, later_without_parent, is_each_once, once_of_that_length}
use Rattle.forests.specs.Seen.{seen_none, seen_new, seen_old, seen_parent_later, seen_parent_before, Passing, passing_begins, passing_on, passing_stops, passing_ends}

-- The work list has an entry for each number below `count`, and these are 0.
pub record Blank (count : ℕ) (work : List ℕ) : Type 0 where
  pub room : count ≤ length work
  pub zeros : (v : ℕ) → v < count → get_or work v 0 ≡ 0

-- After the first i entries, where a test of each and of those before it decides; what lies behind the marks is as it was.
pub record MarkedTo (test : List ℕ → ℕ → Bool) (order work₀ work : List ℕ) (i : ℕ) : Type 0 where
  pub passing : Passing test (length order) order work₀ i work
  pub beyond : (j : ℕ) → length order ≤ j → get_or work j 0 ≡ get_or work₀ j 0

-- The walk has ended, at the first entry that fails the test or past the last. Which marks it left in front is free.
pub record Marking (test : List ℕ → ℕ → Bool) (order work work' : List ℕ) (r : Bool) : Type 0 where
  pub tested : r ≡ along test [] order
  pub long : length work' ≡ length work
  pub beyond : (j : ℕ) → length order ≤ j → get_or work' j 0 ≡ get_or work j 0

pub begin : (test : List ℕ → ℕ → Bool) {order work : List ℕ} → Blank (length order) work → MarkedTo test order work work 0
begin test {order} {work} blank = record {
  passing = passing_begins test order (seen_none (length order) work blank.room blank.zeros);
  beyond = λ j h. refl;
}

module _ {test : List ℕ → ℕ → Bool} {order work₀ work : List ℕ} {i : ℕ} (g : MarkedTo test order work₀ work i) where
  pub all_pass : length order ≤ i → Marking test order work₀ work true
  all_pass h = record { tested = sym (passing_ends h g.passing); long = g.passing.same_length; beyond = g.beyond }

  module _ (less : i < length order) where
    one_fails : test g.passing.before (get_or order i 0) ≡ false → Marking test order work₀ work false
    one_fails t = record { tested = sym (passing_stops less g.passing t); long = g.passing.same_length; beyond = g.beyond }

    one_passes : get_or order i 0 < length order → test g.passing.before (get_or order i 0) ≡ true → MarkedTo test order work₀ (set work (get_or order i 0) 1) (i + 1)
    one_passes b t = record {
      passing = passing_on less g.passing b t;
      beyond = λ j h. get_or-set_other work (get_or order i 0) j 1 0 (omega arith) ∙ g.beyond j h;
    }

-- ---- whether each number is new

abbrev pub new_test : List ℕ → List ℕ → ℕ → Bool
new_test order = is_new (length order)

abbrev pub NewMarked : List ℕ → List ℕ → List ℕ → Bool → Type 0
NewMarked order work work' r = Marking (is_new (length order)) order work work' r

module _ {order work₀ work : List ℕ} {i : ℕ} (g : MarkedTo (new_test order) order work₀ work i) (less : i < length order) where
  pub too_large : length order ≤ get_or order i 0 → NewMarked order work₀ work false
  too_large h = one_fails g less (new_outside (length order) g.passing.before (get_or order i 0) h)

  module _ (low : get_or order i 0 < length order) where
    pub number_fits : get_or order i 0 < length work
    number_fits = omega (arith, g.passing.seen.long)

    pub met_before : get_or work (get_or order i 0) 0 ≢ 0 → NewMarked order work₀ work false
    met_before h = one_fails g less (seen_old g.passing.seen (get_or order i 0) low h)

    pub is_new_lem : get_or work (get_or order i 0) 0 ≡ 0 → MarkedTo (new_test order) order work₀ (set work (get_or order i 0) 1) (i + 1)
    is_new_lem h = one_passes g less low (seen_new g.passing.seen (get_or order i 0) low h)

pub blank_order : {count : ℕ} (order : List ℕ) {work : List ℕ} → Blank count work → length order ≡ count → Blank (length order) work
blank_order order {work} blank e = subst (λ (k : ℕ). Blank k work) (sym e) blank

-- The marks are cleared again.
module _ {count : ℕ} {order work : List ℕ} (blank : Blank count work) (e : length order ≡ count) {work' : List ℕ} {r : Bool} (m : NewMarked order work work' r) where
  pub clear_room : 0 + count ≤ length work'
  clear_room = omega (arith, m.long, blank.room)

  pub as_before : fill work' 0 count 0 ≡ work
  as_before = ext_get_or 0 (fill work' 0 count 0) work (length-fill work' 0 count 0 ∙ m.long) (λ j h. pick j (dec_lt j count))
    where
      pick : (j : ℕ) → Dec (j < count) → get_or (fill work' 0 count 0) j 0 ≡ get_or work j 0
      pick j (yes l) = fill-inside work' 0 count 0 j clear_room (omega arith) (omega arith) ∙ sym (blank.zeros j l)
      pick j (no l) = fill-beyond work' 0 count 0 j (omega arith) ∙ m.beyond j (omega arith)

  pub once_tested : r ≡ is_each_once count order
  once_tested = m.tested ∙ ap (λ (k : ℕ). along (is_new k) [] order) e ∙ sym (once_of_that_length count order e)

-- ---- whether no parent comes before its child

-- The parents of the numbers, from the place `whole` on: 1 plus the parent, 0 where there is none.
abbrev pub parents_in : ℕ → List ℕ → ℕ → ℕ
parents_in whole work v = get_or work (whole + v) 0

-- The parent of v bears a mark.
unfoldable pub parent_marked : ℕ → List ℕ → ℕ → Bool
parent_marked whole work v = elim (get_or work (whole + v) 0) [ zero ↦ false | suc p ↦ not (eqb (get_or work p 0) 0) ]

-- v has an entry for its parent, and the parent, if there is one, has an entry in front.
pub record NumberOf (whole : ℕ) (work : List ℕ) (v : ℕ) : Type 0 where
  pub low : whole + v < length work
  pub parent : get_or work (whole + v) 0 ≤ length work

module _ (whole : ℕ) (work : List ℕ) (v : ℕ) where
  pub marked_none : get_or work (whole + v) 0 ≡ 0 → false ≡ parent_marked whole work v
  unfolding parent_marked
  marked_none e = sym (rw (e, parent_marked) refl)

  pub marked_some : (p : ℕ) → get_or work (whole + v) 0 ≡ suc p → parent_marked whole work v ≡ not (eqb (get_or work p 0) 0)
  unfolding parent_marked
  marked_some p e = rw (e, parent_marked) refl

-- The numbers of an order, with a blank entry each in front and their parents, which are smaller, from `whole` on.
pub record Families (whole : ℕ) (order work : List ℕ) : Type 0 where
  pub blank : Blank (length order) work
  pub small : whole ≤ 65536
  pub apart : length order ≤ whole
  pub room : whole + length order ≤ length work
  pub lower : ParentsBelow (length order) (parents_in whole work)
  pub below : (i : ℕ) → i < length order → get_or order i 0 < length order

abbrev pub LaterMarked : ℕ → List ℕ → List ℕ → List ℕ → Bool → Type 0
LaterMarked whole order work work' r = Marking (parent_later (parents_in whole work)) order work work' r

module _ {whole : ℕ} {order work₀ : List ℕ} (f : Families whole order work₀) {work : List ℕ} {i : ℕ}
    (g : MarkedTo (parent_later (parents_in whole work₀)) order work₀ work i) (less : i < length order) where
  parent_is : get_or work (whole + get_or order i 0) 0 ≡ parents_in whole work₀ (get_or order i 0)
  parent_is = g.beyond (whole + get_or order i 0) (omega (arith, f.apart))

  parent_low : (p : ℕ) → get_or work (whole + get_or order i 0) 0 ≡ suc p → p < length order
  parent_low p e = omega (arith, f.below i less, f.lower (get_or order i 0) p (f.below i less) (sym parent_is ∙ e))

  pub number_of : NumberOf whole work (get_or order i 0)
  number_of = record { low = omega (arith, f.below i less, f.room, g.passing.same_length); parent = pick (get_or work (whole + get_or order i 0) 0) refl }
    where
      pick : (u : ℕ) → get_or work (whole + get_or order i 0) 0 ≡ u → get_or work (whole + get_or order i 0) 0 ≤ length work
      pick zero e = omega arith
      pick (suc p) e = omega (arith, parent_low p e, f.room, g.passing.same_length)

  -- The parent's mark answers the test.
  marked_says : (r : Bool) → r ≡ parent_marked whole work (get_or order i 0) → parent_later (parents_in whole work₀) g.passing.before (get_or order i 0) ≡ not r
  marked_says r h = pick (get_or work (whole + get_or order i 0) 0) refl
    where
      pick : (u : ℕ) → get_or work (whole + get_or order i 0) 0 ≡ u → parent_later (parents_in whole work₀) g.passing.before (get_or order i 0) ≡ not r
      pick zero e =
          later_without_parent (parents_in whole work₀) g.passing.before (get_or order i 0) (sym parent_is ∙ e)
          ∙ ap not (marked_none whole work (get_or order i 0) e ∙ sym h)
      pick (suc p) e = seen (ℕ_discrete (get_or work p 0) 0)
        where
          told : r ≡ not (eqb (get_or work p 0) 0)
          told = h ∙ marked_some whole work (get_or order i 0) p e

          seen : Dec (get_or work p 0 ≡ 0) → parent_later (parents_in whole work₀) g.passing.before (get_or order i 0) ≡ not r
          seen (yes z) =
              seen_parent_later g.passing.seen p (parent_low p e) (parents_in whole work₀) (get_or order i 0) (sym parent_is ∙ e) z
              ∙ sym (ap not (told ∙ ap not (eq-eqb (get_or work p 0) 0 z)))
          seen (no z) =
              seen_parent_before g.passing.seen p (parent_low p e) (parents_in whole work₀) (get_or order i 0) (sym parent_is ∙ e) z
              ∙ sym (ap not (told ∙ ap not (ne_eqb (get_or work p 0) 0 z)))

  pub comes_after : {r : Bool} → r ≡ parent_marked whole work (get_or order i 0) → r ≡ true → LaterMarked whole order work₀ work false
  comes_after {r} h e = one_fails g less (marked_says r h ∙ ap not e)

  pub comes_before : {r : Bool} → r ≡ parent_marked whole work (get_or order i 0) → r ≡ false
      → MarkedTo (parent_later (parents_in whole work₀)) order work₀ (set work (get_or order i 0) 1) (i + 1)
  comes_before {r} h e = one_passes g less (f.below i less) (marked_says r h ∙ ap not e)
