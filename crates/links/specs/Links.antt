-- Places with one label linked: from each place on the next with a label, and the chain of all of them.
use Rattle.std.specs.Prelude.{◌≡◌, ◌≢◌, ◌↔◌, Bool, true, false, List, [], ◌∷◌, eqb}
use Rattle.std.proofs.Common.{sym, ◌∙◌, subst}
use Rattle.std.proofs.Math.Path.{ap}
use Prim.Native.Nat.{ℕ, zero, suc, ◌+◌, ◌-◌, ◌≤◌, ◌<◌}
use Rattle.std.proofs.Math.Decide.{ℕ_discrete}
use native.Mathlib.Omega.{arith}
use borrow.Author.Tests.{eq-eqb, ne_eqb, eqb-true}
use Rattle.sequences.specs.Ranges.{range, length-range, range_at}
use Rattle.orbits.specs.Members.{In, Ordered}
use Rattle.grid.specs.Listing.{keep}
use Rattle.grid.specs.Keeping.{keep_yes, keep_no, in_keep, keep_in, ordered_keep}

-- The place j has the label r.
unfoldable pub bears : (ℕ → ℕ) → ℕ → ℕ → Bool
bears label r j = eqb (label j) r

-- The places with the label r among the k places from i on.
unfoldable pub places_of : (ℕ → ℕ) → ℕ → ℕ → ℕ → List ℕ
unfolding keep bears range
places_of label r i k = keep (bears label r) (range i k)

-- 1 plus the first of these places, 0 where there is none.
unfoldable pub first_of : (ℕ → ℕ) → ℕ → ℕ → ℕ → ℕ
first_of label r i zero = 0
first_of label r i (suc k) = elim (eqb (label i) r) [ true ↦ suc i | false ↦ first_of label r (suc i) k ]

-- The same among the places from i on, of `count` places in all.
unfoldable pub places_from : (ℕ → ℕ) → ℕ → ℕ → ℕ → List ℕ
unfolding places_of
places_from label count r i = places_of label r i (count - i)

unfoldable pub first_from : (ℕ → ℕ) → ℕ → ℕ → ℕ → ℕ
unfolding first_of
first_from label count r i = first_of label r i (count - i)

-- ---- successive numbers

pub in_range_from : (a i k : ℕ) → In a (range i k) ↔ ((i ≤ a) × (a < i + k))
in_range_from a i k = (
  λ w. let at = range_at i k w.0 (omega (arith, w.1, length-range i k)) in
      (omega (arith, at, w.2), omega (arith, at, w.1, w.2, length-range i k)),
  λ h. let e : i + (a - i) ≡ a = omega arith in
      (a - i, omega (arith, length-range i k), range_at i k (a - i) (omega arith) ∙ e),
)

range_rises_from : (i k : ℕ) → Ordered ◌<◌ (range i k)
range_rises_from i k a b h l =
    omega (arith, length-range i k, range_at i k a (omega (arith, length-range i k)), range_at i k b (omega (arith, length-range i k)))

-- ---- which places these are

module _ (label : ℕ → ℕ) (count r : ℕ) where
  bears_yes : (j : ℕ) → label j ≡ r → bears label r j ≡ true
  unfolding bears
  bears_yes j h = eq-eqb (label j) r h

  bears_no : (j : ℕ) → label j ≢ r → bears label r j ≡ false
  unfolding bears
  bears_no j h = ne_eqb (label j) r h

  pub in_places : (i j : ℕ) → In j (places_from label count r i) → (i ≤ j) × (j < count) × (label j ≡ r)
  unfolding places_from places_of bears
  in_places i j w =
      let k = in_keep (bears label r) (range i (count - i)) j w in
      let l = (in_range_from j i (count - i)).0 k.0 in
      (l.0, omega arith, eqb-true (label j) r k.1)

  pub places_in : (i j : ℕ) → i ≤ j → j < count → label j ≡ r → In j (places_from label count r i)
  unfolding places_from places_of
  places_in i j a b e = keep_in (bears label r) (range i (count - i)) j ((in_range_from j i (count - i)).1 (a, omega arith)) (bears_yes j e)

  pub places_rise : (i : ℕ) → Ordered ◌<◌ (places_from label count r i)
  unfolding places_from places_of
  places_rise i = ordered_keep (bears label r) ◌<◌ (range i (count - i)) (range_rises_from i (count - i))

  -- One place more, at the front.
  pub first-here : (i : ℕ) → i < count → label i ≡ r → first_from label count r i ≡ suc i
  unfolding first_from first_of
  first-here i l h =
      let e : count - i ≡ suc (count - suc i) = omega arith in
      ap (first_of label r i) e ∙ rw (eq-eqb (label i) r h, first_of)

  pub first_later : (i : ℕ) → i < count → label i ≢ r → first_from label count r i ≡ first_from label count r (suc i)
  unfolding first_from first_of
  first_later i l h =
      let e : count - i ≡ suc (count - suc i) = omega arith in
      ap (first_of label r i) e ∙ rw (ne_eqb (label i) r h, first_of)

  pub first_end : (i : ℕ) → count ≤ i → first_from label count r i ≡ 0
  unfolding first_from first_of
  first_end i l = let e : count - i ≡ 0 = omega arith in ap (first_of label r i) e

  pub places_here : (i : ℕ) → i < count → label i ≡ r → places_from label count r i ≡ i ∷ places_from label count r (suc i)
  unfolding places_from places_of range
  places_here i l h =
      let e : count - i ≡ suc (count - suc i) = omega arith in
      ap (λ (k : ℕ). keep (bears label r) (range i k)) e ∙ keep_yes (bears label r) i (range (suc i) (count - suc i)) (bears_yes i h)

  pub places_later : (i : ℕ) → i < count → label i ≢ r → places_from label count r i ≡ places_from label count r (suc i)
  unfolding places_from places_of range
  places_later i l h =
      let e : count - i ≡ suc (count - suc i) = omega arith in
      ap (λ (k : ℕ). keep (bears label r) (range i k)) e ∙ keep_no (bears label r) i (range (suc i) (count - suc i)) (bears_no i h)

  pub places_end : (i : ℕ) → count ≤ i → places_from label count r i ≡ []
  unfolding places_from places_of range keep
  places_end i l = let e : count - i ≡ 0 = omega arith in ap (λ (k : ℕ). keep (bears label r) (range i k)) e

  -- ---- the first of them leads along all of them

  -- The first place from i on, and what comes after it.
  pub record Next (i j : ℕ) : Type 0 where
    pub from : i ≤ j
    pub place : j < count
    pub labelled : label j ≡ r
    pub then : places_from label count r i ≡ j ∷ places_from label count r (suc j)

  some_by : (k i j : ℕ) → count ≡ i + k → first_from label count r i ≡ suc j → Next i j
  some_by zero i j l h = absurd (omega (arith, first_end i (omega arith)))
  some_by (suc k) i j l h = pick (ℕ_discrete (label i) r) (some_by k (suc i) j (omega arith))
    where
      pick : Dec (label i ≡ r) → (first_from label count r (suc i) ≡ suc j → Next (suc i) j) → Next i j
      pick (yes e) ih =
          let same : i ≡ j = omega (arith, first-here i (omega arith) e) in
          subst (Next i) same (record { from = omega arith; place = omega arith; labelled = e; then = places_here i (omega arith) e })
      pick (no d) ih =
          let w = ih (sym (first_later i (omega arith) d) ∙ h) in
          record { from = omega (arith, w.from); place = w.place; labelled = w.labelled; then = places_later i (omega arith) d ∙ w.then }

  none_by : (k i : ℕ) → count ≡ i + k → first_from label count r i ≡ 0 → places_from label count r i ≡ []
  none_by zero i l h = places_end i (omega arith)
  none_by (suc k) i l h = pick (ℕ_discrete (label i) r) (none_by k (suc i) (omega arith))
    where
      pick : Dec (label i ≡ r) → (first_from label count r (suc i) ≡ 0 → places_from label count r (suc i) ≡ []) → places_from label count r i ≡ []
      pick (yes e) ih = absurd (omega (arith, first-here i (omega arith) e))
      pick (no d) ih = places_later i (omega arith) d ∙ ih (sym (first_later i (omega arith) d) ∙ h)

  pub next_some : (i j : ℕ) → i ≤ count → first_from label count r i ≡ suc j → Next i j
  next_some i j l h = some_by (count - i) i j (omega arith) h

  pub next_none : (i : ℕ) → i ≤ count → first_from label count r i ≡ 0 → places_from label count r i ≡ []
  next_none i l h = none_by (count - i) i (omega arith) h

-- Labels that agree below the count give the same places.
same_by : (label other : ℕ → ℕ) (count r k i : ℕ) → count ≡ i + k → ((j : ℕ) → j < count → label j ≡ other j) → first_from label count r i ≡ first_from other count r i
same_by label other count r zero i l same = first_end label count r i (omega arith) ∙ sym (first_end other count r i (omega arith))
same_by label other count r (suc k) i l same = pick (ℕ_discrete (label i) r) (same_by label other count r k (suc i) (omega arith) same)
  where
    here : label i ≡ other i
    here = same i (omega arith)

    pick : Dec (label i ≡ r) → first_from label count r (suc i) ≡ first_from other count r (suc i) → first_from label count r i ≡ first_from other count r i
    pick (yes e) ih = first-here label count r i (omega arith) e ∙ sym (first-here other count r i (omega arith) (sym here ∙ e))
    pick (no d) ih =
        first_later label count r i (omega arith) d ∙ ih ∙ sym (first_later other count r i (omega arith) (λ e. d (here ∙ e)))

pub first_same : (label other : ℕ → ℕ) (count r i : ℕ) → i ≤ count → ((j : ℕ) → j < count → label j ≡ other j) → first_from label count r i ≡ first_from other count r i
first_same label other count r i l same = same_by label other count r (count - i) i (omega arith) same
