-- The first place of a number in a list, and whether it stands in it: executable.
use Rattle.std.specs.Prelude.{◌≡◌, refl, ◌≢◌, ◌⊎◌, Bool, true, false, List, [], ◌∷◌, ℕ, zero, suc, ◌≤◌, ◌<◌, length, get_or, eqb}
use Rattle.std.proofs.Common.{sym, ap, ◌∙◌, inl, inr, arith, eq-eqb, ne_eqb}
use Rattle.std.proofs.lemmas.Bool.{false≢true}
use Rattle.std.proofs.Math.Decide.{ℕ_discrete}
use Rattle.orbits.specs.Members.{In, in_cases, in_later, in_none}

-- Where v stands first in the list; its length where v does not stand in it.
unfoldable pub place_of : ℕ → List ℕ → ℕ
place_of v [] = 0
place_of v (x ∷ l) = elim (eqb x v) [ true ↦ 0 | false ↦ suc (place_of v l) ]

-- Whether v stands in the list.
unfoldable pub member : ℕ → List ℕ → Bool
member v [] = false
member v (x ∷ l) = elim (eqb x v) [ true ↦ true | false ↦ member v l ]

module _ (v x : ℕ) (l : List ℕ) where
  place_here : x ≡ v → place_of v (x ∷ l) ≡ 0
  unfolding place_of
  place_here e = rw (eq-eqb x v e, place_of)

  place_later : x ≢ v → place_of v (x ∷ l) ≡ suc (place_of v l)
  unfolding place_of
  place_later e = rw (ne_eqb x v e, place_of)

  pub member-here : x ≡ v → member v (x ∷ l) ≡ true
  unfolding member
  member-here e = rw (eq-eqb x v e, member)

  pub member_later : x ≢ v → member v (x ∷ l) ≡ member v l
  unfolding member
  member_later e = rw (ne_eqb x v e, member)

-- No place where v stands is before it, and v stands there.
pub place-first : (v : ℕ) (l : List ℕ) (i : ℕ) → i < length l → get_or l i 0 ≡ v → place_of v l ≤ i
place-first v [] i h e = let z : ⊥ = omega arith in absurd z
place-first v (x ∷ l) zero h e = omega (arith, place_here v x l e)
place-first v (x ∷ l) (suc i) h e = pick (ℕ_discrete x v) (place-first v l i (omega arith) e)
  where
    pick : Dec (x ≡ v) → place_of v l ≤ i → place_of v (x ∷ l) ≤ suc i
    pick (yes a) ih = omega (arith, place_here v x l a)
    pick (no a) ih = omega (arith, place_later v x l a)

pub place-holds : (v : ℕ) (l : List ℕ) → In v l → get_or l (place_of v l) 0 ≡ v
place-holds v [] i = in_none v i
place-holds v (x ∷ l) i = pick (ℕ_discrete x v) (in_cases v x l i) (place-holds v l)
  where
    pick : Dec (x ≡ v) → (v ≡ x) ⊎ In v l → (In v l → get_or l (place_of v l) 0 ≡ v) → get_or (x ∷ l) (place_of v (x ∷ l)) 0 ≡ v
    pick (yes a) j ih = ap (λ k. get_or (x ∷ l) k 0) (place_here v x l a) ∙ a
    pick (no a) (inl e) ih = absurd (a (sym e))
    pick (no a) (inr j) ih = ap (λ k. get_or (x ∷ l) k 0) (place_later v x l a) ∙ ih j

pub member_in : (v : ℕ) (l : List ℕ) → In v l → member v l ≡ true
member_in v [] i = in_none v i
member_in v (x ∷ l) i = pick (ℕ_discrete x v) (in_cases v x l i) (member_in v l)
  where
    pick : Dec (x ≡ v) → (v ≡ x) ⊎ In v l → (In v l → member v l ≡ true) → member v (x ∷ l) ≡ true
    pick (yes a) j ih = member-here v x l a
    pick (no a) (inl e) ih = absurd (a (sym e))
    pick (no a) (inr j) ih = member_later v x l a ∙ ih j

pub member_not : (v : ℕ) (l : List ℕ) → (In v l → ⊥) → member v l ≡ false
unfolding member
member_not v [] n = refl
member_not v (x ∷ l) n = pick (ℕ_discrete x v) (member_not v l (λ i. n (in_later v x l i)))
  where
    pick : Dec (x ≡ v) → member v l ≡ false → member v (x ∷ l) ≡ false
    pick (yes a) ih = absurd (n (0, omega arith, a))
    pick (no a) ih = member_later v x l a ∙ ih

pub member_says : (v : ℕ) (l : List ℕ) → member v l ≡ true → In v l
unfolding member
member_says v [] h = absurd (false≢true h)
member_says v (x ∷ l) h = pick (ℕ_discrete x v) (member_says v l)
  where
    pick : Dec (x ≡ v) → (member v l ≡ true → In v l) → In v (x ∷ l)
    pick (yes a) ih = (0, omega arith, a)
    pick (no a) ih = in_later v x l (ih (sym (member_later v x l a) ∙ h))
