-- Whether two lists of numbers are equal: executable.
use Rattle.std.specs.Prelude.{◌≡◌, refl, ◌↔◌, Bool, true, false, ◌&&◌, List, [], ◌∷◌, ℕ, eqb}
use Rattle.std.proofs.Common.{ap₂, subst, eq-eqb, eqb-true}
use Rattle.std.proofs.lemmas.Bool.{false≢true}
use Rattle.sequences.specs.Cases.{and_both, both_and}

unfoldable pub same : List ℕ → List ℕ → Bool
same [] [] = true
same [] (y ∷ ys) = false
same (x ∷ xs) [] = false
same (x ∷ xs) (y ∷ ys) = eqb x y && same xs ys

pub same_exactly : (xs ys : List ℕ) → (same xs ys ≡ true) ↔ (xs ≡ ys)
unfolding same
same_exactly xs ys = (to xs ys, λ e. subst (λ (z : List ℕ). same xs z ≡ true) e (itself xs))
  where
    to : (xs ys : List ℕ) → same xs ys ≡ true → xs ≡ ys
    to [] [] h = refl
    to [] (y ∷ ys) h = absurd (false≢true h)
    to (x ∷ xs) [] h = absurd (false≢true h)
    to (x ∷ xs) (y ∷ ys) h =
        let b = and_both (eqb x y) (same xs ys) h in
        ap₂ {A = ℕ} {B = List ℕ} ◌∷◌ (eqb-true x y b.0) (to xs ys b.1)

    itself : (xs : List ℕ) → same xs xs ≡ true
    itself [] = refl
    itself (x ∷ xs) = both_and (eqb x x) (same xs xs) (eq-eqb x x refl) (itself xs)
