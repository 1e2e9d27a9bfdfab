-- Orders of the numbers below N: each once, and each child before its parent, which is each number before all its ancestors.
use Rattle.std.specs.Prelude.{◌≡◌, ◌≢◌, ◌⊎◌, ◌↔◌, List, ◌∷◌, ℕ, suc, ◌<◌, length, get_or}
use Rattle.std.proofs.Common.{sym, ◌∙◌, inl, inr, arith}
use Rattle.orbits.specs.Members.{In, Distinct, in_dec, in_cases, ordered_cons, distinct_length}
use Rattle.forests.specs.Forest.{ParentsBelow, Above, parent, further}

-- The list is an arrangement of the numbers 0 to N - 1: "every region once" (document 02, request h).
pub record EachOnce (N : ℕ) (l : List ℕ) : Type 0 where
  pub long : length l ≡ N
  pub once : Distinct l
  pub below : (a : ℕ) → In a l → a < N

-- In the list, s comes before r: "each surrounded region comes before each region that surrounds it" (document 02, request h).
abbrev pub Before : List ℕ → ℕ → ℕ → Type 0
Before l s r = (i j : ℕ) → i < length l → j < length l → get_or l i 0 ≡ s → get_or l j 0 ≡ r → i < j

-- Each child comes before its parent.
abbrev pub ChildrenFirst : (ℕ → ℕ) → List ℕ → Type 0
ChildrenFirst up l = (s p : ℕ) → up s ≡ suc p → Before l s p

-- Every number below N has a place.
pub each_in : (N : ℕ) (l : List ℕ) → EachOnce N l → (v : ℕ) → v < N → In v l
each_in N l e v h = pick (in_dec v l)
  where
    pick : Dec (In v l) → In v l
    pick (yes i) = i
    pick (no n) =
        let d : Distinct (v ∷ l) = ordered_cons ◌≢◌ v l (λ a i q. n (i.0, i.1, i.2 ∙ sym q)) e.once in
        let b : (a : ℕ) → In a (v ∷ l) → a < N = λ a i. one a (in_cases a v l i) in
        absurd (omega (arith, distinct_length N (v ∷ l) d b, e.long))
      where
        one : (a : ℕ) → (a ≡ v) ⊎ In a l → a < N
        one a (inl q) = omega arith
        one a (inr i) = e.below a i

module _ (N : ℕ) (up : ℕ → ℕ) (low : ParentsBelow N up) (l : List ℕ) (each : EachOnce N l) where
  above_last : ChildrenFirst up l → {r s : ℕ} → s < N → Above up r s → Before l s r
  above_last f {r} h (parent {s} e) i j hi hj x y = f s r e i j hi hj x y
  above_last f {r} h (further {s} {p} e a) i j hi hj x y =
      let b : p < s = low s p h e in
      let k : In p l = each_in N l each p (omega arith) in
      omega (arith, f s p e i k.0 hi k.1 x k.2, above_last f (omega arith) a k.0 j k.1 hj k.2 y)

  -- Each number comes before all its ancestors, exactly when each child comes before its parent.
  pub first_exactly_when_children_first : ((r s : ℕ) → s < N → Above up r s → Before l s r) ↔ ChildrenFirst up l
  first_exactly_when_children_first = (
    λ g s p e i j hi hj x y. g p s (omega (arith, each.below s (i, hi, x))) (parent e) i j hi hj x y,
    λ f r s h a. above_last f h a,
  )
