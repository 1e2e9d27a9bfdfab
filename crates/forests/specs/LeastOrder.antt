-- The least order with each child before its parent, executable: the numbers without children in rising order, and after each number
-- its parent, as soon as all children of the parent are placed. That it is the least is shown in Least.
use Rattle.std.specs.Prelude.{◌≡◌, refl, Bool, true, false, List, [], ◌∷◌, ◌++◌, ℕ, zero, suc, get_or, eqb}
use Rattle.orbits.specs.Finding.{member}

-- All children of p below k are placed.
unfoldable pub ready : (ℕ → ℕ) → List ℕ → ℕ → ℕ → Bool
unfolding member
ready up placed p zero = true
ready up placed p (suc c) =
    elim (eqb (up c) (suc p)) [
      | true ↦ elim (member c placed) [ true ↦ ready up placed p c | false ↦ false ]
      | false ↦ ready up placed p c
    ]

-- What follows the number v, which is placed: its parent, if all children of the parent are placed, and what follows the parent.
-- The third number only bounds the way up; parents are smaller, so v will do.
unfoldable pub climb : ℕ → (ℕ → ℕ) → List ℕ → ℕ → ℕ → List ℕ
unfolding ready
climb N up placed zero v = []
climb N up placed (suc k) v =
    elim (up v) [
      | zero ↦ []
      | suc p ↦ elim (ready up placed p N) [ true ↦ p ∷ climb N up (p ∷ placed) k p | false ↦ [] ]
    ]

-- The numbers placed after a list has been appended.
unfoldable pub after : List ℕ → List ℕ → List ℕ
after [] placed = placed
after (x ∷ l) placed = after l (x ∷ placed)

-- The order from the number v on, of which k are left.
unfoldable pub order_from : ℕ → (ℕ → ℕ) → ℕ → ℕ → List ℕ → List ℕ
unfolding ready climb after
order_from N up zero v placed = []
order_from N up (suc k) v placed =
    elim (ready up [] v N) [
      | true ↦ let l = v ∷ climb N up (v ∷ placed) v v in l ++ order_from N up k (suc v) (after l placed)
      | false ↦ order_from N up k (suc v) placed
    ]

-- The order of all numbers below N.
unfoldable pub least_order : ℕ → (ℕ → ℕ) → List ℕ
unfolding order_from
least_order N up = order_from N up N 0 []

-- 0 has the children 1 and 2, 1 has the child 3, and 4 stands alone.
example : least_order 5 (λ v. get_or (0 ∷ 1 ∷ 1 ∷ 2 ∷ 0 ∷ []) v 0) ≡ 2 ∷ 3 ∷ 1 ∷ 0 ∷ 4 ∷ []
unfolding least_order
example = refl
