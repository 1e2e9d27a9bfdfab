-- Lists that rise: two with the same members are one.
use Rattle.std.specs.Prelude.{◌≡◌, refl, ◌⊎◌, List, [], ◌∷◌, ℕ, ◌<◌}
use Rattle.std.proofs.Common.{sym, ap₂, inl, inr, arith}
use Rattle.orbits.specs.Members.{In, Ordered, in_first, in_later, in_cases, in_none, ordered_rest, ordered_first}

-- All members of the one stand in the other.
abbrev pub Among : List ℕ → List ℕ → Type 0
Among xs ys = (a : ℕ) → In a xs → In a ys

-- Of two rising lists with the same members, the first entries are equal, and so are the rests.
same_first : (x y : ℕ) (xs ys : List ℕ) → Ordered ◌<◌ (x ∷ xs) → Ordered ◌<◌ (y ∷ ys) → Among (x ∷ xs) (y ∷ ys) → Among (y ∷ ys) (x ∷ xs) → x ≡ y
same_first x y xs ys o p f g = pick (in_cases x y ys (f x (in_first x xs))) (in_cases y x xs (g y (in_first y ys)))
  where
    pick : (x ≡ y) ⊎ In x ys → (y ≡ x) ⊎ In y xs → x ≡ y
    pick (inl e) k = e
    pick (inr i) (inl e) = sym e
    pick (inr i) (inr j) = absurd (omega (arith, ordered_first ◌<◌ y ys p x i, ordered_first ◌<◌ x xs o y j))

rest_among : (x y : ℕ) (xs ys : List ℕ) → x ≡ y → Ordered ◌<◌ (x ∷ xs) → Among (x ∷ xs) (y ∷ ys) → Among xs ys
rest_among x y xs ys e o f a i = pick (in_cases a y ys (f a (in_later a x xs i)))
  where
    pick : (a ≡ y) ⊎ In a ys → In a ys
    pick (inl q) = absurd (omega (arith, ordered_first ◌<◌ x xs o a i))
    pick (inr k) = k

pub rising_same : (xs ys : List ℕ) → Ordered ◌<◌ xs → Ordered ◌<◌ ys → Among xs ys → Among ys xs → xs ≡ ys
rising_same [] [] o p f g = refl
rising_same [] (y ∷ ys) o p f g = in_none y (g y (in_first y ys))
rising_same (x ∷ xs) [] o p f g = in_none x (f x (in_first x xs))
rising_same (x ∷ xs) (y ∷ ys) o p f g =
    let e : x ≡ y = same_first x y xs ys o p f g in
    ap₂ (λ (a : ℕ) (l : List ℕ). a ∷ l) e
    (rising_same xs ys (ordered_rest ◌<◌ x xs o) (ordered_rest ◌<◌ y ys p) (rest_among x y xs ys e o f) (rest_among y x ys xs (sym e) p g))
