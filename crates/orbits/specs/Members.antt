-- Members of a list by their places, lists in an order, lists without repeats.
use Rattle.std.specs.Prelude.{◌≡◌, refl, ◌≢◌, ◌⊎◌, ℕ, zero, suc, ◌+◌, ◌-◌, ◌≤◌, ◌<◌, length, get_or}
use Rattle.std.proofs.Common.{sym, ap, ◌∙◌, subst, inl, inr, arith, length-append, get_or-append-add}
use mathlib.Core.List.{List, [], ◌∷◌, ◌++◌, flat_map}
use Rattle.std.proofs.Math.Decide.{ℕ_discrete, dec_le, dec_lt}
use Rattle.std.proofs.Math.ListN.{get_or-append}
use Rattle.orbits.specs.Pigeon.{Repeat, pigeonhole}

-- a stands in the list: at some place.
abbrev pub In : ℕ → List ℕ → Type 0
In a l = (i : ℕ) × (i < length l) × (get_or l i 0 ≡ a)

-- Each entry stands in the order R to every later one.
abbrev pub Ordered : (ℕ → ℕ → Type 0) → List ℕ → Type 0
Ordered R l = (i j : ℕ) → i < j → j < length l → R (get_or l i 0) (get_or l j 0)

-- No number stands in the list twice.
abbrev pub Distinct : List ℕ → Type 0
Distinct = Ordered ◌≢◌

pub in_first : (a : ℕ) (l : List ℕ) → In a (a ∷ l)
in_first a l = (0, omega arith, refl)

pub in_later : (a x : ℕ) (l : List ℕ) → In a l → In a (x ∷ l)
in_later a x l (i, h, e) = (suc i, omega arith, e)

pub in_cases : (a x : ℕ) (l : List ℕ) → In a (x ∷ l) → (a ≡ x) ⊎ In a l
in_cases a x l (zero, h, e) = inl (sym e)
in_cases a x l (suc i, h, e) = inr (i, omega arith, e)

pub in_none : {A : Type 0} (a : ℕ) → In a [] → A
in_none a (i, h, e) = let z : ⊥ = omega arith in absurd z

pub in_single : (a x : ℕ) → In a (x ∷ []) → a ≡ x
in_single a x (zero, h, e) = sym e
in_single a x (suc i, h, e) = let z : ⊥ = omega arith in absurd z

-- Whether a number stands in a list.
pub in_dec : (a : ℕ) (l : List ℕ) → Dec (In a l)
in_dec a [] = no (λ i. in_none a i)
in_dec a (x ∷ l) = pick (ℕ_discrete a x) (in_dec a l)
  where
    neither : a ≢ x → (In a l → ⊥) → (a ≡ x) ⊎ In a l → ⊥
    neither f g (inl e) = f e
    neither f g (inr i) = g i

    pick : Dec (a ≡ x) → Dec (In a l) → Dec (In a (x ∷ l))
    pick (yes e) d = yes (0, omega arith, sym e)
    pick (no e) (yes i) = yes (in_later a x l i)
    pick (no e) (no i) = no (λ k. neither e i (in_cases a x l k))

pub in_left : (a : ℕ) (xs ys : List ℕ) → In a xs → In a (xs ++ ys)
in_left a xs ys (i, h, e) = (i, omega (arith, length-append xs ys), get_or-append xs ys 0 i h ∙ e)

pub in_right : (a : ℕ) (xs ys : List ℕ) → In a ys → In a (xs ++ ys)
in_right a xs ys (i, h, e) = (length xs + i, omega (arith, length-append xs ys), get_or-append-add xs ys i 0 ∙ e)

-- An entry of xs ++ ys is one of xs or of ys.
pub get_or_right : (xs ys : List ℕ) (i : ℕ) → length xs ≤ i → get_or (xs ++ ys) i 0 ≡ get_or ys (i - length xs) 0
get_or_right xs ys i h =
    let e : i ≡ length xs + (i - length xs) = omega arith in
    ap (λ k. get_or (xs ++ ys) k 0) e ∙ get_or-append-add xs ys (i - length xs) 0

pub in_append : (a : ℕ) (xs ys : List ℕ) → In a (xs ++ ys) → In a xs ⊎ In a ys
in_append a xs ys (i, h, e) =
    elim (dec_lt i (length xs)) [
      | yes l ↦ inl (i, l, sym (get_or-append xs ys 0 i l) ∙ e)
      | no l ↦ inr (i - length xs, omega (arith, length-append xs ys), sym (get_or_right xs ys i (omega arith)) ∙ e)
    ]

-- In `flat_map f xs` stand the members of f x for the members x of xs.
pub in_flat : (f : ℕ → List ℕ) (xs : List ℕ) (a : ℕ) → In a (flat_map f xs) → (x : ℕ) × In x xs × In a (f x)
unfolding flat_map
in_flat f [] a h = in_none a h
in_flat f (x ∷ xs) a h = pick (in_append a (f x) (flat_map f xs) h) (in_flat f xs a)
  where
    more : (y : ℕ) × In y xs × In a (f y) → (y : ℕ) × In y (x ∷ xs) × In a (f y)
    more (y, p, q) = (y, in_later y x xs p, q)

    pick : In a (f x) ⊎ In a (flat_map f xs) → (In a (flat_map f xs) → (y : ℕ) × In y xs × In a (f y)) → (y : ℕ) × In y (x ∷ xs) × In a (f y)
    pick (inl k) ih = (x, in_first x xs, k)
    pick (inr k) ih = more (ih k)

pub flat_in : (f : ℕ → List ℕ) (xs : List ℕ) (x a : ℕ) → In x xs → In a (f x) → In a (flat_map f xs)
unfolding flat_map
flat_in f [] x a h k = in_none x h
flat_in f (y ∷ xs) x a h k = pick (in_cases x y xs h) (λ g. flat_in f xs x a g k)
  where
    pick : (x ≡ y) ⊎ In x xs → (In x xs → In a (flat_map f xs)) → In a (f y ++ flat_map f xs)
    pick (inl e) ih = in_left a (f y) (flat_map f xs) (subst (λ z. In a (f z)) e k)
    pick (inr g) ih = in_right a (f y) (flat_map f xs) (ih g)

-- An order, entry by entry.
pub ordered_cons : (R : ℕ → ℕ → Type 0) (x : ℕ) (l : List ℕ) → ((a : ℕ) → In a l → R x a) → Ordered R l → Ordered R (x ∷ l)
ordered_cons R x l first rest i zero h k = absurd (omega arith)
ordered_cons R x l first rest zero (suc j) h k = first (get_or l j 0) (j, omega arith, refl)
ordered_cons R x l first rest (suc i) (suc j) h k = rest i j (omega arith) (omega arith)

pub ordered_rest : (R : ℕ → ℕ → Type 0) (x : ℕ) (l : List ℕ) → Ordered R (x ∷ l) → Ordered R l
ordered_rest R x l o i j h k = o (suc i) (suc j) (omega arith) (omega arith)

pub ordered_first : (R : ℕ → ℕ → Type 0) (x : ℕ) (l : List ℕ) → Ordered R (x ∷ l) → (a : ℕ) → In a l → R x a
ordered_first R x l o a (i, h, e) = subst (R x) e (o 0 (suc i) (omega arith) (omega arith))

pub ordered_append : (R : ℕ → ℕ → Type 0) (xs ys : List ℕ) → Ordered R xs → Ordered R ys → ((a b : ℕ) → In a xs → In b ys → R a b) → Ordered R (xs ++ ys)
ordered_append R [] ys o p q = p
ordered_append R (x ∷ xs) ys o p q = ordered_cons R x (xs ++ ys) (λ a h. pick a (in_append a xs ys h))
    (ordered_append R xs ys (ordered_rest R x xs o) p (λ a b h k. q a b (in_later a x xs h) k))
  where
    pick : (a : ℕ) → In a xs ⊎ In a ys → R x a
    pick a (inl h) = ordered_first R x xs o a h
    pick a (inr h) = q x a (in_first x xs) h

pub ordered_flat : (R S : ℕ → ℕ → Type 0) (f : ℕ → List ℕ) (xs : List ℕ) → Ordered S xs → ((x : ℕ) → In x xs → Ordered R (f x))
    → ((x y a b : ℕ) → In x xs → In y xs → S x y → In a (f x) → In b (f y) → R a b) → Ordered R (flat_map f xs)
unfolding flat_map
ordered_flat R S f [] o each across = λ i j h k. let z : ⊥ = omega arith in absurd z
ordered_flat R S f (x ∷ xs) o each across =
    ordered_append R (f x) (flat_map f xs) (each x (in_first x xs))
    (ordered_flat R S f xs (ordered_rest S x xs o) (λ y h. each y (in_later y x xs h))
    (λ y z a b h k s p q. across y z a b (in_later y x xs h) (in_later z x xs k) s p q))
    (λ a b p q. apart a b p (in_flat f xs b q))
  where
    apart : (a b : ℕ) → In a (f x) → (y : ℕ) × In y xs × In b (f y) → R a b
    apart a b p (y, h, q) = across x y a b (in_first x xs) (in_later y x xs h) (ordered_first S x xs o y h) p q

pub ordered_weaken : (R S : ℕ → ℕ → Type 0) (l : List ℕ) → ((a b : ℕ) → R a b → S a b) → Ordered R l → Ordered S l
ordered_weaken R S l f o i j h k = f (get_or l i 0) (get_or l j 0) (o i j h k)

-- In a list without repeats a number has one place.
pub one_place : (l : List ℕ) → Distinct l → (i j : ℕ) → i < length l → j < length l → get_or l i 0 ≡ get_or l j 0 → i ≡ j
one_place l d i j h k e =
    elim (dec_lt i j) [
      | yes a ↦ absurd (d i j a k e)
      | no a ↦ elim (dec_lt j i) [
        | yes b ↦ absurd (d j i b h (sym e))
        | no b ↦ omega arith
      ]
    ]

-- A list without repeats, whose entries have different keys below N, has at most N entries.
pub keyed_length : (key : ℕ → ℕ) (N : ℕ) (l : List ℕ) → Distinct l → ((a : ℕ) → In a l → key a < N)
    → ((a b : ℕ) → In a l → In b l → key a ≡ key b → a ≡ b) → length l ≤ N
keyed_length key N l d below injective =
    elim (dec_le (length l) N) [
      | yes h ↦ h
      | no h ↦
          let r : Repeat (λ i. key (get_or l i 0)) N = pigeonhole N (λ i. key (get_or l i 0)) (λ i g. below (get_or l i 0) (i, omega arith, refl)) in
          absurd (d r.i r.j r.less (omega (arith, r.within)) (injective (get_or l r.i 0) (get_or l r.j 0)
          (r.i, omega (arith, r.less, r.within), refl) (r.j, omega (arith, r.within), refl) r.same))
    ]

pub distinct_length : (N : ℕ) (l : List ℕ) → Distinct l → ((a : ℕ) → In a l → a < N) → length l ≤ N
distinct_length N l d below = keyed_length (λ a. a) N l d below (λ a b h k e. e)
