-- Numbers for classes: how many representatives lie below the own one. No other numbers count up with the classes.
use Rattle.std.specs.Prelude.{◌≡◌, refl, ◌≢◌, ◌⊎◌, ◌↔◌, true, false, List, ℕ, zero, suc, ◌≤◌, ◌<◌, eqb}
use Rattle.std.proofs.Common.{sym, ◌∙◌, subst, inl, inr, le_refl, eq-or-lt_of_le, eq-eqb, ne_eqb}
use Rattle.std.proofs.Math.Path.{ap}
use Rattle.std.proofs.Math.Decide.{ℕ_discrete, dec_lt}
use native.Mathlib.Omega.{arith}
use Rattle.sequences.specs.Induction.{strong}
use Rattle.unions.specs.Pairs.{Pair, Linked}
use Rattle.unions.specs.Representatives.{rep, rep_links, linked_rep, rep_twice}

-- How many numbers below k represent themselves, where r gives representatives.
unfoldable pub below : (ℕ → ℕ) → ℕ → ℕ
below r zero = 0
below r (suc k) = elim (eqb (r k) k) [ true ↦ suc (below r k) | false ↦ below r k ]

-- Of three numbers that all have the representative 0, one represents itself.
one_represents_three : below (λ i. 0) 3 ≡ 1
unfolding below
one_represents_three = refl

-- The number of i's class: how many representatives lie below its own.
unfoldable pub number_of : (ℕ → ℕ) → ℕ → ℕ
unfolding below
number_of r i = below r (r i)

pub below_none : (r : ℕ → ℕ) → below r 0 ≡ 0
unfolding below
below_none r = refl

pub below_yes : (r : ℕ → ℕ) (k : ℕ) → r k ≡ k → below r (suc k) ≡ suc (below r k)
unfolding below
below_yes r k h = rw (eq-eqb (r k) k h, below)

pub below_no : (r : ℕ → ℕ) (k : ℕ) → r k ≢ k → below r (suc k) ≡ below r k
unfolding below
below_no r k h = rw (ne_eqb (r k) k h, below)

pub below_grows : (r : ℕ → ℕ) (j k : ℕ) → j ≤ k → below r j ≤ below r k
below_grows r j zero h = let e : j ≡ 0 = omega arith in subst (λ x. below r x ≤ below r 0) (sym e) (le_refl (below r 0))
below_grows r j (suc k) h = pick (below_grows r j k) (eq-or-lt_of_le h) (ℕ_discrete (r k) k)
  where
    pick : (j ≤ k → below r j ≤ below r k) → (j ≡ suc k) ⊎ (j < suc k) → Dec (r k ≡ k) → below r j ≤ below r (suc k)
    pick ih (inl e) d = subst (λ x. below r x ≤ below r (suc k)) (sym e) (le_refl (below r (suc k)))
    pick ih (inr l) (yes y) = omega (arith, ih (omega arith), below_yes r k y)
    pick ih (inr l) (no n) = omega (arith, ih (omega arith), below_no r k n)

pub below_most : (r : ℕ → ℕ) (k : ℕ) → below r k ≤ k
below_most r zero = omega (arith, below_none r)
below_most r (suc k) = pick (below_most r k) (ℕ_discrete (r k) k)
  where
    pick : below r k ≤ k → Dec (r k ≡ k) → below r (suc k) ≤ suc k
    pick ih (yes y) = omega (arith, below_yes r k y)
    pick ih (no n) = omega (arith, below_no r k n)

pub below_less : (r : ℕ → ℕ) (j k : ℕ) → r j ≡ j → j < k → below r j < below r k
below_less r j k h l = omega (arith, below_yes r j h, below_grows r (suc j) k l)

-- Counting depends on the representatives below k alone.
pub below_same : (r s : ℕ → ℕ) (k : ℕ) → ((i : ℕ) → i < k → r i ≡ s i) → below r k ≡ below s k
below_same r s zero h = below_none r ∙ sym (below_none s)
below_same r s (suc k) h = pick (below_same r s k (λ i l. h i (omega arith))) (ℕ_discrete (r k) k)
  where
    here : r k ≡ s k
    here = h k (omega arith)

    pick : below r k ≡ below s k → Dec (r k ≡ k) → below r (suc k) ≡ below s (suc k)
    pick ih (yes y) = below_yes r k y ∙ ap suc ih ∙ sym (below_yes s k (sym here ∙ y))
    pick ih (no n) = below_no r k n ∙ ih ∙ sym (below_no s k (λ e. n (here ∙ e)))

-- A representative below k with the number v.
pub record Counted (r : ℕ → ℕ) (k v : ℕ) : Type 0 where
  pub at : ℕ
  pub less : at < k
  pub own : r at ≡ at
  pub value : below r at ≡ v

-- Each number below the count is that of a representative.
pub counted : (r : ℕ → ℕ) (k v : ℕ) → v < below r k → Counted r k v
counted r zero v h = absurd (omega (arith, below_none r))
counted r (suc k) v h = pick (counted r k v) (ℕ_discrete (r k) k) (dec_lt v (below r k))
  where
    wider : Counted r k v → Counted r (suc k) v
    wider c = record { at = c.at; less = omega arith; own = c.own; value = c.value }

    pick : (v < below r k → Counted r k v) → Dec (r k ≡ k) → Dec (v < below r k) → Counted r (suc k) v
    pick ih d (yes l) = wider (ih l)
    pick ih (yes y) (no n) = record { at = k; less = omega arith; own = y; value = omega (arith, below_yes r k y) }
    pick ih (no f) (no n) = absurd (omega (arith, below_no r k f))

-- ---- numbers of classes

module _ (r : ℕ → ℕ) (twice : (i : ℕ) → r (r i) ≡ r i) where
  -- No number is given to two classes.
  pub number_apart : (i j : ℕ) → number_of r i ≡ number_of r j → r i ≡ r j
  unfolding number_of
  number_apart i j e = pick (dec_lt (r i) (r j)) (dec_lt (r j) (r i))
    where
      pick : Dec (r i < r j) → Dec (r j < r i) → r i ≡ r j
      pick (yes a) b = absurd (omega (arith, below_less r (r i) (r j) (twice i) a))
      pick (no a) (yes b) = absurd (omega (arith, below_less r (r j) (r i) (twice j) b))
      pick (no a) (no b) = omega arith

  pub number_same : (i j : ℕ) → r i ≡ r j → number_of r i ≡ number_of r j
  unfolding number_of
  number_same i j e = ap (below r) e

  -- A class with a smaller representative has a smaller number.
  pub number_rises : (i j : ℕ) → r i < r j → number_of r i < number_of r j
  unfolding number_of
  number_rises i j l = below_less r (r i) (r j) (twice i) l

  pub number_of_own : (i : ℕ) → r i ≡ i → number_of r i ≡ below r i
  unfolding number_of
  number_of_own i e = ap (below r) e

  pub number_less : (N i : ℕ) → r i < N → number_of r i < below r N
  unfolding number_of
  number_less N i l = below_less r (r i) N (twice i) l

-- Numbers f for 0, 1, .. below N count up: before a number is given, every smaller one has been. So the numbers that are given
-- for the first time are 0, 1, 2, ...
pub record Before (f : ℕ → ℕ) (i v : ℕ) : Type 0 where
  pub at : ℕ
  pub less : at < i
  pub value : f at ≡ v

abbrev pub CountsUp : ℕ → (ℕ → ℕ) → Type 0
CountsUp N f = (i v : ℕ) → i < N → v < f i → Before f i v

module _ (r : ℕ → ℕ) (twice : (i : ℕ) → r (r i) ≡ r i) (low : (i : ℕ) → r i ≤ i) where
  pub numbers-count-up : (N : ℕ) → CountsUp N (number_of r)
  unfolding number_of
  numbers-count-up N i v inside l =
      let c = counted r (r i) v l in
      record { at = c.at; less = omega (arith, low i, c.less); value = ap (below r) c.own ∙ c.value }

  -- Numbers that are equal exactly in a class, and count up, are these.
  pub only_numbers : (N : ℕ) (f : ℕ → ℕ) → ((i j : ℕ) → i < N → j < N → (f i ≡ f j) ↔ (r i ≡ r j)) → CountsUp N f
      → (i : ℕ) → i < N → f i ≡ number_of r i
  unfolding number_of
  only_numbers N f exactly up = strong (λ i. i < N → f i ≡ number_of r i) again
    where
      root_case : (i : ℕ) → ((k : ℕ) → k < i → k < N → f k ≡ number_of r k) → i < N → r i ≡ i → f i ≡ below r i
      root_case i ih l own = pick (dec_lt (below r i) (f i)) (dec_lt (f i) (below r i))
        where
          above : below r i < f i → ⊥
          above h =
              let b = up i (below r i) l h in
              let e : f b.at ≡ number_of r b.at = ih b.at b.less (omega (arith, b.less)) in
              omega (arith, e, b.value, below_less r (r b.at) i (twice b.at) (omega (arith, low b.at, b.less)))

          under : f i < below r i → ⊥
          under h =
              let c = counted r i (f i) h in
              let e : f c.at ≡ f i = ih c.at c.less (omega (arith, c.less)) ∙ ap (below r) c.own ∙ c.value in
              let g : r c.at ≡ r i = (exactly c.at i (omega (arith, c.less)) l).0 e in
              omega (arith, g, c.own, own, c.less)

          pick : Dec (below r i < f i) → Dec (f i < below r i) → f i ≡ below r i
          pick (yes a) b = absurd (above a)
          pick (no a) (yes b) = absurd (under b)
          pick (no a) (no b) = omega arith

      again : (i : ℕ) → ((k : ℕ) → k < i → k < N → f k ≡ number_of r k) → i < N → f i ≡ number_of r i
      again i ih l = pick (eq-or-lt_of_le (low i))
        where
          pick : (r i ≡ i) ⊎ (r i < i) → f i ≡ number_of r i
          pick (inl own) = root_case i ih l own ∙ ap (below r) (sym own)
          pick (inr less) = (exactly i (r i) l (omega arith)).1 (sym (twice i)) ∙ ih (r i) less (omega arith) ∙ ap (below r) (twice i)

-- Under a list of pairs: one number exactly for what is linked.
pub number_linked : (es : List Pair) (i j : ℕ) → (number_of (rep es) i ≡ number_of (rep es) j) ↔ Linked es i j
number_linked es i j =
    (λ e. rep_links es i j (number_apart (rep es) (rep_twice es) i j e), λ l. number_same (rep es) (rep_twice es) i j (linked_rep es l))
