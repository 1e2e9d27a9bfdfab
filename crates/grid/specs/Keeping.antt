-- What is kept of a list, and the start pixels of all cycles: which they are, and in which order.
use Rattle.std.specs.Prelude.{◌≡◌, ◌≢◌, ◌⊎◌, ◌↔◌, Bool, get_or}
use Rattle.std.proofs.Math.Path.{refl, sym, subst}
use Rattle.std.proofs.Common.{ap, ◌∙◌, eq-eqb, ne_eqb}
use Rattle.std.proofs.Math.Logic.{inl, inr}
use Rattle.std.proofs.Math.Bool.{true, false}
use Rattle.std.proofs.lemmas.Bool.{false≢true}
use mathlib.Core.List.{List, [], ◌∷◌}
use Prim.Native.Nat.{ℕ, ◌^◌, ◌≤◌, ◌<◌}
use Rattle.std.proofs.Math.Decide.{ℕ_discrete}
use native.Mathlib.Omega.{arith}
use Rattle.std.proofs.Math.ListN.{length}
use Rattle.sequences.specs.Ranges.{range, length-range, range_at}
use Rattle.orbits.specs.Members.{In, Ordered, Distinct, in_later, in_cases, in_none, in_flat, flat_in, ordered_cons, ordered_rest, ordered_first, ordered_flat, ordered_weaken, distinct_length}
use Rattle.grid.specs.Cycles.{is_start}
use Rattle.grid.specs.Listing.{keep, starts_in, starts, start_codes}

module _ (test : ℕ → Bool) where
  pub keep_yes : (x : ℕ) (xs : List ℕ) → test x ≡ true → keep test (x ∷ xs) ≡ x ∷ keep test xs
  unfolding keep
  keep_yes x xs h = rw (h, keep)

  pub keep_no : (x : ℕ) (xs : List ℕ) → test x ≡ false → keep test (x ∷ xs) ≡ keep test xs
  unfolding keep
  keep_no x xs h = rw (h, keep)

  pub in_keep : (xs : List ℕ) (a : ℕ) → In a (keep test xs) → In a xs × (test a ≡ true)
  unfolding keep
  in_keep [] a h = in_none a h
  in_keep (x ∷ xs) a h = pick (test x) refl (λ k. in_keep xs a k)
    where
      more : In a xs × (test a ≡ true) → In a (x ∷ xs) × (test a ≡ true)
      more (i, t) = (in_later a x xs i, t)

      here : test x ≡ true → (a ≡ x) ⊎ In a (keep test xs) → (In a (keep test xs) → In a xs × (test a ≡ true)) → In a (x ∷ xs) × (test a ≡ true)
      here t (inl e) ih = ((0, omega arith, sym e), ap test e ∙ t)
      here t (inr k) ih = more (ih k)

      pick : (b : Bool) → test x ≡ b → (In a (keep test xs) → In a xs × (test a ≡ true)) → In a (x ∷ xs) × (test a ≡ true)
      pick true t ih = here t (in_cases a x (keep test xs) (subst (In a) (keep_yes x xs t) h)) ih
      pick false t ih = more (ih (subst (In a) (keep_no x xs t) h))

  pub keep_in : (xs : List ℕ) (a : ℕ) → In a xs → test a ≡ true → In a (keep test xs)
  keep_in [] a h t = in_none a h
  keep_in (x ∷ xs) a h t = pick (test x) refl (in_cases a x xs h) (λ k. keep_in xs a k t)
    where
      pick : (b : Bool) → test x ≡ b → (a ≡ x) ⊎ In a xs → (In a xs → In a (keep test xs)) → In a (keep test (x ∷ xs))
      pick true s (inl e) ih = subst (In a) (sym (keep_yes x xs s)) (0, omega arith, sym e)
      pick true s (inr k) ih = subst (In a) (sym (keep_yes x xs s)) (in_later a x (keep test xs) (ih k))
      pick false s (inl e) ih = absurd (false≢true (sym s ∙ ap test (sym e) ∙ t))
      pick false s (inr k) ih = subst (In a) (sym (keep_no x xs s)) (ih k)

  pub ordered_keep : (R : ℕ → ℕ → Type 0) (xs : List ℕ) → Ordered R xs → Ordered R (keep test xs)
  unfolding keep
  ordered_keep R [] o = o
  ordered_keep R (x ∷ xs) o = pick (test x) refl (ordered_keep R xs (ordered_rest R x xs o))
    where
      pick : (b : Bool) → test x ≡ b → Ordered R (keep test xs) → Ordered R (keep test (x ∷ xs))
      pick true t k = subst (Ordered R) (sym (keep_yes x xs t)) (ordered_cons R x (keep test xs) (λ a i. ordered_first R x xs o a (in_keep xs a i).0) k)
      pick false t k = subst (Ordered R) (sym (keep_no x xs t)) k

-- The numbers from 0 on.
pub in_range : (a k : ℕ) → In a (range 0 k) ↔ (a < k)
in_range a k = (
  λ i. omega (arith, i.1, i.2, length-range 0 k, range_at 0 k i.0 (omega (arith, i.1, length-range 0 k))),
  λ h. (a, omega (arith, length-range 0 k), omega (arith, range_at 0 k a h)),
)

pub range_rises : (k : ℕ) → Ordered ◌<◌ (range 0 k)
range_rises k i j h l =
    omega (arith, length-range 0 k, range_at 0 k i (omega (arith, length-range 0 k)), range_at 0 k j (omega (arith, length-range 0 k)))

-- The start pixels of a region.
module _ (n : ℕ) (nums : List ℕ) where
  starts_in_yes : (r c : ℕ) → get_or nums c 0 ≡ r → starts_in n nums r c ≡ is_start n nums c
  unfolding starts_in
  starts_in_yes r c h = rw (eq-eqb (get_or nums c 0) r h, starts_in)

  starts_in_no : (r c : ℕ) → get_or nums c 0 ≢ r → starts_in n nums r c ≡ false
  unfolding starts_in
  starts_in_no r c h = rw (ne_eqb (get_or nums c 0) r h, starts_in)

  pub in_starts : (r c : ℕ) → In c (starts n nums r) ↔ ((c < 4 ^ n) × (get_or nums c 0 ≡ r) × (is_start n nums c ≡ true))
  unfolding starts
  in_starts r c = (
    λ i. let k = in_keep (starts_in n nums r) (range 0 (4 ^ n)) c i in to k.0 k.1 (ℕ_discrete (get_or nums c 0) r),
    λ h. keep_in (starts_in n nums r) (range 0 (4 ^ n)) c ((in_range c (4 ^ n)).1 h.0) (starts_in_yes r c h.1 ∙ h.2),
  )
    where
      to : In c (range 0 (4 ^ n)) → starts_in n nums r c ≡ true → Dec (get_or nums c 0 ≡ r) → (c < 4 ^ n) × (get_or nums c 0 ≡ r) × (is_start n nums c ≡ true)
      to i t (yes e) = ((in_range c (4 ^ n)).0 i, e, sym (starts_in_yes r c e) ∙ t)
      to i t (no e) = absurd (false≢true (sym (starts_in_no r c e) ∙ t))

  pub starts_rise : (r : ℕ) → Ordered ◌<◌ (starts n nums r)
  unfolding starts
  starts_rise r = ordered_keep (starts_in n nums r) ◌<◌ (range 0 (4 ^ n)) (range_rises (4 ^ n))

  -- All start pixels.
  pub in_start_codes : (regions c : ℕ) → In c (start_codes n nums regions) ↔ ((c < 4 ^ n) × (get_or nums c 0 < regions) × (is_start n nums c ≡ true))
  unfolding start_codes
  in_start_codes regions c = (
    λ i. to (in_flat (starts n nums) (range 0 regions) c i),
    λ h. flat_in (starts n nums) (range 0 regions) (get_or nums c 0) c ((in_range (get_or nums c 0) regions).1 h.1) ((in_starts (get_or nums c 0) c).1 (h.0, refl, h.2)),
  )
    where
      to : (r : ℕ) × In r (range 0 regions) × In c (starts n nums r) → (c < 4 ^ n) × (get_or nums c 0 < regions) × (is_start n nums c ≡ true)
      to (r, i, k) =
          let h = (in_starts r c).0 k in
          (h.0, omega (arith, h.1, (in_range r regions).0 i), h.2)

  -- "by region number, then by the code of that start pixel"
  abbrev pub Before : ℕ → ℕ → Type 0
  Before c d = (get_or nums c 0 < get_or nums d 0) ⊎ ((get_or nums c 0 ≡ get_or nums d 0) × (c < d))

  pub in_order : (regions : ℕ) → Ordered Before (start_codes n nums regions)
  unfolding start_codes
  in_order regions =
      ordered_flat Before ◌<◌ (starts n nums) (range 0 regions) (range_rises regions)
      (λ r i j k h l. inside r j k h l)
      (λ r s a b i j l p q. inl (omega (arith, l, ((in_starts r a).0 p).1, ((in_starts s b).0 q).1)))
    where
      inside : (r j k : ℕ) → j < k → k < length (starts n nums r) → Before (get_or (starts n nums r) j 0) (get_or (starts n nums r) k 0)
      inside r j k h l =
          let a = (in_starts r (get_or (starts n nums r) j 0)).0 (j, omega arith, refl) in
          let b = (in_starts r (get_or (starts n nums r) k 0)).0 (k, l, refl) in
          inr (a.1 ∙ sym b.1, starts_rise r j k h l)

  apart : (c d : ℕ) → Before c d → c ≢ d
  apart c d (inl h) e = omega (arith, ap (λ x. get_or nums x 0) e)
  apart c d (inr h) e = omega (arith, h.1)

  pub start-codes_distinct : (regions : ℕ) → Distinct (start_codes n nums regions)
  start-codes_distinct regions = ordered_weaken Before ◌≢◌ (start_codes n nums regions) apart (in_order regions)

  -- "Owner and end lists, 4^n each": there are at most 4^n cycles.
  pub starts_fit : (regions : ℕ) → length (start_codes n nums regions) ≤ 4 ^ n
  starts_fit regions =
      distinct_length (4 ^ n) (start_codes n nums regions) (start-codes_distinct regions)
      (λ c h. ((in_start_codes regions c).0 h).0)
