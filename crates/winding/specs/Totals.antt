-- Areas added up: those of the cycles of one region, and those of all cycles (document 02, request d).
use Rattle.std.specs.Prelude.{◌≡◌, ◌⊎◌, ℕ, ◌<◌, length, ℤ, pos, negsuc, eqb}
use Rattle.std.proofs.Math.Path.{refl, sym, ap, ap₂}
use Rattle.std.proofs.Common.{◌∙◌, inl, inr, eq-eqb, ne_eqb}
use Rattle.std.proofs.Math.Logic.{◌≢◌}
use Rattle.std.proofs.Math.Bool.{cond}
use mathlib.Core.List.{List, [], ◌∷◌, map}
use native.Mathlib.Omega.{arith}
use Rattle.std.proofs.Math.IntN.{◌+ℤ◌, +ℤ_idl, +ℤ_assoc, +ℤ_comm}
use Rattle.sequences.specs.Ranges.{range}
use Rattle.orbits.specs.Members.{In, Distinct, in_first, in_later, in_cases, in_none, ordered_rest, ordered_first}
use Rattle.grid.specs.Figures.{figure5a}
use Rattle.grid.specs.Listing.{listing, owners, areas}
use Rattle.grid.specs.Keeping.{in_range, range_rises}
use Rattle.winding.specs.Sums.{sum}
use Rattle.winding.specs.Tallies.{tally, tally-below}

-- The sum of a list of areas.
unfoldable pub total : List ℤ → ℤ
total [] = pos 0
total (z ∷ zs) = z +ℤ total zs

-- "the areas of a region's cycles" (document 02, request d): of a list of areas, those of the cycles whose owner is v.
unfoldable pub areas_of : ℕ → List ℕ → List ℤ → List ℤ
areas_of v [] zs = []
areas_of v (o ∷ os) [] = []
areas_of v (o ∷ os) (z ∷ zs) = cond (eqb o v) (z ∷ areas_of v os zs) (areas_of v os zs)

-- Figure 5(a): the outline of region 0 around 16 pixels, less its hole of 4 pixels, which region 1 fills.
figure_5a : (areas_of 0 (owners (listing 2 figure5a 2)) (areas (listing 2 figure5a 2)) ≡ pos 16 ∷ negsuc 3 ∷ [])
    × (total (areas_of 0 (owners (listing 2 figure5a 2)) (areas (listing 2 figure5a 2))) ≡ pos 12)
    × (total (areas_of 1 (owners (listing 2 figure5a 2)) (areas (listing 2 figure5a 2))) ≡ pos 4)
    × (total (areas (listing 2 figure5a 2)) ≡ pos 16)
unfolding total areas_of owners areas listing figure5a
figure_5a = (refl, refl, refl, refl)

-- One cycle more, of this region and of another.
module _ (v o : ℕ) (os : List ℕ) (z : ℤ) (zs : List ℤ) where
  pub areas_own : o ≡ v → areas_of v (o ∷ os) (z ∷ zs) ≡ z ∷ areas_of v os zs
  unfolding areas_of
  areas_own h = ap (λ t. cond t (z ∷ areas_of v os zs) (areas_of v os zs)) (eq-eqb o v h)

  pub areas_other : o ≢ v → areas_of v (o ∷ os) (z ∷ zs) ≡ areas_of v os zs
  unfolding areas_of
  areas_other h = ap (λ t. cond t (z ∷ areas_of v os zs) (areas_of v os zs)) (ne_eqb o v h)

-- ---- region after region

-- f of the first number + f of the second + ..
abbrev over_each : (ℕ → ℤ) → List ℕ → ℤ
over_each f vs = total (map f vs)

total_of_zeros : (vs : List ℕ) → over_each (λ v. pos 0) vs ≡ pos 0
unfolding total
total_of_zeros [] = refl
total_of_zeros (v ∷ vs) = +ℤ_idl (over_each (λ v. pos 0) vs) ∙ total_of_zeros vs

-- One area more, z, is added to the sum of its owner o and to no other.
module _ (o : ℕ) (os : List ℕ) (z : ℤ) (zs : List ℤ) where
  abbrev before : ℕ → ℤ
  before v = total (areas_of v os zs)

  abbrev after : ℕ → ℤ
  after v = total (areas_of v (o ∷ os) (z ∷ zs))

  own : (v : ℕ) → o ≡ v → after v ≡ z +ℤ before v
  unfolding total
  own v h = ap total (areas_own v o os z zs h)

  other : (v : ℕ) → o ≢ v → after v ≡ before v
  other v h = ap total (areas_other v o os z zs h)

  not_among : (vs : List ℕ) → (In o vs → ⊥) → over_each after vs ≡ over_each before vs
  unfolding total
  not_among [] out = refl
  not_among (v ∷ vs) out = ap₂ ◌+ℤ◌ (other v (λ e. out (0, omega arith, sym e))) (not_among vs (λ i. out (in_later o v vs i)))

  among : (vs : List ℕ) → Distinct vs → In o vs → over_each after vs ≡ z +ℤ over_each before vs
  unfolding total
  among [] d i = in_none o i
  among (v ∷ vs) d i = pick (in_cases o v vs i) (among vs (ordered_rest ◌≢◌ v vs d))
    where
      pick : (o ≡ v) ⊎ In o vs → (In o vs → over_each after vs ≡ z +ℤ over_each before vs)
          → after v +ℤ over_each after vs ≡ z +ℤ (before v +ℤ over_each before vs)
      pick (inl e) ih =
          ap₂ ◌+ℤ◌ (own v e) (not_among vs (λ j. ordered_first ◌≢◌ v vs d o j (sym e)))
          ∙ +ℤ_assoc z (before v) (over_each before vs)
      pick (inr j) ih =
          ap₂ ◌+ℤ◌ (other v (λ e. ordered_first ◌≢◌ v vs d o j (sym e))) (ih j)
          ∙ sym (+ℤ_assoc (before v) z (over_each before vs))
          ∙ ap (λ x. x +ℤ over_each before vs) (+ℤ_comm (before v) z)
          ∙ +ℤ_assoc z (before v) (over_each before vs)

-- The areas of all cycles, region after region, where each owner is one of the first k regions.
pub total_by_region : (k : ℕ) (os : List ℕ) (zs : List ℤ) → length os ≡ length zs → ((o : ℕ) → In o os → o < k)
    → total (map (λ v. total (areas_of v os zs)) (range 0 k)) ≡ total zs
unfolding total areas_of
total_by_region k [] [] long below = total_of_zeros (range 0 k)
total_by_region k [] (z ∷ zs) long below = absurd (omega arith)
total_by_region k (o ∷ os) [] long below = absurd (omega arith)
total_by_region k (o ∷ os) (z ∷ zs) long below =
    among o os z zs (range 0 k) (λ i j h l e. omega (arith, range_rises k i j h l, e)) ((in_range o k).1 (below o (in_first o os)))
    ∙ ap (λ x. z +ℤ x) (total_by_region k os zs (omega arith) (λ a i. below a (in_later a o os i)))

-- Integers that are not below 0 add up as numbers.
total_is_tally : (f : ℕ → ℕ) (vs : List ℕ) → total (map (λ v. pos (f v)) vs) ≡ pos (tally f vs)
unfolding total tally
total_is_tally f [] = refl
total_is_tally f (v ∷ vs) = ap (λ x. pos (f v) +ℤ x) (total_is_tally f vs)

pub total_is_sum : (f : ℕ → ℕ) (k : ℕ) → total (map (λ v. pos (f v)) (range 0 k)) ≡ pos (sum k f)
total_is_sum f k = total_is_tally f (range 0 k) ∙ ap pos (tally-below f k)
