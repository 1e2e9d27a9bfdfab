-- A region surrounds another exactly when it is an ancestor of it in the forest of parents, and then it has the smaller number.
use Rattle.std.specs.Prelude.{◌≡◌, ◌≢◌, ◌⊎◌, ◌↔◌, List, ℕ, suc, ◌≤◌, ◌<◌, get_or}
use Rattle.std.proofs.Common.{sym, ap, ◌∙◌, subst, inl, inr, arith}
use Rattle.std.proofs.Math.Decide.{ℕ_discrete}
use Rattle.sequences.specs.Induction.{strong}
use Rattle.components.specs.Joined.{Beside}
use Rattle.components.proofs.Joined.{beside_back}
use Rattle.components.specs.Numbers.{numbers, regions, north_of}
use Rattle.components.proofs.Neighbours.{north_beside}
use Rattle.forests.specs.Forest.{ParentsBelow, Above, parent, further, above_below, above_cases, above_none, above_same}
use Rattle.orbits.specs.Finding.{place_of}
use Rattle.surrounding.specs.Surrounds.{north, Surrounds}
use Rattle.surrounding.specs.Sharing.{edge_region_not_surrounded, surrounds_beside}
use Rattle.surrounding.specs.Surrounded.{surrounded_unless_first}
use Rattle.surrounding.specs.Escaping.{not_surrounded_if_first}
use Rattle.surrounding.specs.Parents.{parent_of, least_of_lem, Northern, Parent, top, shared, own, parent_cases}

module _ (n : ℕ) (px : List ℕ) (small : n ≤ 8) where
  abbrev nums : List ℕ
  nums = numbers n px

  abbrev up : ℕ → ℕ
  up = parent_of n (numbers n px)

  -- Parents have smaller numbers.
  pub parents-below : ParentsBelow (regions n px) up
  parents-below v p h e = strong (λ v. (p : ℕ) → v < regions n px → up v ≡ suc p → p < v) (λ v ih p h e. from v ih p h e (parent_cases n px small v h)) v p h e
    where
      from : (v : ℕ) → ((k : ℕ) → k < v → (p : ℕ) → k < regions n px → up k ≡ suc p → p < k) → (p : ℕ) → v < regions n px → up v ≡ suc p
          → Parent n px small v → p < v
      from v ih p h e (top r q) = absurd (omega arith)
      from v ih p h e (shared w i q) = omega (arith, ih w.region w.smaller p w.known (sym q ∙ e), w.smaller)
      from v ih p h e (own w i q) = omega (arith, w.smaller)

  -- The region s and the region v .region, north of its least pixel: other regions surround both or neither.
  module _ (s : ℕ) (h : s < regions n px) (v : Northern n px s) where
    number : get_or nums (place_of s nums) 0 ≡ s
    number = (least_of_lem n px s h).1

    side : Beside n (place_of s nums) (north_of n (place_of s nums))
    side = north_beside n (place_of s nums) v.below.least.inside v.below.lower

    surrounds_north : (r : ℕ) → r ≢ v.region → Surrounds n nums r s → Surrounds n nums r v.region
    surrounds_north r k w =
        subst (Surrounds n nums r) v.below.region
        (surrounds_beside n px r (place_of s nums) (north_of n (place_of s nums)) side (λ e. k (e ∙ v.below.region)) (subst (Surrounds n nums r) (sym number) w))

    surrounds_south : (r : ℕ) → r ≢ s → Surrounds n nums r v.region → Surrounds n nums r s
    surrounds_south r k w =
        subst (Surrounds n nums r) number
        (surrounds_beside n px r (north_of n (place_of s nums)) (place_of s nums) (beside_back side) (λ e. k (e ∙ number))
        (subst (Surrounds n nums r) (sym v.below.region) w))

  Claim : ℕ → Type 0
  Claim s = (r : ℕ) → s < regions n px → Surrounds n nums r s ↔ Above up r s

  claim : (s : ℕ) → ((k : ℕ) → k < s → Claim k) → Claim s
  unfolding Claim
  claim s ih r h = from (parent_cases n px small s h)
    where
      lower : (v : Northern n px s) → Above up r v.region → r ≢ s
      lower v a e = omega (arith, above_below (regions n px) up parents-below v.known a, v.smaller)

      from : Parent n px small s → Surrounds n nums r s ↔ Above up r s
      from (top e q) = (
        λ w. absurd (edge_region_not_surrounded n nums r (place_of s nums) (least_of_lem n px s h).0.inside (north e) (subst (Surrounds n nums r) (sym (least_of_lem n px s h).1) w)),
        λ a. absurd (above_none up q a),
      )
      from (shared v i q) = (
        λ w. above_same up (sym q) ((ih v.region v.smaller r v.known).0 (surrounds_north s h v r (not_north w) w)),
        λ a. let b : Above up r v.region = above_same up q a in
            surrounds_south s h v r (lower v b) ((ih v.region v.smaller r v.known).1 b),
      )
        where
          not_north : Surrounds n nums r s → r ≢ v.region
          not_north w e =
              not_surrounded_if_first n nums small (place_of s nums) v.region (place_of v.region nums) v.below i
              (subst (Surrounds n nums v.region) (sym (number s h v)) (subst (λ x. Surrounds n nums x s) e w))
      from (own v i q) = (λ w. there w (ℕ_discrete r v.region), λ a. back (above_cases up a))
        where
          there : Surrounds n nums r s → Dec (r ≡ v.region) → Above up r s
          there w (yes e) = parent (q ∙ ap suc (sym e))
          there w (no e) = further q ((ih v.region v.smaller r v.known).0 (surrounds_north s h v r e w))

          back : (up s ≡ suc r) ⊎ ((p : ℕ) × (up s ≡ suc p) × Above up r p) → Surrounds n nums r s
          back (inl e) =
              let same : v.region ≡ r = omega arith in
              subst (λ x. Surrounds n nums x s) same (subst (Surrounds n nums v.region) (number s h v)
              (surrounded_unless_first n px small (place_of s nums) v.region (place_of v.region nums) v.below i))
          back (inr (p, e, a)) =
              let same : p ≡ v.region = omega arith in
              let b : Above up r v.region = subst (Above up r) same a in
              surrounds_south s h v r (lower v b) ((ih v.region v.smaller r v.known).1 b)

  -- R surrounds S exactly when R is an ancestor of S.
  pub surrounds_exactly_when_above : (r s : ℕ) → s < regions n px → Surrounds n nums r s ↔ Above up r s
  unfolding Claim
  surrounds_exactly_when_above r s h = strong Claim claim s r h

  -- The parent surrounds; where there is none, nothing does.
  pub parent_surrounds : (p s : ℕ) → s < regions n px → up s ≡ suc p → Surrounds n nums p s
  parent_surrounds p s h e = (surrounds_exactly_when_above p s h).1 (parent e)

  pub none_surrounds : (s : ℕ) → s < regions n px → up s ≡ 0 → (r : ℕ) → ¬ Surrounds n nums r s
  none_surrounds s h e r w = above_none up e ((surrounds_exactly_when_above r s h).0 w)

  -- A surrounding region has the smaller number.
  pub surrounding_is_smaller : (r s : ℕ) → s < regions n px → Surrounds n nums r s → r < s
  surrounding_is_smaller r s h w = above_below (regions n px) up parents-below h ((surrounds_exactly_when_above r s h).0 w)
