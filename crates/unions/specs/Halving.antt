-- The search for a root that halves the way up: no root changes.
use Rattle.std.specs.Prelude.{◌≡◌, refl, ◌≢◌, List, ℕ, ◌≤◌, ◌<◌, length, get_or, set}
use Rattle.std.proofs.Common.{sym, ap, ◌∙◌, subst, arith, length-set}
use Rattle.std.proofs.Math.Path.{fun_ext}
use Rattle.std.proofs.Math.Decide.{ℕ_discrete}
use Rattle.std.proofs.Math.Seq.{get_or-set_same, get_or-set_other}
use Rattle.sequences.specs.Induction.{strong}
use Rattle.unions.specs.Roots.{parent, Low, root, read_parent, parent-le, low_of, root_of_top, root_of_parent}

-- A place hung below another, smaller one of the same root.
module _ (p : List ℕ) (low : Low p) (at q : ℕ) (inside : at < length p) (less : q < at) (same : root p q ≡ root p at) where
  parent-here : parent (set p at q) at ≡ q
  unfolding parent
  parent-here = get_or-set_same p at q at inside

  parent_elsewhere : (i : ℕ) → i ≢ at → parent (set p at q) i ≡ parent p i
  unfolding parent
  parent_elsewhere i n = get_or-set_other p at i q i n

  pub low_shortened : Low (set p at q)
  low_shortened =
      low_of (set p at q)
      (λ i.
      elim (ℕ_discrete i at) [
        | yes e ↦ subst (λ x. parent (set p at q) x ≤ x) (sym e) (omega (arith, parent-here))
        | no n ↦ omega (arith, parent_elsewhere i n, parent-le p low i)
      ])

  pub root_shortened : root (set p at q) ≡ root p
  root_shortened = fun_ext (strong (λ i. root (set p at q) i ≡ root p i) again)
    where
      again : (i : ℕ) → ((k : ℕ) → k < i → root (set p at q) k ≡ root p k) → root (set p at q) i ≡ root p i
      again i ih =
          elim (ℕ_discrete i at) [
            | yes e ↦
                ap (root (set p at q)) e ∙ sym (root_of_parent (set p at q) low_shortened at) ∙ ap (root (set p at q)) parent-here
                ∙ ih q (omega arith) ∙ same ∙ ap (root p) (sym e)
            | no n ↦
                elim (ℕ_discrete (parent p i) i) [
                  | yes t ↦ root_of_top (set p at q) low_shortened i (parent_elsewhere i n ∙ t) ∙ sym (root_of_top p low i t)
                  | no d ↦
                      sym (root_of_parent (set p at q) low_shortened i) ∙ ap (root (set p at q)) (parent_elsewhere i n)
                      ∙ ih (parent p i) (omega (arith, parent-le p low i)) ∙ root_of_parent p low i
                ]
          ]

-- The list p after the search for the root r of i in p₀: no root has changed.
pub record RootFound (p₀ : List ℕ) (i : ℕ) (p : List ℕ) (r : ℕ) : Type 0 where
  pub value : r ≡ root p₀ i
  pub roots : root p ≡ root p₀
  pub low : Low p
  pub long : length p ≡ length p₀

-- The search has come from i up to `at`.
pub record Seeking (p₀ : List ℕ) (i : ℕ) (p : List ℕ) (at : ℕ) : Type 0 where
  pub inside : at < length p
  pub long : length p ≡ length p₀
  pub low : Low p
  pub roots : root p ≡ root p₀
  pub of : root p at ≡ root p₀ i

pub begin : {p : List ℕ} {i : ℕ} → i < length p → Low p → Seeking p i p i
begin h low = record { inside = h; long = refl; low = low; roots = refl; of = refl }

module _ {p₀ : List ℕ} {i : ℕ} {p : List ℕ} {at : ℕ} (s : Seeking p₀ i p at) where
  pub up_le : get_or p at 0 ≤ at
  up_le = omega (arith, read_parent p at s.inside, parent-le p s.low at)

  -- the parent's parent
  pub two_le : get_or p (get_or p at 0) 0 ≤ get_or p at 0
  two_le = omega (arith, read_parent p (get_or p at 0) (omega (arith, up_le, s.inside)), parent-le p s.low (get_or p at 0))

  -- A place that is its own parent is the root.
  pub finish : get_or p at 0 ≡ at → RootFound p₀ i p at
  finish h =
      let t : parent p at ≡ at = sym (read_parent p at s.inside) ∙ h in
      record { value = sym (root_of_top p s.low at t) ∙ s.of; roots = s.roots; low = s.low; long = s.long }

  -- Any other is hung below its parent's parent, where the search goes on.
  pub again : get_or p at 0 ≢ at → Seeking p₀ i (set p at (get_or p (get_or p at 0) 0)) (get_or p (get_or p at 0) 0)
  again n =
      let u = get_or p at 0 in
      let q = get_or p u 0 in
      let ru : u ≡ parent p at = read_parent p at s.inside in
      let rq : q ≡ parent p u = read_parent p u (omega (arith, up_le, s.inside)) in
      let same : root p q ≡ root p at = ap (root p) rq ∙ root_of_parent p s.low u ∙ ap (root p) ru ∙ root_of_parent p s.low at in
      let less : q < at = omega (arith, up_le, two_le, n) in
      let same_roots : root (set p at q) ≡ root p = root_shortened p s.low at q s.inside less same in
      record {
        inside = omega (arith, length-set p at q, s.inside);
        long = length-set p at q ∙ s.long;
        low = low_shortened p s.low at q s.inside less same;
        roots = same_roots ∙ s.roots;
        of = ap (λ (f : ℕ → ℕ). f q) same_roots ∙ same ∙ s.of;
      }
