-- Before any join each place is its own parent: the list 0, 1, 2, .. stored from the front.
use Rattle.std.specs.Prelude.{◌≡◌, refl, List, [], ◌∷◌, ◌++◌, ℕ, ◌+◌, ◌≤◌, ◌<◌, length, set}
use Rattle.std.proofs.Common.{sym, ap, ◌∙◌, append-nil, arith, drop_of_length-le}
use Rattle.sequences.specs.Over.{over, over_none, over_push, length_over}
use Rattle.sequences.specs.Ranges.{range, length-range, range-append}

-- The first i places of p₀ are their own parents.
pub record OwnParents (p₀ p : List ℕ) (i : ℕ) : Type 0 where
  pub place : i ≤ length p₀
  pub long : length p ≡ length p₀
  pub list : p ≡ over (range 0 i) p₀

pub begin : (p : List ℕ) → OwnParents p p 0
unfolding range
begin p = record { place = omega arith; long = refl; list = sym (over_none p) }

pub again : {p₀ p : List ℕ} {i : ℕ} → OwnParents p₀ p i → i < length p₀ → OwnParents p₀ (set p i i) (i + 1)
unfolding range
again {p₀} {p} {i} g less =
    let more : set p i i ≡ over (range 0 (i + 1)) p₀ =
    ap (λ (l : List ℕ). set l i i) g.list
    ∙ over_push (range 0 i) p₀ i i (sym (length-range 0 i)) less
    ∙ ap (λ (l : List ℕ). over l p₀) (sym (range-append 0 i 1 ∙ ap (λ (j : ℕ). range 0 i ++ (j ∷ [])) (omega arith))) in
    record {
      place = omega arith;
      long = ap length more ∙ length_over (range 0 (i + 1)) p₀ (omega (arith, length-range 0 (i + 1)));
      list = more;
    }

pub finish : {p₀ p : List ℕ} {i : ℕ} → OwnParents p₀ p i → length p₀ ≤ i → p ≡ range 0 (length p₀)
unfolding over
finish {p₀} {p} {i} g h =
    let e : i ≡ length p₀ = omega (arith, g.place) in
    g.list
    ∙ ap (λ (t : List ℕ). range 0 i ++ t) (drop_of_length-le p₀ {i = length (range 0 i)} (omega (arith, length-range 0 i)))
    ∙ append-nil (range 0 i)
    ∙ ap (range 0) e
