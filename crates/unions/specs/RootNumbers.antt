-- Parents turned into numbers in place, in one pass from the front.
use Rattle.std.specs.Prelude.{◌≡◌, refl, ◌≢◌, Bool, ℕ, zero, suc, ◌+◌, ◌≤◌, ◌<◌, eqb}
use Rattle.std.proofs.Math.Path.{sym, ap}
use Rattle.std.proofs.Common.{◌∙◌, add-one, arith, length-append, drop_of_length-le, drop-cons, eq-eqb, ne_eqb}
use Rattle.std.proofs.Math.Bool.{cond}
use mathlib.Core.List.{List, [], ◌∷◌, ◌++◌, append_assoc, append-nil}
use Rattle.std.proofs.Math.Decide.{ℕ_discrete}
use Rattle.std.proofs.Math.ListN.{length, get_or, set, drop, length-set}
use Rattle.std.proofs.Math.Seq.{set_at}
use Rattle.std.proofs.lemmas.List.{get_or_at}
use Rattle.unions.specs.Counting.{below, below_none, below_yes, below_no, number_of}
use Rattle.unions.specs.Roots.{parent, Low, root, read_parent, parent-le, root_of_top, root_of_parent, root-le}

-- The numbers of 0, 1, .. below k, where r gives representatives.
unfoldable pub numbers_below : (ℕ → ℕ) → ℕ → List ℕ
unfolding number_of
numbers_below r zero = []
numbers_below r (suc k) = numbers_below r k ++ (number_of r k ∷ [])

pub length-numbers_below : (r : ℕ → ℕ) (k : ℕ) → length (numbers_below r k) ≡ k
unfolding numbers_below
length-numbers_below r zero = refl
length-numbers_below r (suc k) = omega (arith, length-append (numbers_below r k) (number_of r k ∷ []), length-numbers_below r k)

numbers-before : (r : ℕ → ℕ) (k i : ℕ) (t : List ℕ) → i < k → get_or (numbers_below r k ++ t) i 0 ≡ number_of r i
unfolding numbers_below
numbers-before r zero i t h = absurd (omega arith)
numbers-before r (suc k) i t h =
    elim (ℕ_discrete i k) [
      | yes e ↦
          ap (λ (l : List ℕ). get_or l i 0) (append_assoc (numbers_below r k) (number_of r k ∷ []) t)
          ∙ get_or_at (numbers_below r k) (number_of r k) t 0 i (length-numbers_below r k ∙ sym e)
          ∙ ap (number_of r) (sym e)
      | no n ↦
          ap (λ (l : List ℕ). get_or l i 0) (append_assoc (numbers_below r k) (number_of r k ∷ []) t)
          ∙ numbers-before r k i (number_of r k ∷ t) (omega arith)
    ]

pub numbers_at : (r : ℕ → ℕ) (k i : ℕ) → i < k → get_or (numbers_below r k) i 0 ≡ number_of r i
numbers_at r k i h = ap (λ (l : List ℕ). get_or l i 0) (sym (append-nil (numbers_below r k))) ∙ numbers-before r k i [] h

-- The place i of p given its number: a root, which is its own parent, takes the number `next`, any other place what its parent has by
-- now; and the number that is next after it.
unfoldable pub number_at : List ℕ → ℕ → ℕ → List ℕ
number_at p i next = set p i (cond (eqb (get_or p i 0) i) next (get_or p (get_or p i 0) 0))

unfoldable pub next_after : List ℕ → ℕ → ℕ → ℕ
next_after p i next = cond (eqb (get_or p i 0) i) (next + 1) next

-- The first i parents of p₀ are replaced by numbers, and `next` numbers have been given.
pub record NumberedTo (p₀ p : List ℕ) (next i : ℕ) : Type 0 where
  pub place : i ≤ length p₀
  pub long : length p ≡ length p₀
  pub list : p ≡ numbers_below (root p₀) i ++ drop i p₀
  pub given : next ≡ below (root p₀) i
  pub few : next ≤ i

pub begin : (p : List ℕ) → NumberedTo p p 0 0
unfolding numbers_below
begin p = record { place = omega arith; long = refl; list = refl; given = sym (below_none (root p)); few = omega arith }

module _ {p₀ : List ℕ} (low : Low p₀) {p : List ℕ} {next i : ℕ} (g : NumberedTo p₀ p next i) (less : i < length p₀) where
  split : p ≡ numbers_below (root p₀) i ++ (get_or p₀ i 0 ∷ drop (suc i) p₀)
  split = g.list ∙ ap (λ (t : List ℕ). numbers_below (root p₀) i ++ t) (drop-cons p₀ i 0 less)

  -- The place still has its parent.
  pub here : get_or p i 0 ≡ get_or p₀ i 0
  here = ap (λ (l : List ℕ). get_or l i 0) split ∙ get_or_at (numbers_below (root p₀) i) (get_or p₀ i 0) (drop (suc i) p₀) 0 i (length-numbers_below (root p₀) i)

  pub up_le : get_or p i 0 ≤ i
  up_le = omega (arith, here, read_parent p₀ i less, parent-le p₀ low i)

  stored : (v : ℕ) → v ≡ number_of (root p₀) i → set p i v ≡ numbers_below (root p₀) (i + 1) ++ drop (i + 1) p₀
  unfolding numbers_below
  stored v e =
      ap (λ (l : List ℕ). set l i v) split
      ∙ set_at (numbers_below (root p₀) i) (get_or p₀ i 0) (drop (suc i) p₀) v i (length-numbers_below (root p₀) i)
      ∙ ap (λ (x : ℕ). numbers_below (root p₀) i ++ x ∷ drop (suc i) p₀) e
      ∙ sym (append_assoc (numbers_below (root p₀) i) (number_of (root p₀) i ∷ []) (drop (suc i) p₀))
      ∙ ap (λ (k : ℕ). numbers_below (root p₀) k ++ drop k p₀) (sym (add-one i))

  -- A root takes the next number, any other place what its parent has by now.
  pub again : {p' : List ℕ} {next' : ℕ} → next' ≡ next_after p i next → p' ≡ number_at p i next → NumberedTo p₀ p' next' (i + 1)
  unfolding number_of number_at next_after
  again {p'} {next'} hn hp =
      elim (ℕ_discrete (get_or p i 0) i) [
        | yes e ↦
            let t : root p₀ i ≡ i = root_of_top p₀ low i (sym (read_parent p₀ i less) ∙ sym here ∙ e) in
            let n : next' ≡ next + 1 = hn ∙ ap (λ (b : Bool). cond b (next + 1) next) (eq-eqb (get_or p i 0) i e) in
            let q : p' ≡ set p i next = hp ∙ ap (λ (b : Bool). set p i (cond b next (get_or p (get_or p i 0) 0))) (eq-eqb (get_or p i 0) i e) in
            record {
              place = omega arith;
              long = ap length q ∙ length-set p i next ∙ g.long;
              list = q ∙ stored next (g.given ∙ ap (below (root p₀)) (sym t));
              given = omega (arith, n, g.given, below_yes (root p₀) i t, ap (below (root p₀)) (add-one i));
              few = omega (arith, n, g.few);
            }
        | no d ↦
            let u = get_or p i 0 in
            let eu : u ≡ parent p₀ i = here ∙ read_parent p₀ i less in
            let same : root p₀ u ≡ root p₀ i = ap (root p₀) eu ∙ root_of_parent p₀ low i in
            let t : root p₀ i ≢ i = λ e. omega (arith, up_le, same, root-le p₀ low u) in
            let n : next' ≡ next = hn ∙ ap (λ (b : Bool). cond b (next + 1) next) (ne_eqb (get_or p i 0) i d) in
            let q : p' ≡ set p i (get_or p u 0) = hp ∙ ap (λ (b : Bool). set p i (cond b next (get_or p (get_or p i 0) 0))) (ne_eqb (get_or p i 0) i d) in
            let v : get_or p u 0 ≡ number_of (root p₀) i =
            ap (λ (l : List ℕ). get_or l u 0) g.list ∙ numbers-before (root p₀) i u (drop i p₀) (omega (arith, up_le)) ∙ ap (below (root p₀)) same in
            record {
              place = omega arith;
              long = ap length q ∙ length-set p i (get_or p u 0) ∙ g.long;
              list = q ∙ stored (get_or p u 0) v;
              given = omega (arith, n, g.given, below_no (root p₀) i t, ap (below (root p₀)) (add-one i));
              few = omega (arith, n, g.few);
            }
      ]

pub finish : {p₀ p : List ℕ} {next i : ℕ} → NumberedTo p₀ p next i → length p₀ ≤ i
    → (next ≡ below (root p₀) (length p₀)) × (p ≡ numbers_below (root p₀) (length p₀))
finish {p₀} {p} {next} {i} g h =
    let e : i ≡ length p₀ = omega (arith, g.place) in (
      g.given ∙ ap (below (root p₀)) e,
      g.list ∙ ap (λ (t : List ℕ). numbers_below (root p₀) i ++ t) (drop_of_length-le p₀ h) ∙ append-nil (numbers_below (root p₀) i)
          ∙ ap (numbers_below (root p₀)) e,
    )
