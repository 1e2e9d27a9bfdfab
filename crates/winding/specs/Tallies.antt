-- Sums over the entries of a list, and how often a number stands in a list.
use Rattle.std.specs.Prelude.{◌≡◌, refl, ◌≢◌, ◌⊎◌, List, [], ◌∷◌, ◌++◌, map, ℕ, zero, suc, ◌+◌, ◌<◌, length}
use Rattle.std.proofs.Common.{sym, ap, ◌∙◌, subst, inl, inr, arith}
use Rattle.sequences.specs.Ranges.{range, range-append, tabulate}
use Rattle.orbits.specs.Members.{In, Distinct, in_first, in_later, in_cases, in_none, ordered_rest, ordered_first}
use Rattle.winding.specs.Sums.{same, same_yes, same_no, same_suc, at_most_yes, sum, sum_same, sum_none, sum-add, sum_one}

-- f of the first entry + f of the second + ..
unfoldable pub tally : (ℕ → ℕ) → List ℕ → ℕ
tally f [] = 0
tally f (e ∷ es) = f e + tally f es

pub tally_none : (f : ℕ → ℕ) (es : List ℕ) → ((e : ℕ) → In e es → f e ≡ 0) → tally f es ≡ 0
unfolding tally
tally_none f [] h = refl
tally_none f (e ∷ es) h = omega (arith, h e (in_first e es), tally_none f es (λ a i. h a (in_later a e es i)))

-- How often s stands in the list.
unfoldable pub occurrences : ℕ → List ℕ → ℕ
unfolding tally same
occurrences s es = tally (same s) es

pub occurrences_none : (s : ℕ) (es : List ℕ) → (In s es → ⊥) → occurrences s es ≡ 0
unfolding occurrences
occurrences_none s es h = tally_none (same s) es (λ e i. same_no s e (λ q. h (subst (λ x. In x es) (sym q) i)))

pub occurrences_one : (s : ℕ) (es : List ℕ) → Distinct es → In s es → occurrences s es ≡ 1
unfolding occurrences
occurrences_one s [] d i = in_none s i
occurrences_one s (e ∷ es) d i = pick (in_cases s e es i) (occurrences_one s es (ordered_rest ◌≢◌ e es d))
  where
    later : In s es → s ≢ e
    later j q = ordered_first ◌≢◌ e es d s j (sym q)

    pick : (s ≡ e) ⊎ In s es → (In s es → tally (same s) es ≡ 1) → same s e + tally (same s) es ≡ 1
    pick (inl q) ih = omega (arith, same_yes s e q, occurrences_none s es (λ j. later j q))
    pick (inr j) ih = omega (arith, same_no s e (later j), ih j)

tally-append : (f : ℕ → ℕ) (xs ys : List ℕ) → tally f (xs ++ ys) ≡ tally f xs + tally f ys
unfolding tally
tally-append f [] ys = omega arith
tally-append f (x ∷ xs) ys = omega (arith, tally-append f xs ys)

-- Over the numbers below k, it is the sum.
pub tally-below : (f : ℕ → ℕ) (k : ℕ) → tally f (range 0 k) ≡ sum k f
unfolding tally range sum
tally-below f zero = refl
tally-below f (suc k) =
    let one : suc k ≡ k + 1 = omega arith in
    let last : 0 + k ≡ k = omega arith in
    ap (λ (j : ℕ). tally f (range 0 j)) one
    ∙ ap (tally f) (range-append 0 k 1)
    ∙ tally-append f (range 0 k) (range (0 + k) 1)
    ∙ omega (arith, tally-below f k, ap f last)

tally-map : (f rule : ℕ → ℕ) (l : List ℕ) → tally f (map rule l) ≡ tally (λ e. f (rule e)) l
unfolding tally
tally-map f rule [] = refl
tally-map f rule (e ∷ l) = ap (λ (k : ℕ). f (rule e) + k) (tally-map f rule l)

pub occurrences_in_tabulate : (v k : ℕ) (rule : ℕ → ℕ) → occurrences v (tabulate k rule) ≡ sum k (λ i. same v (rule i))
unfolding occurrences tabulate
occurrences_in_tabulate v k rule = tally-map (same v) rule (range 0 k) ∙ tally-below (λ i. same v (rule i)) k

-- In a list of numbers below k, how often each of them stands adds to the length.
pub occurrences-add : (k : ℕ) (l : List ℕ) → ((e : ℕ) → In e l → e < k) → sum k (λ v. occurrences v l) ≡ length l
unfolding occurrences tally
occurrences-add k [] below = sum_none k (λ v. 0) (λ v. refl)
occurrences-add k (e ∷ l) below =
    omega (
      arith,
      sum-add k (λ v. same v e) (λ v. occurrences v l),
      sum_same k _ (λ v. same (suc v) (suc e)) (λ v h. sym (same_suc v e)) ∙ sum_one k e,
      at_most_yes (suc e) k (below e (in_first e l)),
      occurrences-add k l (λ a i. below a (in_later a e l i)),
    )
