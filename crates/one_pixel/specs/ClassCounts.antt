-- How the number of classes falls as pairs are added: by at most one for each.
use Rattle.std.specs.Prelude.{◌≡◌, ◌≢◌, List, [], ◌∷◌, ◌++◌, ℕ, zero, suc, ◌+◌, ◌≤◌, ◌<◌, min, max, length}
use Rattle.std.proofs.Common.{ap, ◌∙◌, arith}
use Rattle.std.proofs.Math.Decide.{ℕ_discrete}
use Rattle.unions.specs.Pairs.{Pair, Linked}
use Rattle.unions.specs.Representatives.{merge, merge_off, join_at, rep, rep-le, rep_least, linked_to_rep}
use Rattle.unions.specs.Counting.{below, below_none, below_yes, below_no}
use Rattle.winding.specs.Sums.{same, same_yes, same_no, sum, sum-add, sum-le}
use Rattle.one_pixel.specs.OneOfMany.{same_follows, sum_once}

-- How many numbers below k represent themselves, as a sum.
below_is_sum : (r : ℕ → ℕ) (k : ℕ) → below r k ≡ sum k (λ i. same (r i) i)
unfolding sum
below_is_sum r zero = below_none r
below_is_sum r (suc k) = pick (below_is_sum r k) (ℕ_discrete (r k) k)
  where
    pick : below r k ≡ sum k (λ i. same (r i) i) → Dec (r k ≡ k) → below r (suc k) ≡ sum k (λ i. same (r i) i) + same (r k) k
    pick ih (yes e) = omega (arith, below_yes r k e, same_yes (r k) k e)
    pick ih (no f) = omega (arith, below_no r k f, same_no (r k) k f)

-- Where each number that r keeps is kept by s, s counts no fewer; where each but one is, at most one fewer.
below_fewer : (r s : ℕ → ℕ) (N : ℕ) → ((k : ℕ) → k < N → r k ≡ k → s k ≡ k) → below r N ≤ below s N
below_fewer r s N h =
    omega (
      arith,
      below_is_sum r N,
      below_is_sum s N,
      sum-le N (λ k. same (r k) k) (λ k. same (s k) k) (λ k l. same_follows (r k) k (s k) k (h k l)),
    )

below_but_one : (r s : ℕ → ℕ) (one N : ℕ) → ((k : ℕ) → r k ≡ k → k ≢ one → s k ≡ k) → below r N ≤ suc (below s N)
below_but_one r s one N h =
    omega (
      arith,
      below_is_sum r N,
      below_is_sum s N,
      sum-le N (λ k. same (r k) k) (λ k. same (s k) k + same k one) (λ k l. each k (ℕ_discrete k one)),
      sum-add N (λ k. same (s k) k) (λ k. same k one),
      sum_once N one (λ k. k) (λ k. omega arith),
    )
  where
    each : (k : ℕ) → Dec (k ≡ one) → same (r k) k ≤ same (s k) k + same k one
    each k (yes e) = omega (arith, same_follows (r k) k k one (λ q. e))
    each k (no f) = omega (arith, same_follows (r k) k (s k) k (λ own. h k own f))

-- One pair more joins at most two classes.
one_pair_more : (e : Pair) (es : List Pair) (N : ℕ) → below (rep es) N ≤ suc (below (rep (e ∷ es)) N)
unfolding rep join_at
one_pair_more e es N =
    let low : ℕ = min (rep es e.one) (rep es e.two) in
    let high : ℕ = max (rep es e.one) (rep es e.two) in
    below_but_one (rep es) (rep (e ∷ es)) high N (λ k own other. ap (merge low high) own ∙ merge_off low high k other)

pub pairs_more : (fs es : List Pair) (N : ℕ) → below (rep es) N ≤ length fs + below (rep (fs ++ es)) N
pairs_more [] es N = omega arith
pairs_more (f ∷ fs) es N = omega (arith, pairs_more fs es N, one_pair_more f (fs ++ es) N)

-- What links more of the numbers below N has no more classes there.
pub linked_fewer : (es fs : List Pair) (N : ℕ) → ((i j : ℕ) → i < N → Linked es i j → Linked fs i j) → below (rep fs) N ≤ below (rep es) N
linked_fewer es fs N into =
    below_fewer (rep fs) (rep es) N
    (λ k l own. omega (arith, rep-le es k, own, rep_least fs k (rep es k) (into k (rep es k) l (linked_to_rep es k))))
