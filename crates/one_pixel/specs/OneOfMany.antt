-- Sums of numbers that are 0 but for one.
use Rattle.std.specs.Prelude.{◌≡◌, refl, ◌≢◌, ℕ, zero, suc, ◌+◌, ◌*◌, ◌≤◌, ◌<◌}
use Rattle.std.proofs.Common.{ap, ◌∙◌, mul_comm, mul-le-mul, arith}
use Rattle.std.proofs.Math.Decide.{ℕ_discrete}
use Rattle.winding.specs.Sums.{same, at_most, same_yes, same_no, same_flip, at_most_or_same, sum, sum_same, sum_none, sum_times}

-- Where c = d follows from a = b.
pub same_follows : (a b c d : ℕ) → (a ≡ b → c ≡ d) → same a b ≤ same c d
same_follows a b c d h = pick (ℕ_discrete a b)
  where
    pick : Dec (a ≡ b) → same a b ≤ same c d
    pick (yes e) = omega (arith, same_yes a b e, same_yes c d (h e))
    pick (no f) = omega (arith, same_no a b f)

-- Of numbers that rise, one at most is b.
pub sum_once : (k b : ℕ) (s : ℕ → ℕ) → ((i : ℕ) → s i < s (suc i)) → sum k (λ i. same (s i) b) ≤ 1
unfolding sum at_most
sum_once k b s rises = omega (arith, up_to k)
  where
    up_to : (k : ℕ) → sum k (λ i. same (s i) b) ≤ at_most (suc b) (s k)
    up_to zero = omega arith
    up_to (suc k) = omega (arith, up_to k, rises k, at_most_or_same b (s k), same_flip (s k) b)

-- In a square, one place at most has the column a and the row b.
pub square_once : (w a b : ℕ) (s t : ℕ → ℕ) → ((i : ℕ) → s i < s (suc i)) → ((i : ℕ) → t i < t (suc i))
    → sum w (λ y. sum w (λ x. same (t y) b * same (s x) a)) ≤ 1
square_once w a b s t s_rises t_rises =
    let columns : ℕ = sum w (λ x. same (s x) a) in
    let rows : ℕ = sum w (λ y. same (t y) b) in
    let product : sum w (λ y. sum w (λ x. same (t y) b * same (s x) a)) ≡ columns * rows =
    sum_same w _ (λ y. columns * same (t y) b) (λ y l. sum_times w (same (t y) b) (λ x. same (s x) a) ∙ mul_comm (same (t y) b) columns)
    ∙ sum_times w columns (λ y. same (t y) b) in
    let small : columns * rows ≤ 1 * 1 = mul-le-mul (sum_once w a s s_rises) (sum_once w b t t_rises) in
    omega (arith, product, small)

-- Where all summands are 0, and where all but one are.
pub sum-zero : (k : ℕ) (f : ℕ → ℕ) → ((i : ℕ) → i < k → f i ≡ 0) → sum k f ≡ 0
sum-zero k f h = sum_same k f (λ i. 0) h ∙ sum_none k (λ i. 0) (λ i. refl)

pub sum_only : (k a : ℕ) (f : ℕ → ℕ) → a < k → ((i : ℕ) → i < k → i ≢ a → f i ≡ 0) → sum k f ≡ f a
unfolding sum
sum_only zero a f l h = absurd (omega arith)
sum_only (suc k) a f l h = pick (ℕ_discrete k a) (λ b. sum_only k a f b (λ i c. h i (omega arith)))
  where
    pick : Dec (k ≡ a) → (a < k → sum k f ≡ f a) → sum k f + f k ≡ f a
    pick (yes e) ih = omega (arith, sum-zero k f (λ i b. h i (omega arith) (λ q. omega arith)), ap f e)
    pick (no g) ih = omega (arith, ih (omega arith), h k (omega arith) g)
