-- Sums over the numbers below k, and numbers 0 or 1 that say whether something holds.
use Rattle.std.specs.Prelude.{◌≡◌, refl, ◌≢◌, ◌⊎◌, ℕ, zero, suc, ◌+◌, ◌-◌, ◌*◌, ◌/◌, ◌%◌, ◌≤◌, ◌<◌}
use Rattle.std.proofs.Common.{ap, ap₂, ◌∙◌, inl, inr, eq-or-lt_of_le, mul-add, suc-mul, zero-mul, arith}
use Rattle.std.proofs.Math.Arith.{digits_div, digits_mod}

-- 1 where a = b, else 0; 1 where a ≤ b, else 0. Written with the subtraction that stops at 0, which `omega` reads.
unfoldable pub same : ℕ → ℕ → ℕ
same a b = 1 - ((a - b) + (b - a))

unfoldable pub at_most : ℕ → ℕ → ℕ
at_most a b = 1 - (a - b)

pub same_yes : (a b : ℕ) → a ≡ b → same a b ≡ 1
unfolding same
same_yes a b h = omega arith

pub same_no : (a b : ℕ) → a ≢ b → same a b ≡ 0
unfolding same
same_no a b h = omega arith

pub same_suc : (a b : ℕ) → same (suc a) (suc b) ≡ same a b
unfolding same
same_suc a b = ap (λ (k : ℕ). 1 - k) (omega arith)

pub same_flip : (a b : ℕ) → same a b ≡ same b a
unfolding same
same_flip a b = ap (λ (k : ℕ). 1 - k) (omega arith)

pub at_most_yes : (a b : ℕ) → a ≤ b → at_most a b ≡ 1
unfolding at_most
at_most_yes a b h = omega arith

pub at_most_no : (a b : ℕ) → b < a → at_most a b ≡ 0
unfolding at_most
at_most_no a b h = omega arith

pub at_most_suc : (a b : ℕ) → at_most (suc a) (suc b) ≡ at_most a b
unfolding at_most
at_most_suc a b = ap (λ (k : ℕ). 1 - k) (omega arith)

-- What is at most b is below b, or it is b.
pub at_most_or_same : (a b : ℕ) → at_most a b ≡ at_most (suc a) b + same a b
unfolding at_most same
at_most_or_same a b = omega arith

-- f 0 + f 1 + .. + f (k - 1).
unfoldable pub sum : ℕ → (ℕ → ℕ) → ℕ
sum zero f = 0
sum (suc k) f = sum k f + f k

pub sum_same : (k : ℕ) (f g : ℕ → ℕ) → ((i : ℕ) → i < k → f i ≡ g i) → sum k f ≡ sum k g
unfolding sum
sum_same zero f g h = refl
sum_same (suc k) f g h = ap₂ ◌+◌ (sum_same k f g (λ i l. h i (omega arith))) (h k (omega arith))

pub sum_none : (k : ℕ) (f : ℕ → ℕ) → ((i : ℕ) → f i ≡ 0) → sum k f ≡ 0
unfolding sum
sum_none zero f h = refl
sum_none (suc k) f h = omega (arith, sum_none k f h, h k)

pub sum-add : (k : ℕ) (f g : ℕ → ℕ) → sum k (λ i. f i + g i) ≡ sum k f + sum k g
unfolding sum
sum-add zero f g = refl
sum-add (suc k) f g = omega (arith, sum-add k f g)

pub sum_times : (k c : ℕ) (f : ℕ → ℕ) → sum k (λ i. c * f i) ≡ c * sum k f
unfolding sum
sum_times zero c f = omega arith
sum_times (suc k) c f = omega (arith, sum_times k c f, mul-add c (sum k f) (f k))

-- Where no summand falls, the sum does not; where one grows too, it grows.
pub sum-le : (k : ℕ) (f g : ℕ → ℕ) → ((i : ℕ) → i < k → f i ≤ g i) → sum k f ≤ sum k g
unfolding sum
sum-le zero f g h = omega arith
sum-le (suc k) f g h = omega (arith, sum-le k f g (λ i l. h i (omega arith)), h k (omega arith))

pub sum_less : (k : ℕ) (f g : ℕ → ℕ) (a : ℕ) → a < k → f a < g a → ((i : ℕ) → i < k → f i ≤ g i) → sum k f < sum k g
unfolding sum
sum_less zero f g a l s h = absurd (omega arith)
sum_less (suc k) f g a l s h = pick (eq-or-lt_of_le l) (λ b. sum_less k f g a b s (λ i e. h i (omega arith)))
  where
    pick : (suc a ≡ suc k) ⊎ (suc a < suc k) → (a < k → sum k f < sum k g) → sum k f + f k < sum k g + g k
    pick (inl e) ih = let z : a ≡ k = omega arith in omega (arith, sum-le k f g (λ i b. h i (omega arith)), ap f z, ap g z)
    pick (inr b) ih = omega (arith, ih (omega arith), h k (omega arith))

-- Of the numbers 1 to k, a are at most a, and one is b, where a and b do not go beyond k.
pub sum_at_most : (k a : ℕ) → sum k (λ i. at_most (suc i) a) ≡ k - (k - a)
unfolding sum at_most
sum_at_most zero a = omega arith
sum_at_most (suc k) a = omega (arith, sum_at_most k a)

pub sum_one : (k b : ℕ) → sum k (λ i. same (suc i) (suc b)) ≡ at_most (suc b) k
unfolding sum same at_most
sum_one zero b = omega arith
sum_one (suc k) b = omega (arith, sum_one k b)

-- ---- sums one after the other

sum_then : (j k : ℕ) (f : ℕ → ℕ) → sum (j + k) f ≡ sum j f + sum k (λ i. f (j + i))
unfolding sum
sum_then j zero f = let e : j + 0 ≡ j = omega arith in ap (λ (l : ℕ). sum l f) e ∙ omega arith
sum_then j (suc k) f =
    let e : j + suc k ≡ suc (j + k) = omega arith in
    ap (λ (l : ℕ). sum l f) e ∙ omega (arith, sum_then j k f)

-- Places row by row, in h rows of w: the place i has the column i % w and the row i / w.
pub sum_rows : (h w : ℕ) (f : ℕ → ℕ → ℕ) → sum (h * w) (λ i. f (i % w) (i / w)) ≡ sum h (λ y. sum w (λ x. f x y))
unfolding sum
sum_rows zero w f = ap (λ (k : ℕ). sum k (λ i. f (i % w) (i / w))) (zero-mul w)
sum_rows (suc h) w f =
    let e : suc h * w ≡ h * w + w = omega (arith, suc-mul h w) in
    ap (λ (k : ℕ). sum k (λ i. f (i % w) (i / w))) e
    ∙ sum_then (h * w) w (λ i. f (i % w) (i / w))
    ∙ ap₂ ◌+◌ (sum_rows h w f) (sum_same w _ (λ x. f x h) (λ x l. ap₂ f (digits_mod h l) (digits_div h l)))
