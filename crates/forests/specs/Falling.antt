-- The order by falling numbers: right wherever each number comes before smaller ones only.
use Rattle.std.specs.Prelude.{◌≡◌, refl, List, [], ◌∷◌, ℕ, suc, ◌-◌, ◌<◌, length, get_or}
use Rattle.std.proofs.Common.{arith}
use Rattle.sequences.specs.Ranges.{tabulate, length-tabulate, tabulate_at}
use Rattle.forests.specs.Orders.{EachOnce, Before}

-- N - 1, .., 1, 0.
unfoldable pub falling : ℕ → List ℕ
unfolding tabulate
falling N = tabulate N (λ i. N - suc i)

example : falling 3 ≡ 2 ∷ 1 ∷ 0 ∷ []
unfolding falling
example = refl

length-falling : (N : ℕ) → length (falling N) ≡ N
unfolding falling
length-falling N = length-tabulate N (λ i. N - suc i)

falling_at : (N i : ℕ) → i < length (falling N) → get_or (falling N) i 0 ≡ N - suc i
unfolding falling
falling_at N i h = tabulate_at N (λ i. N - suc i) i (omega (arith, length-falling N))

pub falling_each_once : (N : ℕ) → EachOnce N (falling N)
falling_each_once N = record {
  long = length-falling N;
  once = λ i j h k e. omega (arith, length-falling N, falling_at N i (omega arith), falling_at N j k);
  below = λ a i. omega (arith, length-falling N, falling_at N i.0 i.1, i.1, i.2);
}

pub falling-before : (N r s : ℕ) → r < s → Before (falling N) s r
falling-before N r s h i j hi hj x y = omega (arith, falling_at N i hi, falling_at N j hj)
