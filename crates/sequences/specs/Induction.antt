-- Strong induction on numbers.
use Rattle.std.specs.Prelude.{ℕ, zero, suc, ◌≤◌, ◌<◌}
use Rattle.std.proofs.Common.{arith}

pub strong {ℓ} : (P : ℕ → Type ℓ) → ((n : ℕ) → ((k : ℕ) → k < n → P k) → P n) → (n : ℕ) → P n
strong P step n = go n n (omega arith)
  where
    go : (f m : ℕ) → m ≤ f → P m
    go zero m h = step m (λ k l. absurd (omega arith))
    go (suc f) m h = step m (λ k l. go f k (omega arith))
