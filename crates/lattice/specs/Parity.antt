-- Even numbers.
use Rattle.std.specs.Prelude.{◌≡◌, ℕ, ◌+◌, ◌%◌, Bool, true, false, not, ◌==◌, refl}
use Rattle.std.proofs.Common.{sym, ap, ◌∙◌, arith, eq-eqb, ne_eqb}
use Rattle.std.proofs.Math.Decide.{ℕ_discrete}

unfoldable pub is_even : ℕ → Bool
is_even n = n % 2 == 0

pub zero_even : is_even 0 ≡ true
unfolding is_even
zero_even = refl

pub even_yes : (n : ℕ) → n % 2 ≡ 0 → is_even n ≡ true
unfolding is_even
even_yes n h = eq-eqb (n % 2) 0 h

pub even_not : (n : ℕ) → n % 2 ≡ 1 → is_even n ≡ false
unfolding is_even
even_not n h = ne_eqb (n % 2) 0 (omega arith)

pub even_next : (n : ℕ) → is_even (n + 1) ≡ not (is_even n)
even_next n =
    elim (ℕ_discrete (n % 2) 0) [
      | yes h ↦ even_not (n + 1) (omega arith) ∙ ap not (sym (even_yes n h))
      | no h ↦ even_yes (n + 1) (omega arith) ∙ ap not (sym (even_not n (omega arith)))
    ]
