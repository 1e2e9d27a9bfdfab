-- Laws of digits and numbers: what a digit is worth, and when a number is refused.
use Rattle.std.specs.Prelude.{◌≡◌, true, false, List, [], ◌∷◌, ℕ, ◌+◌, ◌*◌, ◌-◌, ◌^◌, ◌≤◌, ◌<◌, leb}
use Rattle.std.proofs.Math.Path.{refl}
use Rattle.std.proofs.Math.Bool.{and-eq-true_iff}
use Rattle.std.proofs.Common.{pow-suc, add-one}
use Rattle.std.proofs.Math.Nat.{pow-le-pow_right}
use native.Mathlib.Omega.{arith}
use borrow.Author.Tests.{le-leb, lt-leb, leb-true}
use Rattle.std.proofs.Math.ListN.{length}
use Rattle.headers.specs.Parser.{got, bad}
use Rattle.headers.specs.Number.{is_digit, digits, behind, decimal_value, number}

-- A digit is a byte from 48 to 57.
pub digit-range : (b : ℕ) → is_digit b ≡ true → (48 ≤ b) × (b ≤ 57)
unfolding is_digit
digit-range b e =
    let p = (and-eq-true_iff (leb 48 b) (leb b 57)).0 e in
    (leb-true 48 b p.0, leb-true b 57 p.1)

-- A digit belongs to the number, and any other byte ends it.
pub digits_more : (b : ℕ) (bytes : List ℕ) → is_digit b ≡ true → digits (b ∷ bytes) ≡ b ∷ digits bytes
unfolding digits
digits_more b bytes e = rw (e, digits) refl

pub digits_stop : (b : ℕ) (bytes : List ℕ) → is_digit b ≡ false → digits (b ∷ bytes) ≡ []
unfolding digits
digits_stop b bytes e = rw (e, digits) refl

pub behind_more : (b : ℕ) (bytes : List ℕ) → is_digit b ≡ true → behind (b ∷ bytes) ≡ behind bytes
unfolding behind
behind_more b bytes e = rw (e, behind) refl

pub behind_stop : (b : ℕ) (bytes : List ℕ) → is_digit b ≡ false → behind (b ∷ bytes) ≡ b ∷ bytes
unfolding behind
behind_stop b bytes e = rw (e, behind) refl

-- One more digit makes a number of k digits one of k + 1.
pub digit-more : (k value b : ℕ) → value < 10 ^ k → b ≤ 57 → value * 10 + (b - 48) < 10 ^ (k + 1)
digit-more k value b h l = rw (add-one k, pow-suc) (omega arith)

pub five_digits : (k value : ℕ) → k ≤ 5 → value < 10 ^ k → value < 100000
five_digits k value few h = omega (arith, pow-le-pow_right {n = 10} (omega arith) {i = k} {j = 5} few)

module _ (bytes : List ℕ) where
  pub number_good : 1 ≤ length (digits bytes) → length (digits bytes) ≤ 5 → number bytes ≡ got (decimal_value 0 (digits bytes)) (behind bytes)
  unfolding number
  number_good some few = rw (le-leb 1 (length (digits bytes)) some, le-leb (length (digits bytes)) 5 few, number) refl

  pub number_none : length (digits bytes) < 1 → number bytes ≡ bad
  unfolding number
  number_none none = rw (lt-leb 1 (length (digits bytes)) none, number) refl

  pub number_long : 5 < length (digits bytes) → number bytes ≡ bad
  unfolding number
  number_long long =
      let some : 1 ≤ length (digits bytes) = omega arith in
      rw (le-leb 1 (length (digits bytes)) some, lt-leb (length (digits bytes)) 5 long, number) refl
