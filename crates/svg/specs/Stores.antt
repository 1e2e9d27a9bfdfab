-- Stores at the front of a list, one after the other.
use Rattle.std.specs.Prelude.{◌≡◌, refl, List, [], ◌∷◌, ℕ, ◌+◌, ◌/◌, ◌%◌, ◌≤◌, ◌<◌, length, set}
use Rattle.std.proofs.Common.{arith}
use Rattle.sequences.specs.Over.{over}
use Rattle.decimals.specs.Decimal.{decimal, decimal_small, decimal_two, decimal-three, decimal-length}
use Rattle.answers.specs.Put.{Put}

store_two : (old : List ℕ) (a b : ℕ) → 4 ≤ length old → set (set old 0 a) 1 b ≡ over (a ∷ b ∷ []) old
unfolding over
store_two [] a b h = absurd (omega arith)
store_two (x ∷ []) a b h = absurd (omega arith)
store_two (x ∷ y ∷ old) a b h = refl

store-three : (old : List ℕ) (a b c : ℕ) → 4 ≤ length old → set (set (set old 0 a) 1 b) 2 c ≡ over (a ∷ b ∷ c ∷ []) old
unfolding over
store-three [] a b c h = absurd (omega arith)
store-three (x ∷ []) a b c h = absurd (omega arith)
store-three (x ∷ y ∷ []) a b c h = absurd (omega arith)
store-three (x ∷ y ∷ z ∷ old) a b c h = refl

store_four : (old : List ℕ) (a b c d : ℕ) → 4 ≤ length old → set (set (set (set old 0 a) 1 b) 2 c) 3 d ≡ over (a ∷ b ∷ c ∷ d ∷ []) old
unfolding over
store_four [] a b c d h = absurd (omega arith)
store_four (x ∷ []) a b c d h = absurd (omega arith)
store_four (x ∷ y ∷ []) a b c d h = absurd (omega arith)
store_four (x ∷ y ∷ z ∷ []) a b c d h = absurd (omega arith)
store_four (x ∷ y ∷ z ∷ w ∷ old) a b c d h = refl

-- A letter and a number of one, two or three digits.
module _ (old : List ℕ) (letter v : ℕ) (room : 4 ≤ length old) where
  pub put_one : v < 10 → Put (letter ∷ decimal v) old (set (set old 0 letter) 1 (48 + v)) 2
  put_one h = rw (decimal_small v h) (record { count_is = refl; list = store_two old letter (48 + v) room })

  pub put_two : 10 ≤ v → v < 100 → Put (letter ∷ decimal v) old (set (set (set old 0 letter) 1 (48 + v / 10)) 2 (48 + v % 10)) 3
  put_two h k = rw (decimal_two v h k) (record { count_is = refl; list = store-three old letter (48 + v / 10) (48 + v % 10) room })

  pub put_three : 100 ≤ v → v < 1000 → Put (letter ∷ decimal v) old (set (set (set (set old 0 letter) 1 (48 + v / 100)) 2 (48 + v / 10 % 10)) 3 (48 + v % 10)) 4
  put_three h k = rw (decimal-three v h k) (record { count_is = refl; list = store_four old letter (48 + v / 100) (48 + v / 10 % 10) (48 + v % 10) room })

pub number_short : (letter v n : ℕ) → v < 1000 → n ≡ length (letter ∷ decimal v) → n ≤ 4
number_short letter v n h e = omega (arith, decimal-length v h)
