-- Numbers in decimal digits, each digit as its byte, 48 plus the digit: "All numbers here are decimal" (document 01). What digits say, and the
-- digits of a number, with "no leading zeros" ("Path, chain and picture").
use Rattle.std.specs.Prelude.{◌≡◌, refl, Bool, true, false, ◌&&◌, List, [], ◌∷◌, ◌++◌, ℕ, zero, suc, ◌+◌, ◌-◌, ◌*◌, ◌/◌, ◌%◌, ◌≤◌, ◌<◌, leb, ltb, length, get_or}
use Rattle.std.proofs.Common.{sym, ap, ◌∙◌, arith, length-append, le-leb, lt-ltb, le-ltb}
use Rattle.std.proofs.Math.Decide.{dec_lt}
use Rattle.std.proofs.Math.ListN.{get_or-append}
use Rattle.sequences.specs.Induction.{strong}

-- The bytes of 0 to 9.
unfoldable pub is_digit : ℕ → Bool
is_digit b = leb 48 b && leb b 57

-- The number that digits say, read from the left, where they stand after those of `high`.
unfoldable pub decimal_value : ℕ → List ℕ → ℕ
decimal_value high [] = high
decimal_value high (d ∷ ds) = decimal_value (high * 10 + (d - 48)) ds

-- The digits of n, of which there are at most `fuel`.
unfoldable pub digits : ℕ → ℕ → List ℕ
digits zero n = []
digits (suc fuel) n = elim (ltb n 10) [ true ↦ (48 + n) ∷ [] | false ↦ digits fuel (n / 10) ++ ((48 + n % 10) ∷ []) ]

-- The digits of n. The two laws below say it without the bound on their number.
unfoldable pub decimal : ℕ → List ℕ
unfolding digits
decimal n = digits (suc n) n

digits_small : (fuel n : ℕ) → n < 10 → digits (suc fuel) n ≡ (48 + n) ∷ []
unfolding digits
digits_small fuel n h = rw (lt-ltb n 10 h, digits) refl

digits_large : (fuel n : ℕ) → 10 ≤ n → digits (suc fuel) n ≡ digits fuel (n / 10) ++ ((48 + n % 10) ∷ [])
unfolding digits
digits_large fuel n h = rw (le-ltb n 10 h, digits) refl

enough : (fuel more n : ℕ) → n < fuel → n < more → digits fuel n ≡ digits more n
enough zero more n h k = absurd (omega arith)
enough (suc fuel) zero n h k = absurd (omega arith)
enough (suc fuel) (suc more) n h k = pick (dec_lt n 10) (enough fuel more (n / 10))
  where
    pick : Dec (n < 10) → (n / 10 < fuel → n / 10 < more → digits fuel (n / 10) ≡ digits more (n / 10)) → digits (suc fuel) n ≡ digits (suc more) n
    pick (yes l) ih = digits_small fuel n l ∙ sym (digits_small more n l)
    pick (no l) ih =
        digits_large fuel n (omega arith) ∙ ap (λ t. t ++ ((48 + n % 10) ∷ [])) (ih (omega arith) (omega arith)) ∙ sym (digits_large more n (omega arith))

pub decimal_small : (n : ℕ) → n < 10 → decimal n ≡ (48 + n) ∷ []
unfolding decimal
decimal_small n h = digits_small n n h

pub decimal_large : (n : ℕ) → 10 ≤ n → decimal n ≡ decimal (n / 10) ++ ((48 + n % 10) ∷ [])
unfolding decimal
decimal_large n h = digits_large n n h ∙ ap (λ t. t ++ ((48 + n % 10) ∷ [])) (enough n (suc (n / 10)) (n / 10) (omega arith) (omega arith))

-- Two and three digits.
pub decimal_two : (n : ℕ) → 10 ≤ n → n < 100 → decimal n ≡ (48 + n / 10) ∷ (48 + n % 10) ∷ []
decimal_two n h k = decimal_large n h ∙ ap (λ t. t ++ ((48 + n % 10) ∷ [])) (decimal_small (n / 10) (omega arith))

pub decimal-three : (n : ℕ) → 100 ≤ n → n < 1000 → decimal n ≡ (48 + n / 100) ∷ (48 + n / 10 % 10) ∷ (48 + n % 10) ∷ []
decimal-three n h k =
    let e : n / 10 / 10 ≡ n / 100 = omega arith in
    decimal_large n (omega arith)
    ∙ ap (λ t. t ++ ((48 + n % 10) ∷ [])) (decimal_two (n / 10) (omega arith) (omega arith))
    ∙ ap (λ x. (48 + x) ∷ (48 + n / 10 % 10) ∷ (48 + n % 10) ∷ []) e

pub decimal-length : (n : ℕ) → n < 1000 → length (decimal n) ≤ 3
decimal-length n h = pick (dec_lt n 10) (dec_lt n 100)
  where
    pick : Dec (n < 10) → Dec (n < 100) → length (decimal n) ≤ 3
    pick (yes l) b = rw (decimal_small n l) (omega arith)
    pick (no l) (yes m) = rw (decimal_two n (omega arith) m) (omega arith)
    pick (no l) (no m) = rw (decimal-three n (omega arith) h) (omega arith)

value_append : (high : ℕ) (ds more : List ℕ) → decimal_value high (ds ++ more) ≡ decimal_value (decimal_value high ds) more
unfolding decimal_value
value_append high [] more = refl
value_append high (d ∷ ds) more = value_append (high * 10 + (d - 48)) ds more

-- Digits that say n, and no leading zero: a first byte 48 stands alone.
pub record Says (n : ℕ) (bs : List ℕ) : Type 0 where
  pub some : 0 < length bs
  pub each : (i : ℕ) → i < length bs → is_digit (get_or bs i 0) ≡ true
  pub number : decimal_value 0 bs ≡ n
  pub no_leading_zero : get_or bs 0 0 ≡ 48 → length bs ≡ 1

digit-byte : (d : ℕ) → d < 10 → is_digit (48 + d) ≡ true
unfolding is_digit
digit-byte d h = rw (le-leb 48 (48 + d) (omega arith), le-leb (48 + d) 57 (omega arith)) refl

each_and_last : (ds : List ℕ) (b : ℕ) → ((i : ℕ) → i < length ds → is_digit (get_or ds i 0) ≡ true) → is_digit b ≡ true
    → (i : ℕ) → i < length (ds ++ (b ∷ [])) → is_digit (get_or (ds ++ (b ∷ [])) i 0) ≡ true
each_and_last [] b f e zero h = e
each_and_last [] b f e (suc i) h = absurd (omega arith)
each_and_last (d ∷ ds) b f e zero h = f 0 (omega arith)
each_and_last (d ∷ ds) b f e (suc i) h = each_and_last ds b (λ j l. f (suc j) (omega arith)) e i (omega arith)

zero_alone : (bs : List ℕ) → length bs ≡ 1 → get_or bs 0 0 ≡ 48 → decimal_value 0 bs ≡ 0
unfolding decimal_value
zero_alone [] l h = absurd (omega arith)
zero_alone (b ∷ []) l h = omega (arith, h)
zero_alone (b ∷ c ∷ bs) l h = absurd (omega arith)

one_says : (n : ℕ) → n < 10 → Says n ((48 + n) ∷ [])
unfolding decimal_value
one_says n h =
    record {
      some = omega arith;
      each = each_and_last [] (48 + n) (λ i l. absurd (omega arith)) (digit-byte n h);
      number = omega arith;
      no_leading_zero = λ z. refl;
    }

-- One digit more; those before it don't say 0, so the first of them is no 0.
more_say : (n : ℕ) (ds : List ℕ) → 10 ≤ n → Says (n / 10) ds → Says n (ds ++ ((48 + n % 10) ∷ []))
unfolding decimal_value
more_say n ds l h =
    record {
      some = omega (arith, length-append ds last);
      each = each_and_last ds (48 + n % 10) h.each (digit-byte (n % 10) (omega arith));
      number = value_append 0 ds last ∙ ap (λ x. decimal_value x last) h.number ∙ omega arith;
      no_leading_zero = λ z. absurd (nonzero (sym (get_or-append ds last 0 0 h.some) ∙ z));
    }
  where
    last : List ℕ
    last = (48 + n % 10) ∷ []

    nonzero : get_or ds 0 0 ≡ 48 → ⊥
    nonzero z = omega (arith, h.number, zero_alone ds (h.no_leading_zero z) z)

-- The digits of a number say the number.
pub decimal_says : (n : ℕ) → Says n (decimal n)
decimal_says = strong (λ n. Says n (decimal n)) (λ n ih. pick n ih (dec_lt n 10))
  where
    pick : (n : ℕ) → ((k : ℕ) → k < n → Says k (decimal k)) → Dec (n < 10) → Says n (decimal n)
    pick n ih (yes l) = rw (decimal_small n l) (one_says n l)
    pick n ih (no l) = rw (decimal_large n (omega arith)) (more_say n (decimal (n / 10)) (omega arith) (ih (n / 10) (omega arith)))
