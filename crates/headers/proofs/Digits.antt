-- The loop over the digits of a number: what was read and what is left make the whole.
use mathlib.Core.Path.{◌≡◌, refl, sym, ap, ◌∙◌}
use mathlib.Core.Bool.{true, false}
use mathlib.Core.List.{List, []}
use Prim.Native.Nat.{ℕ, zero, suc, ◌+◌, ◌*◌, ◌-◌, ◌^◌, ◌≤◌, ◌<◌}
use native.Mathlib.Omega.{arith}
use lib.ListN.{length, drop, get_or}
use lib.Dec.{eqb-suc-zero}
use Rattle.headers.specs.Parser.{bad}
use Rattle.headers.specs.Number.{is_digit, digits, behind, decimal_value, number}
use Rattle.headers.specs.NumberLaws.{digit-range, digit-more, number_good, number_none, number_long}
use Rattle.headers.specs.Steps.{Numbers, stopped}
use Rattle.headers.proofs.Places.{digits-end, behind-end, digits-yes, digits-no, behind-yes, behind-no}

-- `count` digits of the number at `from`, worth `value`, were read, and the next byte stands at `at`.
pub record Reading (bytes : List ℕ) (from count value at : ℕ) : Type 0 where
  pub place : at ≤ length bytes
  pub few : count ≤ 5
  pub small : value < 10 ^ count
  pub counted : count + length (digits (drop at bytes)) ≡ length (digits (drop from bytes))
  pub valued : decimal_value value (digits (drop at bytes)) ≡ decimal_value 0 (digits (drop from bytes))
  pub left : behind (drop at bytes) ≡ behind (drop from bytes)

pub begin : (bytes : List ℕ) (from : ℕ) → from ≤ length bytes → Reading bytes from 0 0 from
begin bytes from h = record { place = h; few = omega arith; small = omega arith; counted = omega arith; valued = refl; left = refl }

module _ {bytes : List ℕ} {from count value at : ℕ} (r : Reading bytes from count value at) where
  module _ (none : digits (drop at bytes) ≡ []) (rest : behind (drop at bytes) ≡ drop at bytes) where
    count_is : length (digits (drop from bytes)) ≡ count
    count_is = omega (arith, r.counted, ap length none)

    value-is : decimal_value 0 (digits (drop from bytes)) ≡ value
    unfolding decimal_value
    value-is = sym r.valued ∙ ap (decimal_value value) none

    ended : Numbers bytes (number (drop from bytes)) (stopped count value at)
    ended = go count refl
      where
        go : (k : ℕ) → count ≡ k → Numbers bytes (number (drop from bytes)) (stopped k value at)
        go zero e = record { says = sym (number_none (drop from bytes) (omega (arith, count_is))); inside = omega arith }
        go (suc k) e =
            rw (eqb-suc-zero k)
            record {
              says = sym (number_good (drop from bytes) (omega (arith, count_is)) (omega (arith, count_is, r.few)) ∙ rw (value-is, ← r.left, rest) refl);
              inside = r.place;
            }

  module _ (h : at < length bytes) where
    -- Another byte than a digit ends the number.
    pub finish : is_digit (get_or bytes at 0) ≡ false → Numbers bytes (number (drop from bytes)) (stopped count value at)
    finish e = ended (digits-no bytes at h e) (behind-no bytes at h e)

    pub again : is_digit (get_or bytes at 0) ≡ true → (count ≡ 5 → ⊥) → Reading bytes from (count + 1) (value * 10 + (get_or bytes at 0 - 48)) (at + 1)
    unfolding decimal_value
    again e other = record {
      place = omega arith;
      few = omega arith;
      small = digit-more count value (get_or bytes at 0) r.small (digit-range (get_or bytes at 0) e).1;
      counted = omega (arith, r.counted, ap length (digits-yes bytes at h e));
      valued = ap (decimal_value value) (sym (digits-yes bytes at h e)) ∙ r.valued;
      left = sym (behind-yes bytes at h e) ∙ r.left;
    }

    -- A sixth digit.
    pub sixth : is_digit (get_or bytes at 0) ≡ true → count ≡ 5 → number (drop from bytes) ≡ bad
    sixth e full = number_long (drop from bytes) (omega (arith, r.counted, ap length (digits-yes bytes at h e)))

  -- So does the end of the bytes.
  pub finish-end : length bytes ≤ at → Numbers bytes (number (drop from bytes)) (stopped count value at)
  finish-end h = ended (digits-end bytes at h) (behind-end bytes at h)
