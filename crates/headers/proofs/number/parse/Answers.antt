use mathlib.Core.Path.{◌≡◌, sym, ◌∙◌}
use mathlib.Core.Bool.{true}
use Prim.Native.Nat.{◌<◌}
use native.Mathlib.Omega.{arith}
use lib.ListN.{length, get_or}
use Rattle.headers.specs.Number.{is_digit}
use Rattle.headers.specs.NumberLaws.{digit-range, five_digits}
use Rattle.headers.proofs.Digits.{begin, again, sixth, finish, finish-end}
use Rattle.headers.proofs.number.parse.Goals as goal

pub loop-at-init : goal.loop-at-init
loop-at-init c = begin _ _ c.requires

pub returns-then-not-digit : goal.returns-then-not-digit
returns-then-not-digit c =
    rw c.stop.ensures
    (finish c.loop-at.invariant (omega arith)
    (sym c.is_digit-digit.ensures ∙ c.if-not-digit.true))

pub returns-then-count-eq5 : goal.returns-then-count-eq5
returns-then-count-eq5 c =
    let digit : is_digit (get_or c.args.bytes.now c.loop-at.at 0) ≡ true = sym c.is_digit-digit.ensures ∙ c.if-not-digit.false in
    record {
      says = sym (sixth c.loop-at.invariant (omega arith) digit c.if-count-eq5.true);
      inside = omega arith;
    }

pub overflow_mul-value : goal.overflow_mul-value
overflow_mul-value c =
    let below : c.loop-at.value < 100000 = let l = c.loop-at in five_digits _ _ l.invariant.few l.invariant.small in
    omega (arith, below)

pub overflow_sub-b : goal.overflow_sub-b
overflow_sub-b c =
    let digit : is_digit (get_or c.args.bytes.now c.loop-at.at 0) ≡ true = sym c.is_digit-digit.ensures ∙ c.if-not-digit.false in
    omega (arith, (digit-range _ digit).0)

pub overflow_add-value : goal.overflow_add-value
overflow_add-value c =
    let digit : is_digit (get_or c.args.bytes.now c.loop-at.at 0) ≡ true = sym c.is_digit-digit.ensures ∙ c.if-not-digit.false in
    let below : c.loop-at.value < 100000 = let l = c.loop-at in five_digits _ _ l.invariant.few l.invariant.small in
    omega (arith, below, (digit-range _ digit).1)

pub overflow_add-count : goal.overflow_add-count
overflow_add-count c = omega (arith, c.loop-at.invariant.few)

pub loop-at-preserved : goal.loop-at-preserved
loop-at-preserved c =
    let digit : is_digit (get_or c.args.bytes.now c.loop-at.at 0) ≡ true = sym c.is_digit-digit.ensures ∙ c.if-not-digit.false in
    rw c.from.ensures (again c.loop-at.invariant (omega arith) digit c.if-count-eq5.false)

pub returns : goal.returns
returns c =
    let end : length c.args.bytes.now ≡ c.loop-at.at = omega arith in
    rw (c.stop-2.ensures, end) (finish-end c.loop-at.invariant (omega arith))
