-- The parts of the test are asked in the definition's order; the corners of the walk are those met with the last digit before the
-- first.
use mathlib.Core.Path.{◌≡◌, sym, ap, ◌∙◌}
use mathlib.Core.Bool.{true}
use Prim.Native.Nat.{◌-◌, ◌<◌}
use native.Mathlib.Omega.{arith}
use lib.Dec.{eqb}
use lib.ListN.{length, get_or, get_or-eq_default}
use borrow.Author.Tests.{eq-eqb, ne_eqb}
use Rattle.lattice.specs.CycleForm.{inside}
use Rattle.chains.specs.ChainForm.{digit_of, first_east, is_across, last_across, last_byte, closes, corners_of}
use Rattle.chains.specs.ChainParts.{ChainParts, from_chain_parts, last_at, across_below, follows_chain, none_outside, none_first, none_last, none_open, none_many}
use Rattle.chains.specs.Followed.{Follows, no_chain, all_corners_lem, said_none, said_some}
use Rattle.chains.proofs.reading.corner_count.Goals as goal
use Rattle.chains.proofs.reading.corner_count.Goals.{then-n-eq0-via-then-n-eq0, then-n-eq0-via-else-n-eq0+then-bytes-ne48}

pub returns-then-not-within : goal.returns-then-not-within
returns-then-not-within c = no_chain (none_outside c.args.start c.args.bytes.now (sym c.within.ensures ∙ c.if-not-within.true))

pub returns-then-n-eq0 : goal.returns-then-n-eq0
unfolding first_east
returns-then-n-eq0 c =
    let within : inside c.args.start ≡ true = sym c.within.ensures ∙ c.if-not-within.false in
    let bs = c.args.bytes.now in
    elim c.then-n-eq0.branch [
      | then-n-eq0-via-then-n-eq0 w ↦ no_chain (none_first c.args.start bs within (ap (λ b. eqb b 48) (get_or-eq_default bs 0 {n = 0} (omega arith))))
      | then-n-eq0-via-else-n-eq0+then-bytes-ne48 w ↦ no_chain (none_first c.args.start bs within (ne_eqb _ _ w.if-bytes-ne48.true))
    ]

pub returns-then-not-across : goal.returns-then-not-across
unfolding last_across first_east
returns-then-not-across c =
    let within : inside c.args.start ≡ true = sym c.within.ensures ∙ c.if-not-within.false in
    let some : 0 < length (c.args.bytes.now) = omega arith in
    let east : first_east (c.args.bytes.now) ≡ true = eq-eqb _ _ c.if-bytes-ne48.false in
    let other = ap is_across (sym (last_at (c.args.bytes.now) some)) ∙ sym c.across.ensures ∙ c.if-not-across.true in
    no_chain (none_last (c.args.start) (c.args.bytes.now) within east other)

pub overflow_sub-last-2 : goal.overflow_sub-last-2
unfolding last_across
overflow_sub-last-2 c =
    let some : 0 < length (c.args.bytes.now) = omega arith in
    let ends : last_across (c.args.bytes.now) ≡ true = ap is_across (sym (last_at (c.args.bytes.now) some)) ∙ sym c.across.ensures ∙ c.if-not-across.false in
    let low : (48 < get_or (c.args.bytes.now) (length (c.args.bytes.now) - 1) 0) × (digit_of (get_or (c.args.bytes.now) (length (c.args.bytes.now) - 1) 0) < 4) = rw (last_at (c.args.bytes.now) some) (across_below (last_byte (c.args.bytes.now)) ends) in
    omega (arith, low)

pub follow-requires : goal.follow-requires
unfolding digit_of last_across
follow-requires c =
    let within : inside c.args.start ≡ true = sym c.within.ensures ∙ c.if-not-within.false in
    let some : 0 < length (c.args.bytes.now) = omega arith in
    let ends : last_across (c.args.bytes.now) ≡ true = ap is_across (sym (last_at (c.args.bytes.now) some)) ∙ sym c.across.ensures ∙ c.if-not-across.false in
    let low : (48 < get_or (c.args.bytes.now) (length (c.args.bytes.now) - 1) 0) × (digit_of (get_or (c.args.bytes.now) (length (c.args.bytes.now) - 1) 0) < 4) = rw (last_at (c.args.bytes.now) some) (across_below (last_byte (c.args.bytes.now)) ends) in
    (within, low.1)

pub returns-in_err-k : goal.returns-in_err-k
unfolding first_east last_across
returns-in_err-k c =
    let within : inside c.args.start ≡ true = sym c.within.ensures ∙ c.if-not-within.false in
    let east : first_east (c.args.bytes.now) ≡ true = eq-eqb _ _ c.if-bytes-ne48.false in
    let some : 0 < length (c.args.bytes.now) = omega arith in
    let ends : last_across (c.args.bytes.now) ≡ true = ap is_across (sym (last_at (c.args.bytes.now) some)) ∙ sym c.across.ensures ∙ c.if-not-across.false in
    let told : Follows (closes (c.args.start) (c.args.bytes.now)) (corners_of (c.args.start) (c.args.bytes.now)) c.follow.result = follows_chain (c.args.start) (c.args.bytes.now) c.follow.result some ends c.follow.ensures in
    let astray = said_none told c.in_err-k.was in
    rw c.from_residual.ensures (no_chain (none_open (c.args.start) (c.args.bytes.now) within east ends astray))

pub returns-then-k-gt262144 : goal.returns-then-k-gt262144
unfolding first_east last_across
returns-then-k-gt262144 c =
    let within : inside c.args.start ≡ true = sym c.within.ensures ∙ c.if-not-within.false in
    let some : 0 < length (c.args.bytes.now) = omega arith in
    let east : first_east (c.args.bytes.now) ≡ true = eq-eqb _ _ c.if-bytes-ne48.false in
    let ends : last_across (c.args.bytes.now) ≡ true = ap is_across (sym (last_at (c.args.bytes.now) some)) ∙ sym c.across.ensures ∙ c.if-not-across.false in
    let told : Follows (closes (c.args.start) (c.args.bytes.now)) (corners_of (c.args.start) (c.args.bytes.now)) c.follow.result = follows_chain (c.args.start) (c.args.bytes.now) c.follow.result some ends c.follow.ensures in
    let some = said_some told c.in_ok-k.was in
    let many : 262144 < length (corners_of (c.args.start) (c.args.bytes.now)) = omega (arith, some.1, c.if-k-gt262144.true) in
    no_chain (none_many (c.args.start) (c.args.bytes.now) within east ends some.0 many)

pub returns : goal.returns
unfolding first_east last_across
returns c =
    let within : inside c.args.start ≡ true = sym c.within.ensures ∙ c.if-not-within.false in
    let some : 0 < length (c.args.bytes.now) = omega arith in
    let east : first_east (c.args.bytes.now) ≡ true = eq-eqb _ _ c.if-bytes-ne48.false in
    let ends : last_across (c.args.bytes.now) ≡ true = ap is_across (sym (last_at (c.args.bytes.now) some)) ∙ sym c.across.ensures ∙ c.if-not-across.false in
    let told : Follows (closes (c.args.start) (c.args.bytes.now)) (corners_of (c.args.start) (c.args.bytes.now)) c.follow.result = follows_chain (c.args.start) (c.args.bytes.now) c.follow.result some ends c.follow.ensures in
    let some = said_some told c.in_ok-k.was in
    let form : ChainParts (c.args.start) (c.args.bytes.now) = record {
      within = within;
      first = east;
      across = ends;
      closing = some.0;
      most = omega (arith, some.1, c.if-k-gt262144.false);
    } in
    all_corners_lem (from_chain_parts (c.args.start) (c.args.bytes.now) form) some.1
