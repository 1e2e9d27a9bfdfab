use mathlib.Core.Path.{◌≡◌, ap, refl, sym, ◌∙◌}
use Prim.Native.Nat.{◌≤◌, ◌<◌}
use lib.ListN.{length, drop}
use Rattle.headers.specs.Space.{skip}
use native.Mathlib.Omega.{arith}
use Rattle.headers.proofs.Places.{skip-end, remark-end, skip-yes, skip-no}
use Rattle.headers.proofs.space.skip.Goals as goal

pub loop-at-init : goal.loop-at-init
loop-at-init c = (c.requires, refl)

pub returns-then-not-white : goal.returns-then-not-white
returns-then-not-white c =
    let l = c.loop-at in
    let here : l.at < length c.args.bytes.now = omega arith in
    let e = sym c.is_white-white.ensures ∙ c.if-not-white.true in
    record { says = sym (skip-no _ _ here _ e) ∙ l.invariant.1; inside = l.invariant.0 }

pub loop-at-preserved : goal.loop-at-preserved
loop-at-preserved c =
    let l = c.loop-at in
    let here : l.at < length c.args.bytes.now = omega arith in
    let e = sym c.is_white-white.ensures ∙ c.if-not-white.false in
    (omega arith, rw c.in_remark-remark.ensures (sym (skip-yes _ _ here _ e) ∙ l.invariant.1))

pub returns-then-remark : goal.returns-then-remark
returns-then-remark c =
    let l = c.loop-at in
    let end : length c.args.bytes.now ≤ l.at = omega arith in
    record {
      says = sym (remark-end _ _ end _ c.if-remark.true) ∙ l.invariant.1;
      inside = omega arith;
    }

pub returns : goal.returns
returns c =
    let l = c.loop-at in
    let end : l.at ≡ length c.args.bytes.now = omega arith in
    record {
      says = sym (skip-end c.args.bytes.now (length c.args.bytes.now) (omega arith) _ c.if-remark.false) ∙ ap (λ at. skip l.remark (drop at c.args.bytes.now)) (sym end) ∙ l.invariant.1;
      inside = omega arith;
    }
