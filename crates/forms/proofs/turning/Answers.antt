use borrow.Author.Tests.{ne_eqb}
use Rattle.lattice.specs.Parity.{is_even}
use Rattle.forms.specs.Scan.{steps_from, steps_begin, steps_on, steps_off, steps_closing, steps_open}
use mathlib.Core.Path.{◌≡◌, sym, ap, ◌∙◌}
use Prim.Native.Nat.{◌-◌}
use native.Mathlib.Omega.{arith}
use lib.ListN.{length}
use borrow.Author.Rules.{rules}
use Rattle.forms.proofs.turning.Goals as goal

pub loop-i-init : goal.loop-i-init
loop-i-init c = (search rules, steps_begin c.args.corners.now c.requires)

pub returns-then-not-goes_along : goal.returns-then-not-goes_along
unfolding is_even
returns-then-not-goes_along c =
    let cs = c.args.corners.now in
    let off = sym c.goes_along.ensures ∙ c.if-not-goes_along.true in
    sym (sym c.loop-i.invariant.1 ∙ steps_off cs c.loop-i.i (omega arith) off)

pub loop-i-smaller : goal.loop-i-smaller
loop-i-smaller c = omega arith

pub loop-i-preserved : goal.loop-i-preserved
unfolding is_even
loop-i-preserved c =
    let cs = c.args.corners.now in
    let on = sym c.goes_along.ensures ∙ c.if-not-goes_along.false in
    (omega arith, steps_on cs c.loop-i.i (omega arith) on ∙ c.loop-i.invariant.1)

pub returns-then-last-eq1 : goal.returns-then-last-eq1
returns-then-last-eq1 c =
    let cs = c.args.corners.now in
    let e : c.loop-i.i ≡ length cs - 1 = omega arith in
    c.goes_along-then-last-eq1.ensures ∙ sym (steps_closing cs (length cs - 1) (omega arith) (omega arith)) ∙ ap (steps_from cs) (sym e) ∙ c.loop-i.invariant.1

pub returns-else-last-eq1 : goal.returns-else-last-eq1
returns-else-last-eq1 c =
    let cs = c.args.corners.now in
    let e : c.loop-i.i ≡ length cs - 1 = omega arith in
    ne_eqb _ _ c.if-last-eq1.false ∙ sym (steps_open cs (length cs - 1) (omega arith) (omega arith)) ∙ ap (steps_from cs) (sym e) ∙ c.loop-i.invariant.1
