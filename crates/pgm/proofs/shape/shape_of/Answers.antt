-- Each test comes in the order of the causes, so at each return the law of that cause applies. A width that passes 11 is at most 256, so
-- the product does not overflow.
use mathlib.Core.Path.{◌≡◌, sym, ap, ◌∙◌}
use mathlib.Core.Bool.{not}
use Prim.Native.Nat.{ℕ, ◌≤◌, ◌*◌}
use native.Mathlib.Nat.{mul-le-mul}
use native.Mathlib.Omega.{arith}
use Rattle.std.specs.Prelude.{Some}
use lib.Dec.{eqb}
use borrow.Author.Tests.{eq-eqb, ne_eqb}
use Rattle.pgm.specs.Exponent.{exponent, width_small}
use Rattle.pgm.specs.Samples.{is_wide}
use Rattle.pgm.specs.Picture.{outside}
use Rattle.pgm.specs.ShapeLaws.{width_not_height, width_no_power, maxval_outside, size_wrong, size_right}
use Rattle.pgm.proofs.shape.shape_of.Goals as goal

pub returns-then-width-height : goal.returns-then-width-height
returns-then-width-height c = width_not_height _ _ c.if-width-height.true

pub returns-in_default : goal.returns-in_default
returns-in_default c =
    let none = sym c.exponent.ensures ∙ c.in_default.is in
    width_no_power _ _ c.if-width-height.false none

pub overflow_mul-count : goal.overflow_mul-count
overflow_mul-count c =
    let equal : let a = c.args in a.width ≡ a.height = c.if-width-height.false in
    let power : exponent c.args.width ≡ Some c.in-Some.n = sym c.exponent.ensures ∙ c.in-Some.is in
    let few : let a = c.args in a.width * a.height ≤ 65536 =
    let a = c.args in
    let w : a.width ≤ 256 = width_small a.width power in
    let h : a.height ≤ 256 = omega (arith, equal) in
    mul-le-mul w h in
    omega (arith, few)

pub bytes_of-requires : goal.bytes_of-requires
bytes_of-requires c =
    let equal : let a = c.args in a.width ≡ a.height = c.if-width-height.false in
    let power : exponent c.args.width ≡ Some c.in-Some.n = sym c.exponent.ensures ∙ c.in-Some.is in
    let few : let a = c.args in a.width * a.height ≤ 65536 =
    let a = c.args in
    let w : a.width ≤ 256 = width_small a.width power in
    let h : a.height ≤ 256 = omega (arith, equal) in
    mul-le-mul w h in
    few

pub returns-then-outside : goal.returns-then-outside
unfolding outside
returns-then-outside c =
    let equal : let a = c.args in a.width ≡ a.height = c.if-width-height.false in
    let power : exponent c.args.width ≡ Some c.in-Some.n = sym c.exponent.ensures ∙ c.in-Some.is in
    maxval_outside _ _ equal power c.if-outside.true

pub returns-then-length-bytes_of : goal.returns-then-length-bytes_of
unfolding outside is_wide
returns-then-length-bytes_of c =
    let equal : let a = c.args in a.width ≡ a.height = c.if-width-height.false in
    let power : exponent c.args.width ≡ Some c.in-Some.n = sym c.exponent.ensures ∙ c.in-Some.is in
    size_wrong _ _ equal power c.if-outside.false (ap (λ (k : ℕ). not (eqb c.args.length k)) (sym c.bytes_of.ensures) ∙ ap not (ne_eqb _ _ c.if-length-bytes_of.true))

pub returns : goal.returns
unfolding outside is_wide
returns c =
    let equal : let a = c.args in a.width ≡ a.height = c.if-width-height.false in
    let power : exponent c.args.width ≡ Some c.in-Some.n = sym c.exponent.ensures ∙ c.in-Some.is in
    size_right _ _ equal power c.if-outside.false (ap (λ (k : ℕ). not (eqb c.args.length k)) (sym c.bytes_of.ensures) ∙ ap not (eq-eqb _ _ c.if-length-bytes_of.false))
