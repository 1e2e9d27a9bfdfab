-- The digit tells the move; a free unit does not leave the numbers.
use mathlib.Core.Path.{◌≡◌, sym, ap}
use native.Mathlib.Omega.{arith}
use Rattle.lattice.specs.Directions.{move, x_of, y_of}
use Rattle.lattice.specs.CycleForm.{inside_says}
use Rattle.chains.specs.Bytes.{free_says}
use Rattle.chains.proofs.reading.moved.Goals as goal

pub overflow_add-result : goal.overflow_add-result
unfolding x_of y_of
overflow_add-result c = omega (arith, inside_says c.args.p c.requires.1)

pub overflow_sub-result : goal.overflow_sub-result
unfolding x_of y_of
overflow_sub-result c = omega (arith, (free_says c.args.d c.args.p c.requires.0 c.requires.2).north c.in-1.is)

pub overflow_sub-result-in-2 : goal.overflow_sub-result-in-2
unfolding x_of y_of
overflow_sub-result-in-2 c = omega (arith, (free_says c.args.d c.args.p c.requires.0 c.requires.2).west c.in-2.is)

pub overflow_add-result-in_default : goal.overflow_add-result-in_default
unfolding x_of y_of
overflow_add-result-in_default c = omega (arith, inside_says c.args.p c.requires.1)

pub returns-in-0 : goal.returns-in-0
unfolding move
returns-in-0 c = sym (ap (λ d. move d c.args.p) c.in-0.is)

pub returns-in-1 : goal.returns-in-1
unfolding move
returns-in-1 c = sym (ap (λ d. move d c.args.p) c.in-1.is)

pub returns-in-2 : goal.returns-in-2
unfolding move
returns-in-2 c = sym (ap (λ d. move d c.args.p) c.in-2.is)

pub returns-in_default : goal.returns-in_default
unfolding move
returns-in_default c =
    let e : c.args.d ≡ 3 = omega arith in
    sym (ap (λ d. move d c.args.p) e)
