-- The digit tells which coordinate is compared.
use mathlib.Core.Path.{◌≡◌, sym, ap}
use native.Mathlib.Omega.{arith}
use Rattle.lattice.specs.Directions.{x_of, y_of}
use Rattle.chains.specs.ChainForm.{free}
use Rattle.chains.proofs.reading.is_free.Goals as goal

pub returns-in-0 : goal.returns-in-0
unfolding free x_of y_of
returns-in-0 c = sym (ap (λ d. free d c.args.p) c.in-0.is)

pub returns-in-1 : goal.returns-in-1
unfolding free x_of y_of
returns-in-1 c = sym (ap (λ d. free d c.args.p) c.in-1.is)

pub returns-in-2 : goal.returns-in-2
unfolding free x_of y_of
returns-in-2 c = sym (ap (λ d. free d c.args.p) c.in-2.is)

pub returns-in_default : goal.returns-in_default
unfolding free x_of y_of
returns-in_default c =
    let e : c.args.d ≡ 3 = omega arith in
    sym (ap (λ d. free d c.args.p) e)
