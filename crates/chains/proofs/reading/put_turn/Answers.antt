-- The point is stored exactly where the digit changes.
use mathlib.Core.Path.{sym}
use Prim.Native.Nat.{◌<◌}
use native.Mathlib.Omega.{arith}
use lib.ListN.{length}
use borrow.Author.Tests.{eq-eqb, ne_eqb}
use Rattle.chains.proofs.reading.put_turn.Goals as goal

pub returns-then-e-d : goal.returns-then-e-d
returns-then-e-d c = let same = eq-eqb _ _ (sym c.if-e-d.true) in record { next_is = simp same; list = simp same }

pub offset_bounds-corners-at : goal.offset_bounds-corners-at
offset_bounds-corners-at c =
    let room : c.args.at < length c.args.corners.now = c.requires (λ same. c.if-e-d.false (omega (arith, same))) in
    omega (arith, room)

pub bounds-corners-at : goal.bounds-corners-at
bounds-corners-at c =
    let room : c.args.at < length c.args.corners.now = c.requires (λ same. c.if-e-d.false (omega (arith, same))) in
    omega (arith, room)

pub overflow_add-result : goal.overflow_add-result
overflow_add-result c =
    let room : c.args.at < length c.args.corners.now = c.requires (λ same. c.if-e-d.false (omega (arith, same))) in
    omega (arith, room)

pub returns : goal.returns
returns c = let other = ne_eqb _ _ (λ same. c.if-e-d.false (sym same)) in record { next_is = simp other; list = simp other }
