-- A parent is not above its child, so each step goes down to the root.
use Rattle.unions.specs.Halving.{up_le, two_le, finish, again}
use native.Mathlib.Omega.{arith}
use Rattle.unionfind.proofs.find.Goals as goal

pub returns-then-up-at : goal.returns-then-up-at
returns-then-up-at c = finish c.loop-at.invariant c.if-up-at.true

pub bounds-parents-up : goal.bounds-parents-up
bounds-parents-up c = omega (arith, up_le c.loop-at.invariant)

pub loop-at-smaller : goal.loop-at-smaller
loop-at-smaller c = omega (arith, c.if-up-at.false, up_le c.loop-at.invariant, two_le c.loop-at.invariant)

pub loop-at-preserved : goal.loop-at-preserved
loop-at-preserved c = again c.loop-at.invariant c.if-up-at.false
