-- One place more becomes its own parent.
use Rattle.unions.specs.OwnParents.{begin, again, finish}
use native.Mathlib.Omega.{arith}
use Rattle.unionfind.proofs.own_parents.Goals as goal

pub loop-i-init : goal.loop-i-init
loop-i-init c = begin _

pub loop-i-preserved : goal.loop-i-preserved
loop-i-preserved c = again c.loop-i.invariant (omega arith)

pub returns : goal.returns
returns c = finish c.loop-i.invariant (omega arith)
