-- `parent_marked` meets its contract: no parent bears no mark, and the mark of a parent is in the front of the work list.
use Rattle.std.proofs.Common.{sym}
use native.Mathlib.Omega.{arith}
use Rattle.order_check.specs.Along.{marked_none, marked_some}
use Rattle.order_check.proofs.parent_marked.Goals as goal

pub returns-in_default : goal.returns-in_default
returns-in_default c = marked_none _ _ _ (omega (arith, c.in_default.ensures))

pub returns : goal.returns
returns c = sym (marked_some _ _ _ c.in-Some.up (omega (arith, c.in-Some.ensures)))
