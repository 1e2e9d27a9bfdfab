-- A cycle from its start has a first corner in the image, a region that the map can hold, an edge there with which a walk may begin, and
-- matches; and what passes these tests is one.
use mathlib.Core.Path.{sym, ◌∙◌}
use native.Mathlib.Omega.{arith}
use Rattle.std.specs.Prelude.{not}
use Rattle.std.proofs.Common.{eqb-true}
use Rattle.std.proofs.Math.Path.{ap}
use Rattle.cycle_checks.specs.Checked.{no_corner, south_of_image, no_region, square-here, no_walk, walked}
use Rattle.cycle_checks.proofs.cycle_agrees.Goals as goal

pub returns-then-is_empty : goal.returns-then-is_empty
returns-then-is_empty c =
    no_corner c.requires c.args.owner c.args.points.now (eqb-true _ _ (sym c.is_empty.ensures ∙ c.if-is_empty.true))

pub returns-then-p : goal.returns-then-p
returns-then-p c = south_of_image c.requires c.args.owner c.args.points.now c.if-p.true

pub returns-then-owner-ge-MARK_BIT : goal.returns-then-owner-ge-MARK_BIT
returns-then-owner-ge-MARK_BIT c = no_region c.requires c.args.owner c.args.points.now c.if-owner-ge-MARK_BIT.true

pub overflow_cast-side : goal.overflow_cast-side
overflow_cast-side c = omega (arith, (square-here c.requires c.args.owner c.args.points.now c.side-side.ensures).small)

pub begins-requires : goal.begins-requires
begins-requires c = (square-here c.requires c.args.owner c.args.points.now c.side-side.ensures, omega arith, omega arith, omega (arith, c.if-p.false))

pub returns-then-begins : goal.returns-then-begins
returns-then-begins c =
    walked c.requires c.args.owner c.args.points.now c.side-side.ensures (c.begins.ensures.0 c.if-begins.true) c.walk.ensures

pub returns-else-begins : goal.returns-else-begins
returns-else-begins c =
    rw c.if-begins.false (no_walk c.requires c.args.owner c.args.points.now c.side-side.ensures c.begins.ensures (ap not c.if-begins.false))
