-- A level that does not fit is not the one sought, and it is above 0; one that fits is the largest.
use native.Mathlib.Omega.{arith}
use Rattle.appending.specs.Levels.{run_small, level_of_few, level_first, square_small, level_found, level_positive, level_next}
use Rattle.appending.proofs.level_in.Goals as goal

pub returns-then-to-from-lt4 : goal.returns-then-to-from-lt4
returns-then-to-from-lt4 c = level_of_few c.requires c.if-to-from-lt4.true

pub overflow_cast-from : goal.overflow_cast-from
overflow_cast-from c = omega (arith, c.requires.some, run_small c.requires)

pub loop-level-init : goal.loop-level-init
loop-level-init c = level_first c.requires c.top_level-level.ensures

pub overflow_add-from : goal.overflow_add-from
overflow_add-from c =
    let pre = c.requires in
    omega (arith, pre.some, run_small pre, square_small pre c.loop-level.invariant c.pixels.ensures)

pub overflow_sub-level : goal.overflow_sub-level
overflow_sub-level c = level_positive c.requires c.loop-level.invariant c.pixels.ensures c.loop-level-test.true

pub loop-level-smaller : goal.loop-level-smaller
loop-level-smaller c = omega (arith, overflow_sub-level c)

pub loop-level-preserved : goal.loop-level-preserved
loop-level-preserved c = level_next c.requires c.loop-level.invariant c.pixels.ensures c.loop-level-test.true

pub returns : goal.returns
returns c = level_found c.requires c.loop-level.invariant c.pixels.ensures c.loop-level-test.false
