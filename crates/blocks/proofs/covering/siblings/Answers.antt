use Rattle.blocks.specs.Siblings.{Searched, searched_none, searched_found, searched_more, searched_all}
use Prim.Native.Nat.{◌+◌}
use native.Mathlib.Omega.{arith}
use Rattle.blocks.proofs.covering.siblings.Goals as goal

pub loop-i-init : goal.loop-i-init
loop-i-init c = searched_none c.requires.long c.requires.covered

pub stride-clear-requires : goal.stride-clear-requires
stride-clear-requires c = (c.requires.small, c.requires.long, c.loop-i-test.true)

pub returns-then-clear-eq0 : goal.returns-then-clear-eq0
returns-then-clear-eq0 c = searched_found c.requires.long c.loop-i.invariant c.loop-i-test.true c.stride-clear.ensures c.if-clear-eq0.true

pub overflow_add-i-in-loop-i : goal.overflow_add-i-in-loop-i
overflow_add-i-in-loop-i c =
    let more : let a = c.args in Searched a.n a.codes.now a.levels.now a.colours.now (c.loop-i.i + c.stride-clear.result) =
    searched_more c.requires.long c.loop-i.invariant c.loop-i-test.true c.stride-clear.ensures c.if-clear-eq0.false in
    omega (arith, more.within, c.requires, c.well_formed)

pub loop-i-preserved : goal.loop-i-preserved
loop-i-preserved c =
    let more : let a = c.args in Searched a.n a.codes.now a.levels.now a.colours.now (c.loop-i.i + c.stride-clear.result) =
    searched_more c.requires.long c.loop-i.invariant c.loop-i-test.true c.stride-clear.ensures c.if-clear-eq0.false in
    more

pub returns : goal.returns
returns c = searched_all c.requires.long c.loop-i.invariant c.loop-i-test.false
