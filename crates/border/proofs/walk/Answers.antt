-- Each block lies where its code says, and there are at most 65536.
use Rattle.border.specs.Walk.{few_blocks, walk_begins, lies_at, spans, storable, again}
use native.Mathlib.Omega.{arith}
use Rattle.border.proofs.walk.Goals as goal

pub loop-k-init : goal.loop-k-init
loop-k-init c = walk_begins c.requires

pub overflow_cast-k : goal.overflow_cast-k
overflow_cast-k c = omega (arith, c.loop-k-test.true, few_blocks c.requires.passes)

pub join_spans-requires : goal.join_spans-requires
join_spans-requires c =
    let here = lies_at c.requires.passes c.loop-k.invariant c.loop-k-test.true c.side-w.ensures c.column-x.ensures c.row-y.ensures c.side-s.ensures in
    spans c.requires.passes c.loop-k.invariant c.loop-k-test.true here

pub overflow_cast-k-in-loop-k : goal.overflow_cast-k-in-loop-k
overflow_cast-k-in-loop-k c = omega (arith, c.loop-k-test.true, few_blocks c.requires.passes)

pub store-requires : goal.store-requires
store-requires c =
    let here = lies_at c.requires.passes c.loop-k.invariant c.loop-k-test.true c.side-w.ensures c.column-x.ensures c.row-y.ensures c.side-s.ensures in
    storable c.requires.passes c.loop-k.invariant c.loop-k-test.true here

pub loop-k-preserved : goal.loop-k-preserved
loop-k-preserved c =
    let here = lies_at c.requires.passes c.loop-k.invariant c.loop-k-test.true c.side-w.ensures c.column-x.ensures c.row-y.ensures c.side-s.ensures in
    again c.requires.passes c.loop-k.invariant c.loop-k-test.true here c.join_spans.ensures c.store.ensures
