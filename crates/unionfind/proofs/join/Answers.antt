-- Both roots are found, and the larger is hung below the smaller: every root is then that of one pair more.
use native.Mathlib.Omega.{arith}
use Rattle.unions.specs.Joining.{under_a, under_b, one_root, a_inside, b_inside}
use Rattle.unionfind.proofs.join.Goals as goal

pub bounds-parents-rb : goal.bounds-parents-rb
bounds-parents-rb c =
    let f = c.find-ra.ensures in
    omega (arith, b_inside f c.find-rb.ensures c.requires.1, f.long, c.find-rb.ensures.long)

pub returns-then-ra-rb : goal.returns-then-ra-rb
returns-then-ra-rb c =
    let f = c.find-ra.ensures in
    under_a f c.find-rb.ensures c.if-ra-rb.true (b_inside f c.find-rb.ensures c.requires.1)

pub bounds-parents-ra : goal.bounds-parents-ra
bounds-parents-ra c =
    let f = c.find-ra.ensures in
    omega (arith, a_inside f c.find-rb.ensures c.requires.0, f.long, c.find-rb.ensures.long)

pub returns-then-rb-ra : goal.returns-then-rb-ra
returns-then-rb-ra c =
    let f = c.find-ra.ensures in
    under_b f c.find-rb.ensures c.if-rb-ra.true (a_inside f c.find-rb.ensures c.requires.0)

pub returns-else-rb-ra : goal.returns-else-rb-ra
returns-else-rb-ra c = one_root c.find-ra.ensures c.find-rb.ensures (omega arith)
