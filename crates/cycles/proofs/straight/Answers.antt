use native.Mathlib.Omega.{arith}
use Rattle.cycles.specs.Points.{way_at, square_then}
use Rattle.cycles.specs.Straight.{one_further}
use Rattle.cycles.proofs.straight.Goals as goal

pub next-next-requires : goal.next-next-requires
next-next-requires g c =
    let w = c.loop-next.invariant in
    let e = w.same_digit in
    (square_then w.straight_here.at g.row.MARKED (rw e at c.mark.ensures), rw e (way_at w.straight_here.at), omega (arith, e, w.straight_here.at.low))

pub returns-then-next : goal.returns-then-next
returns-then-next g c = let f = c.next-next.ensures in let e = c.loop-next.invariant.same_digit in
    (one_further c.loop-next.invariant.straight_here (rw e at c.mark.ensures) (rw e at f.0) (rw e at f.1) (rw e at f.2, f.3)).ends c.if-next.true

pub loop-next-smaller : goal.loop-next-smaller
loop-next-smaller g c = let f = c.next-next.ensures in let e = c.loop-next.invariant.same_digit in
    (one_further c.loop-next.invariant.straight_here (rw e at c.mark.ensures) (rw e at f.0) (rw e at f.1) (rw e at f.2, f.3)).nearer

pub loop-next-preserved : goal.loop-next-preserved
loop-next-preserved g c = let f = c.next-next.ensures in let e = c.loop-next.invariant.same_digit in
    record {
      straight_here = (one_further c.loop-next.invariant.straight_here (rw e at c.mark.ensures) (rw e at f.0) (rw e at f.1) (rw e at f.2, f.3)).again c.if-next.false;
      same_digit = c.if-next.false;
    }
