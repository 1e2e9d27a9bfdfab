-- Each test is the definition's, in its order.
use Rattle.std.proofs.Common.{◌∙◌, ap, length, arith}
use Rattle.serving.specs.Queue.{joined, not-below, already_open, eight_open, may_open}
use Rattle.serving.specs.States.{queue_of, state_of}
use Rattle.serving.specs.Promise.{refuses, accepts}
use Rattle.serving.proofs.open_cycle.Goals as goal

pub returns-then-count-cycle : goal.returns-then-count-cycle
returns-then-count-cycle c = let a = c.args in refuses a.state a.cycle a.count 21 (not-below (queue_of a.state) a.cycle a.count c.if-count-cycle.true)

pub returns-then-is_open : goal.returns-then-is_open
returns-then-is_open c =
    let a = c.args in
    refuses a.state a.cycle a.count 22 (already_open (queue_of a.state) a.cycle a.count c.if-count-cycle.false (cc))

pub returns-then-queue-ge8 : goal.returns-then-queue-ge8
returns-then-queue-ge8 c =
    let a = c.args in
    refuses a.state a.cycle a.count 23
    (eight_open (queue_of a.state) a.cycle a.count c.if-count-cycle.false (cc) (omega (arith, ap length c.queue-queue.ensures)))

pub returns : goal.returns
unfolding joined
returns c =
    let a = c.args in
    accepts a.state a.cycle a.count _
    (may_open (queue_of a.state) a.cycle a.count c.if-count-cycle.false (cc) (omega (arith, ap length c.queue-queue.ensures)))
    (c.of.ensures ∙ ap (λ q. state_of (joined q a.cycle)) c.queue-queue.ensures)
