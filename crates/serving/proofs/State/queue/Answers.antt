-- As many as the state says, eight at most.
use Rattle.std.proofs.Common.{ap, take, arith}
use Rattle.serving.specs.States.{queue_of}
use Rattle.serving.proofs.State.queue.Goals as goal

pub returns : goal.returns
unfolding queue_of
returns c = ap (λ j. take j c.args.self.now.outlines) (omega arith)
