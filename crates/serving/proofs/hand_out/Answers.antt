-- Those handed out stand in front of zeros.
use Rattle.std.proofs.Common.{◌≡◌, ap₂, take, drop, ◌++◌, length, replicate, arith}
use Rattle.std.proofs.lemmas.List.{take_min, length-take}
use Rattle.sequences.specs.Over.{over}
use Rattle.serving.specs.States.{in_sixteen}
use Rattle.serving.proofs.hand_out.Goals as goal

pub returns : goal.returns
unfolding in_sixteen over
returns c =
    let due = c.args.due.now in
    let all : c.copy_from_slice.new.self ≡ take 16 due = grind (arith, take_min) in
    let long : c.min-given.result ≡ length (take 16 due) = omega (arith, length-take 16 due) in
    ap₂ (λ a n. a ++ drop n (replicate 16 0)) all long
