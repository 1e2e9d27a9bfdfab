-- The queue stands in front of unused places, and the last behind it.
use Rattle.std.proofs.Common.{◌∙◌, ap, [], ◌∷◌, ◌++◌, drop, replicate, length, set, length-append, append-nil, refl, arith}
use Rattle.sequences.specs.Over.{over, over_push}
use Rattle.serving.specs.States.{unused, in_eight, holds_queue}
use Rattle.serving.proofs.State.of.Goals as goal
use Rattle.serving.proofs.State.of.Goals.{in-Some, in_default}

pub returns : goal.returns
unfolding in_eight over
returns c =
    let q = c.args.queue.now in
    elim c.match-last.branch [
      | in-Some w ↦
          let o = w.in-Some.outline in
          rw w.in-Some.is
          (holds_queue (q ++ o ∷ [])
          (w.outlines-is ∙ ap (λ l. set (l ++ drop (length q) (replicate 8 unused)) (length q) o) c.copy_from_slice.ensures.after ∙ over_push q (replicate 8 unused) o (length q) refl c.requires)
          (omega (arith, w.length-is, length-append q (o ∷ []))))
      | in_default w ↦
          rw (w.in_default.is, append-nil)
          (holds_queue q (w.outlines-is ∙ ap (λ l. l ++ drop (length q) (replicate 8 unused)) c.copy_from_slice.ensures.after) w.length-is)
    ]
