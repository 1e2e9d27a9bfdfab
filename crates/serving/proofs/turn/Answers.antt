-- The front is the first place where some are open. Its stretch has fewer than 2^32 corners, so the number handed out fits.
use Rattle.std.proofs.Common.{◌≡◌, ◌∙◌, sym, ap, min, length, take, drop, length-take, length-drop, arith}
use Rattle.stretches.specs.Stretch.{stretch_of}
use Rattle.serving.specs.declared.OpenOutline.{OpenOutline}
use Rattle.serving.specs.Queue.{lists, stretch_in, due_of, corners_handed_out, after_serving}
use Rattle.serving.specs.Bounds.{stretch_short}
use Rattle.serving.specs.States.{queue_of, state_of, in_sixteen}
use Rattle.serving.specs.Promise.{none_open, none_is_open, front_is_served}
use Rattle.std.proofs.lemmas.List.{nil_from_length}
use Rattle.serving.proofs.turn.Goals as goal

pub returns-in_err-front : goal.returns-in_err-front
unfolding none_open in_sixteen
returns-in_err-front c =
    let a = c.args in
    rw c.from_residual.ensures (none_is_open a.state (lists a.corners.now a.ends.now a.count) (sym c.queue.ensures ∙ nil_from_length c.queue.result.now c.in_err-front.ensures.cases))

pub after_serving-requires : goal.after_serving-requires
unfolding queue_of
after_serving-requires c =
    let a = c.args in
    let o = c.in_ok-front.front.now in
    let corners = ap length (c.still_due-due.ensures ∙ ap (drop o.handed) c.cycle-stretch.ensures.corners_are) in
    let short = stretch_short a.corners.now a.ends.now a.count o.cycle (omega (arith, c.type_inv.ends o.cycle)) in (
      omega (arith, c.in_ok-front.ensures.cases.1, ap length c.queue.ensures, length-take (min 8 a.state.length) a.state.outlines),
      λ more. omega (arith, corners, length-drop o.handed (stretch_of a.corners.now a.ends.now a.count o.cycle), short),
    )

pub returns : goal.returns
unfolding due_of corners_handed_out stretch_in
returns c =
    let a = c.args in
    let o : OpenOutline = c.in_ok-front.front.now in
    let corners = c.still_due-due.ensures ∙ ap (drop o.handed) c.cycle-stretch.ensures.corners_are in
    let due : length c.still_due-due.result.now ≡ due_of (lists a.corners.now a.ends.now a.count) o =
    ap length corners ∙ length-drop o.handed (stretch_of a.corners.now a.ends.now a.count o.cycle) in
    front_is_served a.state (lists a.corners.now a.ends.now a.count) (sym c.queue.ensures ∙ c.in_ok-front.ensures.cases.0)
    (omega (arith, due))
    (c.hand_out.ensures ∙ ap (λ d. in_sixteen (take 16 d)) corners)
    (c.after_serving.ensures ∙ ap (λ n. state_of (after_serving n o c.in_ok-front.others.now)) due)
