-- The tests stand in the order of the numbers: 1, 8, 18. Past 8 the part of the work list that is needed is lent, and comes back as zeros.
use mathlib.Core.Path.{sym, ap, ◌∙◌}
use mathlib.Core.Bool.{not}
use Prim.Native.Nat.{ℕ, ◌*◌}
use native.Mathlib.Omega.{arith}
use lib.ListN.{length}
use lib.Seq.{length-take-le}
use Rattle.sequences.specs.Says.{denied}
use Rattle.sequences.specs.Fill.{length-fill}
use Rattle.sequences.specs.Powers.{pow4_mono}
use Rattle.location.specs.Levels.{pixels_are_power}
use Rattle.quadtree.specs.BlockLists.{list_of}
use Rattle.restoring.specs.Promise.{side_too_large, one_too_short}
use Rattle.restoring.specs.Lengths.{needs_met}
use Rattle.given_outlines.specs.Counts.{owners_as_ends}
use Rattle.restoring.specs.Restored.{counts_refused, restored, part_back}
use Rattle.restoring.proofs.blocks_from_outlines.Goals as goal

pub returns-then-n-gt8 : goal.returns-then-n-gt8
returns-then-n-gt8 c = side_too_large _ _ _ _ c.if-n-gt8.true

pub returns-then-one_short : goal.returns-then-one_short
returns-then-one_short c =
    one_too_short _ _ _ _ c.if-n-gt8.false (sym c.one_short.ensures ∙ c.if-one_short.true)

pub overflow_mul-need : goal.overflow_mul-need
overflow_mul-need c =
    let need = ap (λ (k : ℕ). 8 * k) (c.pixels-need.ensures ∙ pixels_are_power c.args.n (omega (arith, c.if-n-gt8.false))) in
    omega (arith, need, pow4_mono c.if-n-gt8.false)

pub no_image-requires : goal.no_image-requires
no_image-requires c =
    let long = sym c.one_short.ensures ∙ c.if-one_short.false in
    let enough = needs_met c.args.n (list_of c.args.codes.now c.args.levels.now c.args.colours.now) c.args.work.now long in
    let need = ap (λ (k : ℕ). 8 * k) (c.pixels-need.ensures ∙ pixels_are_power c.args.n (omega (arith, c.if-n-gt8.false))) in
    omega (arith, need, enough.for_work)

pub shape_of-work-then-not-counts_fit : goal.shape_of-work-then-not-counts_fit
shape_of-work-then-not-counts_fit c = ap length c.no_image.ensures.1 ∙ length-fill c.args.work.now 0 (8 * c.pixels-need.result) 0

pub returns-then-not-counts_fit : goal.returns-then-not-counts_fit
returns-then-not-counts_fit c =
    let long = sym c.one_short.ensures ∙ c.if-one_short.false in
    let need = ap (λ (k : ℕ). 8 * k) (c.pixels-need.ensures ∙ pixels_are_power c.args.n (omega (arith, c.if-n-gt8.false))) in
    counts_refused _ _ _ c.args.work.now c.if-n-gt8.false long (denied c.counts_fit.ensures (ap not c.if-not-counts_fit.true))
    need c.no_image.ensures.0 c.no_image.ensures.1

pub slice_bounds-restore-end : goal.slice_bounds-restore-end
slice_bounds-restore-end c =
    let fits = c.counts_fit.ensures.0 c.if-not-counts_fit.false in
    let a = c.args in
    omega (arith, length-take-le a.cycles a.owners.now fits.for_owners)

pub slice_bounds-restore-end-2 : goal.slice_bounds-restore-end-2
slice_bounds-restore-end-2 c =
    let fits = c.counts_fit.ensures.0 c.if-not-counts_fit.false in
    let a = c.args in
    omega (arith, length-take-le a.cycles a.ends.now fits.for_ends)

pub slice_bounds-restore-end-3 : goal.slice_bounds-restore-end-3
slice_bounds-restore-end-3 c =
    let fits = c.counts_fit.ensures.0 c.if-not-counts_fit.false in
    let a = c.args in
    omega (arith, length-take-le a.corner_count a.corners.now fits.for_corners)

pub slice_bounds-restore-end-4 : goal.slice_bounds-restore-end-4
slice_bounds-restore-end-4 c =
    let fits = c.counts_fit.ensures.0 c.if-not-counts_fit.false in
    let a = c.args in
    omega (arith, length-take-le a.regions a.region_colours.now fits.for_colours)

pub slice_bounds-restore-end-5 : goal.slice_bounds-restore-end-5
slice_bounds-restore-end-5 c =
    let long = sym c.one_short.ensures ∙ c.if-one_short.false in
    let enough = needs_met c.args.n (list_of c.args.codes.now c.args.levels.now c.args.colours.now) c.args.work.now long in
    let need = ap (λ (k : ℕ). 8 * k) (c.pixels-need.ensures ∙ pixels_are_power c.args.n (omega (arith, c.if-n-gt8.false))) in
    omega (arith, need, enough.for_work)

pub slice_bounds-restore-end-6 : goal.slice_bounds-restore-end-6
slice_bounds-restore-end-6 c =
    let long = sym c.one_short.ensures ∙ c.if-one_short.false in
    let enough = needs_met c.args.n (list_of c.args.codes.now c.args.levels.now c.args.colours.now) c.args.work.now long in
    let need = ap (λ (k : ℕ). 8 * k) (c.pixels-need.ensures ∙ pixels_are_power c.args.n (omega (arith, c.if-n-gt8.false))) in
    let part-long = length-take-le (8 * c.pixels-need.result) c.args.work.now (omega (arith, need, enough.for_work)) in
    omega (arith, part-long)

pub restore-requires : goal.restore-requires
restore-requires c =
    let long = sym c.one_short.ensures ∙ c.if-one_short.false in
    let enough = needs_met c.args.n (list_of c.args.codes.now c.args.levels.now c.args.colours.now) c.args.work.now long in
    let need = ap (λ (k : ℕ). 8 * k) (c.pixels-need.ensures ∙ pixels_are_power c.args.n (omega (arith, c.if-n-gt8.false))) in
    let fits = c.counts_fit.ensures.0 c.if-not-counts_fit.false in
    let part-long = length-take-le (8 * c.pixels-need.result) c.args.work.now (omega (arith, need, enough.for_work)) in
    record {
      judgeable = record { small = c.if-n-gt8.false; an_owner_each = owners_as_ends fits; room = part-long ∙ need };
      room = enough.room;
    }

pub shape_of-work : goal.shape_of-work
shape_of-work c =
    let long = sym c.one_short.ensures ∙ c.if-one_short.false in
    let enough = needs_met c.args.n (list_of c.args.codes.now c.args.levels.now c.args.colours.now) c.args.work.now long in
    let need = ap (λ (k : ℕ). 8 * k) (c.pixels-need.ensures ∙ pixels_are_power c.args.n (omega (arith, c.if-n-gt8.false))) in
    part_back c.args.work.now c.restore.ensures.zeros need enough.for_work

pub returns : goal.returns
returns c =
    let long = sym c.one_short.ensures ∙ c.if-one_short.false in
    let need = ap (λ (k : ℕ). 8 * k) (c.pixels-need.ensures ∙ pixels_are_power c.args.n (omega (arith, c.if-n-gt8.false))) in
    let fits = c.counts_fit.ensures.0 c.if-not-counts_fit.false in
    restored _ _ _ c.args.work.now c.if-n-gt8.false long fits need c.restore.ensures
