-- The check leaves a map of the image's numbers, from which the blocks are written; either way the list is cleared from end to end.
use mathlib.Core.Path.{ap, ◌∙◌}
use native.Mathlib.Omega.{arith}
use lib.ListN.{length}
use Rattle.sequences.specs.Fill.{length-fill}
use Rattle.sequences.specs.Powers.{pow4_mono}
use Rattle.restoring.specs.Restored.{paintable, all_given_back, none_given_back, cleared}
use Rattle.restoring.proofs.restore.Goals as goal

pub no_image-requires : goal.no_image-requires
no_image-requires c =
    let still-long = c.has_image.ensures.long ∙ c.requires.judgeable.room in
    omega (arith, still-long, c.requires.judgeable.room)

pub shape_of-work-then-not-has_image : goal.shape_of-work-then-not-has_image
shape_of-work-then-not-has_image c = ap length c.no_image.ensures.1 ∙ length-fill c.has_image.new.work 0 (length c.args.work.now) 0 ∙ c.has_image.ensures.long

pub returns-then-not-has_image : goal.returns-then-not-has_image
returns-then-not-has_image c =
    let still-long = c.has_image.ensures.long ∙ c.requires.judgeable.room in
    none_given_back c.requires (c.has_image.ensures.none c.if-not-has_image.true) c.no_image.ensures.0
    (cleared c.has_image.new.work still-long c.requires.judgeable.room c.no_image.ensures.1)

pub write_blocks-count-requires : goal.write_blocks-count-requires
write_blocks-count-requires c = paintable c.requires (c.has_image.ensures.found c.if-not-has_image.false)

pub overflow_cast-count : goal.overflow_cast-count
overflow_cast-count c = omega (arith, c.write_blocks-count.ensures.few, pow4_mono c.requires.judgeable.small)

pub fill-requires : goal.fill-requires
fill-requires c =
    let still-long = c.has_image.ensures.long ∙ c.requires.judgeable.room in
    omega (arith, still-long, c.requires.judgeable.room)

pub shape_of-work : goal.shape_of-work
shape_of-work c = ap length c.fill.ensures ∙ length-fill c.has_image.new.work 0 (length c.args.work.now) 0 ∙ c.has_image.ensures.long

pub returns : goal.returns
returns c =
    let still-long = c.has_image.ensures.long ∙ c.requires.judgeable.room in
    all_given_back c.requires (c.has_image.ensures.found c.if-not-has_image.false) c.write_blocks-count.ensures
    (cleared c.has_image.new.work still-long c.requires.judgeable.room c.fill.ensures)
