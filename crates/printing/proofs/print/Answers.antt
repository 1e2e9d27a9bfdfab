-- Each test leads to the answer that the definition has for it; past the tests the picture has at most 4,096 pixels.
use Rattle.std.proofs.Common.{arith, refl, ◌≤◌, length, length-take}
use Rattle.answers.specs.Causes.{number-ne0}
use Rattle.printing.specs.Deciding.{long_printed, two_digits, refused_printed, few, samples-inside, eight_printed, drawing, count_fits, lines-printed}
use Rattle.printing.proofs.print.Goals as goal

pub returns-then-bytes-gt-INPUT_LIMIT : goal.returns-then-bytes-gt-INPUT_LIMIT
returns-then-bytes-gt-INPUT_LIMIT c = long_printed (omega (arith, c.if-bytes-gt-INPUT_LIMIT.true)) c.refuse.ensures

pub refuse-requires-in-Err : goal.refuse-requires-in-Err
refuse-requires-in-Err c = two_digits (omega (arith, c.if-bytes-gt-INPUT_LIMIT.false)) (omega arith) c.in-Err.ensures (number-ne0 c.in-Err.cause)

pub returns-in-Err : goal.returns-in-Err
returns-in-Err c = refused_printed (omega (arith, c.if-bytes-gt-INPUT_LIMIT.false)) (omega arith) c.in-Err.ensures (number-ne0 c.in-Err.cause) c.refuse-in-Err.ensures

pub overflow_mul-pixels : goal.overflow_mul-pixels
overflow_mul-pixels c = omega (arith, few (omega (arith, c.if-bytes-gt-INPUT_LIMIT.false)) (omega arith) c.in-Ok.ensures refl c.pixels.ensures)

pub returns-then-text-pixels : goal.returns-then-text-pixels
returns-then-text-pixels c = eight_printed (omega (arith, c.if-bytes-gt-INPUT_LIMIT.false)) (omega arith) c.in-Ok.ensures refl c.pixels.ensures (omega (arith, c.if-text-pixels.true))

pub slice_bounds-samples-end : goal.slice_bounds-samples-end
slice_bounds-samples-end c = samples-inside (omega (arith, c.if-bytes-gt-INPUT_LIMIT.false)) (omega arith) c.in-Ok.ensures refl

pub slice_bounds-draw-end : goal.slice_bounds-draw-end
slice_bounds-draw-end c =
    let inside : c.in-Ok.stored.count ≤ length c.read.new.raster = samples-inside (omega (arith, c.if-bytes-gt-INPUT_LIMIT.false)) (omega arith) c.in-Ok.ensures refl in
    omega (arith, length-take c.in-Ok.stored.count c.read.new.raster, inside)

pub draw-count-requires : goal.draw-count-requires
draw-count-requires c = drawing (omega (arith, c.if-bytes-gt-INPUT_LIMIT.false)) (omega arith) c.in-Ok.ensures refl c.pixels.ensures (omega (arith, c.if-text-pixels.false))

pub overflow_cast-result : goal.overflow_cast-result
overflow_cast-result c = omega (arith, count_fits (omega (arith, c.if-bytes-gt-INPUT_LIMIT.false)) (omega arith) c.in-Ok.ensures refl c.pixels.ensures _ c.if-text-pixels.false c.draw-count.ensures)

pub returns : goal.returns
returns c = lines-printed (omega (arith, c.if-bytes-gt-INPUT_LIMIT.false)) (omega arith) c.in-Ok.ensures refl c.pixels.ensures _ c.if-text-pixels.false c.draw-count.ensures
