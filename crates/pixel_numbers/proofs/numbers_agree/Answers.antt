-- `numbers_agree` meets its contract: each pixel its own parent, all joined with their neighbours of one colour, the roots numbered and
-- counted; then the count and the numbers are compared.
use native.Mathlib.Omega.{arith}
use Rattle.pixel_numbers.specs.Parents.{part_inside}
use Rattle.pixel_numbers.specs.Answer.{few_lent, all_next, roots_lent, count_differs, numbered, count_agrees}
use Rattle.pixel_numbers.proofs.numbers_agree.Goals as goal

pub overflow_mul-whole : goal.overflow_mul-whole
overflow_mul-whole c =
    let inside = part_inside c.requires.small c.pixels-whole.ensures c.requires.room in
    omega (arith, inside.0)

pub offset_bounds-work-whole : goal.offset_bounds-work-whole
offset_bounds-work-whole c =
    let inside = part_inside c.requires.small c.pixels-whole.ensures c.requires.room in
    omega (arith, inside.0)

pub slice_bounds-own_parents-end : goal.slice_bounds-own_parents-end
slice_bounds-own_parents-end c =
    let inside = part_inside c.requires.small c.pixels-whole.ensures c.requires.room in
    inside.1

pub own_parents-requires : goal.own_parents-requires
own_parents-requires c = few_lent c.requires c.pixels-whole.ensures

pub join_pixels-requires : goal.join_pixels-requires
join_pixels-requires c = all_next c.requires c.pixels-whole.ensures c.own_parents.ensures

pub number_all-count-requires : goal.number_all-count-requires
number_all-count-requires c = roots_lent c.requires c.pixels-whole.ensures c.own_parents.ensures c.join_pixels.ensures

pub returns-then-count-colours : goal.returns-then-count-colours
returns-then-count-colours c =
    count_differs c.requires c.pixels-whole.ensures c.own_parents.ensures c.join_pixels.ensures c.number_all-count.ensures.value
    c.number_all-count.ensures.labels_after c.if-count-colours.true

pub same_numbers-requires : goal.same_numbers-requires
same_numbers-requires c = numbered c.requires c.pixels-whole.ensures c.own_parents.ensures c.join_pixels.ensures c.number_all-count.ensures.value c.number_all-count.ensures.labels_after

pub returns : goal.returns
returns c =
    count_agrees c.requires c.pixels-whole.ensures c.own_parents.ensures c.join_pixels.ensures c.number_all-count.ensures.value
    c.number_all-count.ensures.labels_after c.if-count-colours.false c.same_numbers.ensures
