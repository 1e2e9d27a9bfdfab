-- `join_alike` meets its contract: pixels of one colour are joined in the part that holds the parents, which comes back; else nothing changes.
use native.Mathlib.Omega.{arith}
use Rattle.pixel_numbers.specs.Parents.{part_inside}
use Rattle.pixel_numbers.specs.Neighbours.{unlike, joinable, alike}
use Rattle.pixel_numbers.proofs.join_alike.Goals as goal

pub overflow_mul-whole : goal.overflow_mul-whole
overflow_mul-whole c =
    let inside = part_inside c.requires.at.given.small c.pixels-whole.ensures c.requires.at.given.room in
    omega (arith, inside.0)

pub offset_bounds-work-whole : goal.offset_bounds-work-whole
offset_bounds-work-whole c =
    let inside = part_inside c.requires.at.given.small c.pixels-whole.ensures c.requires.at.given.room in
    omega (arith, inside.0)

pub slice_bounds-join-end : goal.slice_bounds-join-end
slice_bounds-join-end c =
    let inside = part_inside c.requires.at.given.small c.pixels-whole.ensures c.requires.at.given.room in
    inside.1

pub join-requires : goal.join-requires
join-requires c = joinable c.requires c.pixels-whole.ensures c.code8.ensures

pub returns-then-colour_at-own : goal.returns-then-colour_at-own
returns-then-colour_at-own c =
    alike c.requires c.pixels-whole.ensures c.code8.ensures c.colour_at.ensures
    c.if-colour_at-own.true c.join.ensures

pub returns-else-colour_at-own : goal.returns-else-colour_at-own
returns-else-colour_at-own c = unlike c.requires c.colour_at.ensures c.if-colour_at-own.false
