-- `list_pixel` meets its contract: where the north side is an edge without a mark the cycle is written and counted, else all stays as it was.
use Rattle.std.proofs.Common.{refl, arith}
use Rattle.sequences.specs.SignedBits.{read_back}
use Rattle.starts.specs.Pixels.{pixel_of, no_cycle_starts, one_more, starts-here, cycle_listed}
use Rattle.starts.proofs.list_pixel.Goals as goal

pub unmarked-requires : goal.unmarked-requires
unmarked-requires c = pixel_of c.requires

pub returns-in_default : goal.returns-in_default
returns-in_default c = no_cycle_starts c.requires c.in_default.ensures refl

pub write_cycle-walked-requires : goal.write_cycle-walked-requires
write_cycle-walked-requires c = starts-here c.requires c.in-Some.ensures (λ e. omega arith)

pub offset_bounds-corners-at : goal.offset_bounds-corners-at
offset_bounds-corners-at c = omega (arith, one_more c.requires c.in-Some.ensures)

pub slice_bounds-write_cycle-count : goal.slice_bounds-write_cycle-count
slice_bounds-write_cycle-count c = omega (arith, one_more c.requires c.in-Some.ensures)

pub slice_bounds-write_cycle-start : goal.slice_bounds-write_cycle-start
slice_bounds-write_cycle-start c = omega (arith, one_more c.requires c.in-Some.ensures)

pub overflow_add-next : goal.overflow_add-next
overflow_add-next c = omega (arith, one_more c.requires c.in-Some.ensures)

pub overflow_add-end : goal.overflow_add-end
overflow_add-end c = omega (arith, one_more c.requires c.in-Some.ensures, c.write_cycle-walked.ensures.count)

pub offset_bounds-owners-cycles : goal.offset_bounds-owners-cycles
offset_bounds-owners-cycles c = omega (arith, one_more c.requires c.in-Some.ensures)

pub bounds-owners-cycles : goal.bounds-owners-cycles
bounds-owners-cycles c = omega (arith, one_more c.requires c.in-Some.ensures)

pub overflow_cast-ends : goal.overflow_cast-ends
overflow_cast-ends c = omega (arith, one_more c.requires c.in-Some.ensures, c.write_cycle-walked.ensures.count)

pub offset_bounds-ends-cycles : goal.offset_bounds-ends-cycles
offset_bounds-ends-cycles c = omega (arith, one_more c.requires c.in-Some.ensures)

pub bounds-ends-cycles : goal.bounds-ends-cycles
bounds-ends-cycles c = omega (arith, one_more c.requires c.in-Some.ensures)

pub offset_bounds-areas-cycles : goal.offset_bounds-areas-cycles
offset_bounds-areas-cycles c = omega (arith, one_more c.requires c.in-Some.ensures)

pub bounds-areas-cycles : goal.bounds-areas-cycles
bounds-areas-cycles c = omega (arith, one_more c.requires c.in-Some.ensures)

pub returns : goal.returns
returns c =
    cycle_listed c.requires c.in-Some.ensures (λ e. omega arith) {v = c.in-Some.region} c.write_cycle-walked.ensures (omega arith)
    (read_back _ (omega (arith, c.write_cycle-walked.ensures.area_low)))
