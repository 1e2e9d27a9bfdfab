-- Both widths are inside the bytes, and the code is the definition.
use Rattle.std.proofs.Common.{arith, ◌∙◌}
use Rattle.pgm.proofs.Sampling.{room-of-one, room-of-two, sample-of-one, sample-of-two}
use Rattle.pgm.proofs.samples.sample.Goals as goal

pub overflow_mul-i : goal.overflow_mul-i
overflow_mul-i c = omega (arith, room-of-two _ _ c.requires c.if-wide.true, c.well_formed)

pub bounds-bytes-i : goal.bounds-bytes-i
bounds-bytes-i c = omega (arith, room-of-two _ _ c.requires c.if-wide.true)

pub overflow_mul-i-then-wide : goal.overflow_mul-i-then-wide
overflow_mul-i-then-wide c = omega (arith, room-of-two _ _ c.requires c.if-wide.true, c.well_formed)

pub overflow_add-i : goal.overflow_add-i
overflow_add-i c = omega (arith, room-of-two _ _ c.requires c.if-wide.true, c.well_formed)

pub bounds-bytes-i-then-wide : goal.bounds-bytes-i-then-wide
bounds-bytes-i-then-wide c = omega (arith, room-of-two _ _ c.requires c.if-wide.true)

pub returns-then-wide : goal.returns-then-wide
returns-then-wide c = omega (arith, c.from_be_bytes.ensures, sample-of-two c.args.bytes.now c.args.i c.if-wide.true)

pub bounds-bytes-i-else-wide : goal.bounds-bytes-i-else-wide
bounds-bytes-i-else-wide c = omega (arith, room-of-one _ _ c.requires c.if-wide.false)

pub returns-else-wide : goal.returns-else-wide
returns-else-wide c = let a = c.args in c.from.ensures ∙ sample-of-one a.bytes.now a.i c.if-wide.false
