-- A side of at most 64 fits the local lists, so the tracing leaves the outlines in them, and their text cycle by cycle is the lines.
use Rattle.std.proofs.Common.{arith, sym}
use Rattle.drawing.specs.Picturing.{drawable, drawn}
use Rattle.drawing.specs.Tracings.{outlined}
use Rattle.drawing.proofs.write_outlines.Goals as goal

pub write-requires : goal.write-requires
write-requires c =
    rw c.cycles_of-cycles.ensures
    (drawable (omega (arith, c.requires.low))
    (outlined c.requires c.trace-traced.ensures (omega arith) (omega arith) (omega arith) (omega arith) (omega arith) (omega arith)) c.requires.enough)

pub returns : goal.returns
returns c =
    drawn (omega (arith, c.requires.low))
    (outlined c.requires c.trace-traced.ensures (omega arith) (omega arith) (omega arith) (omega arith) (omega arith) (omega arith))
    (rw (sym c.cycles_of-cycles.ensures) c.write.ensures)
