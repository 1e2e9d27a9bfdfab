-- The last of all cycles ends a line, and any other one where the next owner is another region.
use Rattle.std.proofs.Common.{◌∙◌, le-leb, arith}
use Rattle.lines.specs.LineEnds.{line_at_end, line_by_owners}
use Rattle.lines.proofs.ends_line.Goals as goal

pub returns-then-cycles-k : goal.returns-then-cycles-k
returns-then-cycles-k c = le-leb _ _ c.if-cycles-k.true ∙ line_at_end _ _ _ (omega (arith, c.if-cycles-k.true))

pub returns-else-cycles-k : goal.returns-else-cycles-k
returns-else-cycles-k c = line_by_owners _ _ _ c.if-cycles-k.false
