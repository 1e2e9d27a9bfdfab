-- Blocks of one colour are joined; where that is done already, or the colours differ, nothing changes.
use Rattle.components.specs.Spans.{alike_forest, unlike_forest}
use Rattle.border.proofs.join_alike.Goals as goal

pub returns-then-colours-b : goal.returns-then-colours-b
returns-then-colours-b c =
    let a = c.args in
    alike_forest a.colours.now a.b a.k c.if-colours-b.true c.join.ensures

pub returns-else-colours-b : goal.returns-else-colours-b
returns-else-colours-b c = unlike_forest c.args.colours.now c.args.b c.args.k c.if-colours-b.false c.requires.low
