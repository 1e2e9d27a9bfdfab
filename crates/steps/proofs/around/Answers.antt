-- The pixel's column and row in the map with a margin are those of the definition.
use mathlib.Core.Path.{ap₂, ◌∙◌}
use Rattle.steps.specs.Look.{map_at}
use Rattle.steps.specs.Rule.{around-point}
use Rattle.steps.proofs.around.Goals as goal

pub returns : goal.returns
returns c =
    let m = map_at c.args.side c.args.map.now in
    c.look.ensures ∙ ap₂ m c.column_at-column.ensures c.row_at-row.ensures
    ∙ around-point m c.args.x c.args.y c.args.d c.requires.1
