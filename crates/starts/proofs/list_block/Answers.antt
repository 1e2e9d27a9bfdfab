-- `list_block` meets its contract: the column, the row and the side of a block give its top row.
use Rattle.starts.specs.Blocks.{side_low, top-row-next, top-row_listed}
use native.Mathlib.Omega.{arith}
use Rattle.starts.proofs.list_block.Goals as goal

pub overflow_cast-width : goal.overflow_cast-width
overflow_cast-width c = omega (arith, side_low c.requires, c.side-width.ensures)

pub list_row-requires : goal.list_row-requires
list_row-requires c = top-row-next c.requires c.column-x.ensures c.row-y.ensures c.side-width.ensures

pub returns : goal.returns
returns c =
    top-row_listed c.requires c.column-x.ensures c.row-y.ensures c.side-width.ensures
    c.list_row.ensures
