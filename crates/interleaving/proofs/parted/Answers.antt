-- The product joins the groups of four; it fits, since 17 at place 20 is far below 2 ^ 32.
use Rattle.interleaving.specs.Codes.{column, row}
use Rattle.interleaving.specs.Interleaving.{column-below, row_below}
use Rattle.interleaving.specs.Parting.{groups_of_four_joined}
use Rattle.interleaving.proofs.parted.Goals as goal

pub returns : goal.returns
returns c =
    let d = c.args.c in
    rw c.fours.ensures (groups_of_four_joined (column 8 d) (row 8 d) (column-below 8 d) (row_below 8 d))
