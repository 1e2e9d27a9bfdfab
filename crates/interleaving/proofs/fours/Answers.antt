-- The digits one by one, then each step makes groups twice as long.
use Prim.Native.Nat.{◌+◌, ◌*◌}
use Rattle.interleaving.specs.Codes.{column, row}
use Rattle.interleaving.specs.Gathering.{mask, gather}
use Rattle.interleaving.specs.Parting.{digits_parted}
use Rattle.interleaving.proofs.fours.Goals as goal

pub returns : goal.returns
unfolding mask
returns c =
    let xy = column 8 c.args.c + 256 * row 8 c.args.c in
    gather 2 4 xy (gather 1 8 xy (digits_parted c.args.c))
