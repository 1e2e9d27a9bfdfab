-- The rule of the table at one of its entries.
use Rattle.interleaving.specs.Spreading.{entry_is_spread}
use Rattle.interleaving.proofs.spread_of.Goals as goal

pub returns : goal.returns
returns c = entry_is_spread _ c.args.table.now.rule c.args.i c.requires
