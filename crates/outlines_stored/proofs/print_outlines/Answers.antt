-- The lists are handed on, and the run is one for this order.
use Rattle.outlines_stored.proofs.print_outlines.Goals as goal

pub returns : goal.returns
returns c = c.run.ensures
