-- One stretch in the columns, one in the rows. For a single pixel each is one entry.
use Rattle.border.specs.Walk.{stored_single}
use Rattle.border.proofs.store.Goals as goal

pub returns-then-s-eq1 : goal.returns-then-s-eq1
returns-then-s-eq1 c =
    let a = c.args in
    stored_single a.work.now a.w a.x a.y a.s a.k c.if-s-eq1.true
