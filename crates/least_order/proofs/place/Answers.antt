-- `place` meets its contract: a number of which children are missing is passed over; from any other the way up is written.
use Rattle.least_order.specs.Arranged.{number_within, passed_over, can_rise, placed_by_rising}
use Rattle.least_order.proofs.place.Goals as goal

pub bounds-work-v : goal.bounds-work-v
bounds-work-v c = number_within c.requires

pub returns-then-work-v-ne0 : goal.returns-then-work-v-ne0
returns-then-work-v-ne0 c = passed_over c.requires c.if-work-v-ne0.true

pub rise-requires : goal.rise-requires
rise-requires c = can_rise c.requires c.if-work-v-ne0.false

pub returns : goal.returns
returns c = placed_by_rising c.if-work-v-ne0.false c.rise.ensures
