-- The loop's invariant: to store the cycles from here on with the units left is as good as all of them.
use Rattle.std.specs.Prelude.{length}
use Rattle.given_outlines.specs.Given.{cycles_in}
use Rattle.west_sides.specs.Cycles.{NextCycle}
use Rattle.west_sides.proofs.store_cycles.Given as goal

abbrev pub invariant-loop-owner : goal.invariant-loop-owner
invariant-loop-owner l =
    NextCycle l.side l.regions (length l.initial.map) l.ends (cycles_in l.owners l.ends l.corners) l.initial.map l.map l.units l.from (length l.yielded)
