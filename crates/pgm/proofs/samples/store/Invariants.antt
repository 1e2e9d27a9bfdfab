-- The invariant: the samples before i stand at the front of the raster.
use Rattle.pgm.proofs.Sampling.{Stored}
use Rattle.pgm.proofs.samples.store.Given as goal

abbrev pub invariant-loop-at : goal.invariant-loop-at
invariant-loop-at l = Stored l.wide l.count l.bytes l.initial.raster l.raster l.at
