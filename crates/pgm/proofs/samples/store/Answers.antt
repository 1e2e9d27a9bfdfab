use native.Mathlib.Omega.{arith}
use Rattle.pgm.proofs.Sampling.{room-of-each, stored_none, stored_more, stored-all}
use Rattle.pgm.proofs.samples.store.Goals as goal

pub loop-at-init : goal.loop-at-init
loop-at-init c = stored_none _ _ _ _

pub sample-requires : goal.sample-requires
sample-requires c = room-of-each _ _ _ _ c.requires.0 (omega arith)

pub offset_bounds-raster-at : goal.offset_bounds-raster-at
offset_bounds-raster-at c = omega (arith, c.requires.1, c.well_formed)

pub bounds-raster-at : goal.bounds-raster-at
bounds-raster-at c = omega (arith, c.loop-at.invariant.long, c.requires.1)

pub loop-at-preserved : goal.loop-at-preserved
loop-at-preserved c =
    let s = c.loop-at in
    stored_more _ _ _ _ _ (omega arith) (omega (arith, s.invariant.long, c.requires.1))
    c.sample.ensures s.invariant

pub shape_of-raster : goal.shape_of-raster
shape_of-raster c = c.loop-at.invariant.long

pub returns : goal.returns
returns c = stored-all _ _ _ _ (omega arith) c.loop-at.invariant
