-- The code is the definition.
use mathlib.Core.Path.{refl}
use native.Mathlib.Omega.{arith}
use lib.ListN.{length-set}
use Rattle.squares.specs.Fours.{four_stored}
use Rattle.squares.proofs.store_four.Goals as goal

pub bounds-raster-at-2 : goal.bounds-raster-at-2
bounds-raster-at-2 g c = simp length-set (omega arith)

pub bounds-raster-at-3 : goal.bounds-raster-at-3
bounds-raster-at-3 g c = simp length-set (omega arith)

pub returns : goal.returns
unfolding four_stored
returns g c = refl
