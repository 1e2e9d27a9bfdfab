-- A block of level l has 4^l pixels.
use native.Mathlib.Omega.{arith}
use Rattle.sequences.specs.Powers.{pow4_mono}
use Rattle.location.specs.Levels.{pixels_are_power}
use Rattle.cursors.proofs.end_of.Goals as goal

pub overflow_add-result : goal.overflow_add-result
overflow_add-result c = omega (arith, c.requires, c.pixels.ensures, pixels_are_power c.args.level (omega (arith, c.requires)), pow4_mono c.requires.1)

pub returns : goal.returns
returns c = omega (arith, c.pixels.ensures, pixels_are_power c.args.level (omega (arith, c.requires)))
