-- How long a stretch can be.
use Rattle.std.specs.Prelude.{Bool, true, false, cond, List, ℕ, ◌-◌, ◌≤◌, ◌<◌, length, drop, get_or}
use Rattle.std.proofs.Common.{arith, length-take}
use Rattle.stretches.specs.Stretch.{holds, begin_of, end_of, start_of, length_of, stretch_of}

-- Ends have 32 bits, so a stretch has fewer corners than 2^32.
pub stretch_short : (corners ends : List ℕ) (count k : ℕ) → get_or ends k 0 < 4294967296 → length (stretch_of corners ends count k) < 4294967296
unfolding stretch_of length_of end_of
stretch_short corners ends count k h =
    let start : ℕ = start_of (length corners) ends count k in
    let few = no_longer (holds (length corners) ends count k) in
    omega (arith, few, length-take (length_of (length corners) ends count k) (drop start corners))
  where
    no_longer : (b : Bool) → cond b (get_or ends k 0 - begin_of ends k) 0 ≤ get_or ends k 0
    no_longer true = omega arith
    no_longer false = omega arith
