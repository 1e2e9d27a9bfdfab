-- Signed numbers of 32 bits: a signed local is its bits, which `to_z w32` reads and `of_z w32` writes.
use Rattle.std.specs.Prelude.{◌≡◌, ◌<◌, ℤ, nat_abs}
use Rattle.std.proofs.Common.{arith, of_z, to_z, SFits}
use Rattle.std.specs.Int.{w32}
use Rattle.std.proofs.lemmas.Int.{to_z-of_z}
use Rattle.sequences.specs.Differences.{mag_within_size}

-- A number below 2^31, above or below 0, fits, and is read back as it was written.
pub fits : (z : ℤ) → nat_abs z < 2147483648 → SFits w32 z
fits z h = record { sfits = omega (arith, mag_within_size z) }

pub read_back : (z : ℤ) → nat_abs z < 2147483648 → to_z w32 (of_z w32 z) ≡ z
read_back z h = to_z-of_z w32 z (fits z h)
