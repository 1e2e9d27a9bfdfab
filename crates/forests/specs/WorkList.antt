-- The work list of the loops over a forest: the parents stand in it from the place `whole` on, and before them what a loop keeps for each
-- number.
use Rattle.std.specs.Prelude.{◌≡◌, List, ℕ, ◌+◌, ◌≤◌, ◌<◌, length, get_or, set}
use Rattle.std.proofs.Common.{◌∙◌, arith, length-set, get_or-set_other}

pub record ParentsFrom (N whole : ℕ) (up : ℕ → ℕ) (w : List ℕ) : Type 0 where
  pub apart : N ≤ whole
  pub room : whole + N ≤ length w
  pub holds : (v : ℕ) → v < N → get_or w (whole + v) 0 ≡ up v

-- What is stored for a number alters no parent.
pub parents-kept : {N whole : ℕ} {up : ℕ → ℕ} {w : List ℕ} (v x : ℕ) → v < N → ParentsFrom N whole up w → ParentsFrom N whole up (set w v x)
parents-kept {N} {whole} {up} {w} v x h s = record {
  apart = s.apart;
  room = omega (arith, length-set w v x, s.room);
  holds = λ u k. get_or-set_other w v (whole + u) x 0 (λ e. omega (arith, s.apart)) ∙ s.holds u k;
}
