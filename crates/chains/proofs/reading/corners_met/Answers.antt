-- One corner exactly where the digit changes.
use Rattle.std.proofs.Common.{◌≡◌, refl, ◌∙◌, Bool, true, false, cond, not}
use mir.Val.{bool_byte}
use Rattle.chains.proofs.reading.corners_met.Goals as goal

changes : (same : Bool) → bool_byte (not same) ≡ cond same 0 1
changes true = refl
changes false = refl

pub returns : goal.returns
returns c = c.from.ensures ∙ changes _
