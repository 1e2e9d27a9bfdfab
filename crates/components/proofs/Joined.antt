-- Being joined is an equivalence of pixels.
use Rattle.std.specs.Prelude.{◌≡◌, refl, List, ℕ, ◌<◌, get_or}
use Rattle.std.proofs.Common.{sym, ◌∙◌}
use Rattle.components.specs.Joined.{Step, north, east, south, west, Beside, Connected, start, on}

pub step_back : {n c d : ℕ} → Step n c d → Step n d c
step_back (north a b) = south (sym a) (sym b)
step_back (east a b) = west (sym a) (sym b)
step_back (south a b) = north (sym a) (sym b)
step_back (west a b) = east (sym a) (sym b)

pub beside_back : {n c d : ℕ} → Beside n c d → Beside n d c
beside_back b = record { from = b.to; to = b.from; step = step_back b.step }

module _ {n : ℕ} {px : List ℕ} {m : ℕ} where
  pub connected_from : {c d : ℕ} → Connected n px m c d → c < m
  connected_from (start h) = h
  connected_from (on p b l e) = connected_from p

  pub connected_to : {c d : ℕ} → Connected n px m c d → d < m
  connected_to (start h) = h
  connected_to (on p b l e) = l

  pub connected_through : {c d e : ℕ} → Connected n px m c d → Connected n px m d e → Connected n px m c e
  connected_through p (start h) = p
  connected_through p (on q b l e) = on (connected_through p q) b l e

  -- One step as a path, there and back.
  pub connected_step : {c d : ℕ} → c < m → d < m → Beside n c d → get_or px d 0 ≡ get_or px c 0 → Connected n px m c d
  connected_step a z b e = on (start a) b z e

  pub connected_back : {c d : ℕ} → Connected n px m c d → Connected n px m d c
  connected_back (start h) = start h
  connected_back (on p b l e) = connected_through (connected_step l (connected_to p) (beside_back b) (sym e)) (connected_back p)

  -- All pixels of a path have one colour.
  pub connected_colour : {c d : ℕ} → Connected n px m c d → get_or px d 0 ≡ get_or px c 0
  connected_colour (start h) = refl
  connected_colour (on p b l e) = e ∙ connected_colour p
