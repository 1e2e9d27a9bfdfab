-- Paths outside a region: one after the other, within another region, over a side.
use Rattle.std.specs.Prelude.{◌≡◌, ◌≢◌, List, ℕ, ◌^◌, ◌<◌, get_or}
use Rattle.std.proofs.Common.{◌∙◌, arith}
use Rattle.components.specs.Joined.{Step, north, east, south, west, Beside, start, on, Joined}
use Rattle.components.proofs.Joined.{connected_from}
use Rattle.components.specs.Numbers.{numbers}
use Rattle.components.proofs.Numbered.{one_number_exactly_when_joined}
use Rattle.surrounding.specs.Surrounds.{Near, Outside, start, on, Escapes}

module _ {n : ℕ} {nums : List ℕ} {r : ℕ} where
  pub outside_from : {c d : ℕ} → Outside n nums r c d → c < 4 ^ n
  outside_from (start h k) = h
  outside_from (on p s k) = outside_from p

  pub outside_to : {c d : ℕ} → Outside n nums r c d → d < 4 ^ n
  outside_to (start h k) = h
  outside_to (on p s k) = s.to

  pub outside_end : {c d : ℕ} → Outside n nums r c d → get_or nums d 0 ≢ r
  outside_end (start h k) = k
  outside_end (on p s k) = k

  pub outside_through : {c d e : ℕ} → Outside n nums r c d → Outside n nums r d e → Outside n nums r c e
  outside_through p (start h k) = p
  outside_through p (on q s k) = on (outside_through p q) s k

  pub escapes_through : {c d : ℕ} → Outside n nums r c d → Escapes n nums r d → Escapes n nums r c
  escapes_through p w = record { end = w.end; path = outside_through p w.path; at_edge = w.at_edge }

-- Neighbours are near.
beside_near : {n c d : ℕ} → Beside n c d → Near n c d
beside_near {n} {c} {d} b = pick b.step
  where
    pick : Step n c d → Near n c d
    pick (north x y) = record { from = b.from; to = b.to; columns = omega arith; rows = omega arith }
    pick (east x y) = record { from = b.from; to = b.to; columns = omega arith; rows = omega arith }
    pick (south x y) = record { from = b.from; to = b.to; columns = omega arith; rows = omega arith }
    pick (west x y) = record { from = b.from; to = b.to; columns = omega arith; rows = omega arith }

module _ (n : ℕ) (px : List ℕ) where
  abbrev nums : List ℕ
  nums = numbers n px

  -- A path inside a region is a path outside every other.
  joined-outside : (r c : ℕ) → get_or nums c 0 ≢ r → {d : ℕ} → Joined n px c d → Outside n nums r c d
  joined-outside r c h (start l) = start l h
  joined-outside r c h (on {d} {e} p b l q) =
      on (joined-outside r c h p) (beside_near b)
      (λ z. h ((one_number_exactly_when_joined n px c e (connected_from p) l).1 (on p b l q) ∙ z))

  pub outside_in_region : (r c d : ℕ) → c < 4 ^ n → d < 4 ^ n → get_or nums c 0 ≡ get_or nums d 0 → get_or nums c 0 ≢ r → Outside n nums r c d
  outside_in_region r c d a b e h = joined-outside r c h ((one_number_exactly_when_joined n px c d a b).0 e)

  pub outside_beside : (r c d : ℕ) → Beside n c d → get_or nums c 0 ≢ r → get_or nums d 0 ≢ r → Outside n nums r c d
  outside_beside r c d b h k = on (start b.from h) (beside_near b) k
