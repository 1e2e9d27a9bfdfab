-- A closed walk goes through each row southward as often as northward, so its winding number is 0 west of the image.
use Rattle.std.specs.Prelude.{◌≡◌}
use Rattle.std.proofs.Math.Path.{refl, ap}
use Rattle.std.proofs.Common.{sym, ◌∙◌, one-mul}
use mathlib.Core.List.{List, [], ◌∷◌}
use Prim.Native.Nat.{ℕ, zero, suc, ◌+◌, ◌*◌}
use native.Mathlib.Omega.{arith}
use Rattle.lattice.specs.Directions.{x_of, y_of, move, tail, digit, head}
use Rattle.lattice.specs.Straight.{OnGrid}
use Rattle.lattice.specs.Corners.{Walk}
use Rattle.grid.specs.Undoing.{no_digit, digit-below_four}
use Rattle.winding.specs.Sums.{same, at_most, at_most_yes, at_most_suc, at_most_or_same}
use Rattle.winding.specs.Tallies.{tally}
use Rattle.winding.specs.Edges.{row_of, row_south, row_other}
use Rattle.winding.specs.Crossings.{crosses, crosses_yes, crosses_no, crossings, Winds}

module _ (Y : ℕ) where
  -- 1 where p lies at Y or further south, else 0.
  beneath : ℕ → ℕ
  beneath p = at_most Y (y_of p)

  level : (p q : ℕ) → y_of p ≡ y_of q → beneath p ≡ beneath q
  unfolding beneath
  level p q h = ap (at_most Y) h

  one_further : (p q : ℕ) → y_of q ≡ suc (y_of p) → beneath q ≡ beneath p + same Y (suc (y_of p))
  unfolding beneath
  one_further p q h = ap (at_most Y) h ∙ at_most_or_same Y (suc (y_of p)) ∙ ap (λ (k : ℕ). k + same Y (suc (y_of p))) (at_most_suc Y (y_of p))

  -- Every edge of the row crosses the ray from the west of the image.
  crosses-row : (d e y : ℕ) → digit e ≡ d → row_of e ≡ y → crosses d 0 Y e ≡ same Y y
  crosses-row d e y h k =
      crosses_yes d 0 Y e h ∙ ap (λ (u : ℕ). u * same Y (row_of e)) (at_most_yes 0 (x_of (tail e)) (omega arith)) ∙ one-mul (same Y (row_of e)) ∙ ap (same Y) k

  balance : (d e : ℕ) → digit e ≡ d → OnGrid d 1 (tail e) → beneath (move d (tail e)) + crosses 1 0 Y e ≡ beneath (tail e) + crosses 3 0 Y e
  unfolding move y_of OnGrid
  balance zero e h g =
      let y : y_of (move 0 (tail e)) ≡ y_of (tail e) = omega arith in
      omega (arith, level (move 0 (tail e)) (tail e) y, crosses_no 1 0 Y e (omega arith), crosses_no 3 0 Y e (omega arith))
  balance (suc zero) e h g =
      let y : y_of (tail e) ≡ suc (y_of (move 1 (tail e))) = omega arith in
      omega (
        arith,
        one_further (move 1 (tail e)) (tail e) y,
        crosses-row 1 e (suc (y_of (move 1 (tail e)))) h (row_other e (omega arith) ∙ y),
        crosses_no 3 0 Y e (omega arith),
      )
  balance (suc (suc zero)) e h g =
      let y : y_of (move 2 (tail e)) ≡ y_of (tail e) = omega arith in
      omega (arith, level (move 2 (tail e)) (tail e) y, crosses_no 1 0 Y e (omega arith), crosses_no 3 0 Y e (omega arith))
  balance (suc (suc (suc zero))) e h g =
      let y : y_of (move 3 (tail e)) ≡ suc (y_of (tail e)) = omega arith in
      omega (arith, one_further (tail e) (move 3 (tail e)) y, crosses-row 3 e (suc (y_of (tail e))) h (row_south e h), crosses_no 1 0 Y e (omega arith))
  balance (suc (suc (suc (suc d)))) e h g = no_digit d (omega (arith, digit-below_four e))

  walk_balance : (p q : ℕ) (es : List ℕ) → Walk p es q → beneath q + crossings 1 es 0 Y ≡ beneath p + crossings 3 es 0 Y
  unfolding crossings tally Walk head
  walk_balance p q [] w = ap (λ (k : ℕ). beneath k + 0) (sym w)
  walk_balance p q (e ∷ es) (b, g, w) = omega (arith, balance (digit e) e refl g, walk_balance (head e) q es w, ap beneath b)

  pub zero-west : (p : ℕ) (es : List ℕ) → Walk p es p → Winds 0 es 0 Y
  zero-west p es w = omega (arith, walk_balance p p es w)
