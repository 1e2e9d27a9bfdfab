-- How the crossings change from one place to the next: by the edges on the side between.
use Rattle.std.specs.Prelude.{◌≡◌, ◌≢◌}
use Rattle.std.proofs.Math.Path.{refl, sym, ap, ap₂}
use Rattle.std.proofs.Common.{◌∙◌, mul-add}
use mathlib.Core.List.{List, [], ◌∷◌}
use Prim.Native.Nat.{ℕ, zero, suc, ◌+◌, ◌*◌}
use Rattle.std.proofs.Math.Nat.{add-mul}
use native.Mathlib.Omega.{arith}
use Rattle.lattice.specs.Directions.{x_of, y_of, move, tail, digit, head}
use Rattle.lattice.specs.Straight.{OnGrid}
use Rattle.lattice.specs.Corners.{Walk}
use Rattle.grid.specs.Undoing.{no_digit, digit-below_four}
use Rattle.winding.specs.Sums.{same, at_most, same_suc, at_most_suc, at_most_or_same}
use Rattle.winding.specs.Tallies.{tally, occurrences}
use Rattle.winding.specs.Edges.{row_of, row_south, row_other, LiesAt, same_edge, same_direction, other_direction}
use Rattle.winding.specs.Crossings.{crosses, crosses_yes, crosses_no, crossings}

-- ---- from west to east, for any list of edges

module _ {s d X Y : ℕ} (at : LiesAt s d X Y) where
  crosses_east : (e : ℕ) → crosses d X Y e ≡ crosses d (suc X) Y e + same s e
  unfolding crosses
  crosses_east e =
      let a : ℕ = same (digit e) d in
      let x : ℕ = x_of (tail e) in
      let c : ℕ = same Y (row_of e) in
      ap (λ (u : ℕ). a * u * c) (at_most_or_same X x)
      ∙ ap (λ (u : ℕ). u * c) (mul-add a (at_most (suc X) x) (same X x))
      ∙ add-mul (a * at_most (suc X) x) (a * same X x) c
      ∙ ap (λ (u : ℕ). a * at_most (suc X) x * c + u) (sym (same_edge at e))

  pub crossings_east : (es : List ℕ) → crossings d es X Y ≡ crossings d es (suc X) Y + occurrences s es
  unfolding crossings occurrences tally
  crossings_east [] = refl
  crossings_east (e ∷ es) = omega (arith, crosses_east e, crossings_east es)

-- ---- from north to south, for a closed walk: it reaches the lattice points east of the side between as often as it leaves them

module _ (x Y : ℕ) where
  -- 1 where p is one of these points, else 0: the side is that between the places (x + 1, Y) and (x + 1, Y + 1).
  ahead : ℕ → ℕ
  ahead p = at_most (suc x) (x_of p) * same Y (y_of p)

  -- The eastern end b of a horizontal edge, from the western one; the southern and the northern end of a vertical edge.
  east_end : (a b : ℕ) → x_of b ≡ suc (x_of a) → y_of b ≡ y_of a → ahead b ≡ ahead a + same x (x_of a) * same Y (y_of a)
  unfolding ahead
  east_end a b h k =
      ap₂ (λ (u v : ℕ). at_most (suc x) u * same Y v) h k
      ∙ ap (λ (u : ℕ). u * same Y (y_of a)) (at_most_suc x (x_of a) ∙ at_most_or_same x (x_of a))
      ∙ add-mul (at_most (suc x) (x_of a)) (same x (x_of a)) (same Y (y_of a))

  south_end : (d e p : ℕ) → digit e ≡ d → x_of p ≡ x_of (tail e) → y_of p ≡ row_of e → ahead p ≡ crosses d (suc x) Y e
  unfolding ahead
  south_end d e p h k l = ap₂ (λ (u v : ℕ). at_most (suc x) u * same Y v) k l ∙ sym (crosses_yes d (suc x) Y e h)

  north_end : (d e p : ℕ) → digit e ≡ d → x_of p ≡ x_of (tail e) → suc (y_of p) ≡ row_of e → ahead p ≡ crosses d (suc x) (suc Y) e
  unfolding ahead
  north_end d e p h k l =
      ap₂ (λ (u v : ℕ). at_most (suc x) u * v) k (sym (same_suc Y (y_of p)) ∙ ap (same (suc Y)) l) ∙ sym (crosses_yes d (suc x) (suc Y) e h)

  crosses_neither : (d e : ℕ) → digit e ≢ d → (crosses d (suc x) Y e ≡ 0) × (crosses d (suc x) (suc Y) e ≡ 0)
  crosses_neither d e h = (crosses_no d (suc x) Y e h, crosses_no d (suc x) (suc Y) e h)

  -- The side walked east, and walked west.
  module _ {s t : ℕ} (east : LiesAt s 0 x Y) (west : LiesAt t 2 (suc x) Y) where
    -- What the edge e, which ends at q, adds on both sides of the equation.
    Balance : ℕ → ℕ → Type 0
    Balance e q =
        ahead (tail e) + crosses 3 (suc x) Y e + crosses 1 (suc x) (suc Y) e + same s e
        ≡ ahead q + crosses 3 (suc x) (suc Y) e + crosses 1 (suc x) Y e + same t e

    balance : (d e : ℕ) → digit e ≡ d → OnGrid d 1 (tail e) → Balance e (move d (tail e))
    unfolding Balance move x_of y_of OnGrid
    balance zero e h g =
        let ex : x_of (move 0 (tail e)) ≡ suc (x_of (tail e)) = omega arith in
        let ey : y_of (move 0 (tail e)) ≡ y_of (tail e) = omega arith in
        omega (
          arith,
          crosses_neither 3 e (omega arith),
          crosses_neither 1 e (omega arith),
          east_end (tail e) (move 0 (tail e)) ex ey,
          same_direction east e h ∙ ap (λ (v : ℕ). same x (x_of (tail e)) * same Y v) (row_other e (omega arith)),
          other_direction west e (omega arith),
        )
    balance (suc zero) e h g =
        let ex : x_of (move 1 (tail e)) ≡ x_of (tail e) = omega arith in
        let ey : suc (y_of (move 1 (tail e))) ≡ y_of (tail e) = omega arith in
        let row : row_of e ≡ y_of (tail e) = row_other e (omega arith) in
        omega (
          arith,
          crosses_neither 3 e (omega arith),
          north_end 1 e (move 1 (tail e)) h ex (ey ∙ sym row),
          south_end 1 e (tail e) h refl (sym row),
          other_direction east e (omega arith),
          other_direction west e (omega arith),
        )
    balance (suc (suc zero)) e h g =
        let ex : suc (x_of (move 2 (tail e))) ≡ x_of (tail e) = omega arith in
        let ey : y_of (move 2 (tail e)) ≡ y_of (tail e) = omega arith in
        omega (
          arith,
          crosses_neither 3 e (omega arith),
          crosses_neither 1 e (omega arith),
          east_end (move 2 (tail e)) (tail e) (sym ex) (sym ey),
          same_direction west e h
              ∙ ap₂ (λ (u v : ℕ). u * same Y v) (ap (same (suc x)) (sym ex) ∙ same_suc x (x_of (move 2 (tail e)))) (row_other e (omega arith) ∙ sym ey),
          other_direction east e (omega arith),
        )
    balance (suc (suc (suc zero))) e h g =
        let ex : x_of (move 3 (tail e)) ≡ x_of (tail e) = omega arith in
        let ey : y_of (move 3 (tail e)) ≡ suc (y_of (tail e)) = omega arith in
        let row : row_of e ≡ suc (y_of (tail e)) = row_south e h in
        omega (
          arith,
          crosses_neither 1 e (omega arith),
          north_end 3 e (tail e) h refl (sym row),
          south_end 3 e (move 3 (tail e)) h ex (ey ∙ sym row),
          other_direction east e (omega arith),
          other_direction west e (omega arith),
        )
    balance (suc (suc (suc (suc d)))) e h g = no_digit d (omega (arith, digit-below_four e))

    walk_balance : (p q : ℕ) (es : List ℕ) → Walk p es q
        → ahead p + crossings 3 es (suc x) Y + crossings 1 es (suc x) (suc Y) + occurrences s es
        ≡ ahead q + crossings 3 es (suc x) (suc Y) + crossings 1 es (suc x) Y + occurrences t es
    unfolding Balance crossings occurrences tally Walk head
    walk_balance p q [] w = ap (λ (k : ℕ). ahead k + 0 + 0 + 0) w
    walk_balance p q (e ∷ es) (b, g, w) = omega (arith, balance (digit e) e refl g, walk_balance (head e) q es w, ap ahead b)

    pub crossings_south : (p : ℕ) (es : List ℕ) → Walk p es p
        → crossings 3 es (suc x) Y + crossings 1 es (suc x) (suc Y) + occurrences s es ≡ crossings 3 es (suc x) (suc Y) + crossings 1 es (suc x) Y + occurrences t es
    crossings_south p es w = omega (arith, walk_balance p p es w)
