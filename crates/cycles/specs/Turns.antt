-- One turn of the walk that writes a cycle: a run along a row, then one along a column, which adds to the area in 32 bits.
use Rattle.std.specs.Prelude.{◌≡◌, true, false, List, ℕ, ◌+◌, ◌%◌, ◌≤◌, ◌<◌, length, ℤ, nat_abs}
use Rattle.std.proofs.Common.{ap, ◌∙◌, arith}
use Rattle.std.proofs.Math.ListN.{set}
use Rattle.std.proofs.Math.IntN.{◌+ℤ◌}
use mir.Syntax.{w32}
use mir.Val.{of_z, to_z, SFits}
use Rattle.sequences.specs.SignedBits.{fits, read_back}
use Rattle.lattice.specs.Directions.{point, edge}
use Rattle.lattice.specs.Area.{leg_area}
use Rattle.cycles.specs.Areas.{area_bound, leg_size}
use Rattle.cycles.specs.Points.{EdgeAt, way_at, same_edge, is_start, is_no_start}
use Rattle.cycles.specs.Rounds.{left_after}
use Rattle.cycles.specs.Straight.{Gone}
use Rattle.cycles.specs.Walking.{Ready, CycleWalked, CornerDue, OneCornerMore, ColumnDue, with_leg, due_room, due_at, one_corner_more, row_done}

-- A run along a row comes next.
pub record RowDue (side r column row : ℕ) (map₀ out₀ map out : List ℕ) (used : ℕ) (sum : ℤ) (x y d : ℕ) : Type 0 where
  pub corner : CornerDue side r (edge (point column row) 0) map₀ out₀ map out used sum x y d
  pub even : d % 2 ≡ 0

module _ {side r column row : ℕ} {map₀ out₀ : List ℕ} (ready : Ready side r (edge (point column row) 0) map₀ out₀) {map out : List ℕ} {used x y d : ℕ} {sum : ℤ}
    (w : RowDue side r column row map₀ out₀ map out used sum x y d) {map₁ : List ℕ} {x₁ y₁ d₁ : ℕ} (along_row : Gone 0 side r map x y d map₁ x₁ y₁ d₁) where
  column-due : ColumnDue column row ready w.corner map₁ x₁ y₁ d₁
  column-due = row_done column row ready w.corner w.even along_row

  pub at_turn : EdgeAt side r map₁ x₁ y₁ d₁
  at_turn = due_at ready column-due.due

  pub odd_there : d₁ % 2 ≡ 1
  odd_there = column-due.odd

  pub room_there : used + 1 < length (set out used (point x y))
  room_there = due_room ready column-due.due

  module _ {map₂ : List ℕ} {x₂ y₂ d₂ : ℕ} (along_column : Gone 0 side r map₁ x₁ y₁ d₁ map₂ x₂ y₂ d₂) {leg : ℤ} (told : leg ≡ leg_area x₁ y₁ y₂) where
    turn-done : OneCornerMore side r column row map₀ out₀ map₂ (set (set out used (point x y)) (used + 1) (point x₁ y₁)) (used + 2) (with_leg sum x₁ y₁ y₂) x₁ y₁ d₁ x₂ y₂ d₂
    turn-done = one_corner_more column row ready column-due.due (used + 2) (omega arith) along_column

    low : (x₁ ≤ 256) × (y₁ ≤ 256) × (y₂ ≤ 256)
    low = let t = way_at at_turn in (t.x_low, t.y_low, along_column.y_low)

    leg_read : sum +ℤ to_z w32 (of_z w32 leg) ≡ with_leg sum x₁ y₁ y₂
    leg_read = ap (λ z. sum +ℤ z) (ap (λ z. to_z w32 (of_z w32 z)) told ∙ read_back _ (omega (arith, leg_size x₁ y₁ y₂ low)))

    sum_small : nat_abs (sum +ℤ to_z w32 (of_z w32 leg)) ≤ area_bound
    sum_small = omega (arith, ap nat_abs leg_read, turn-done.size)

    pub sum_fits : SFits w32 (sum +ℤ to_z w32 (of_z w32 leg))
    sum_fits = fits _ (omega (arith, sum_small))

    sum_read : to_z w32 (of_z w32 (sum +ℤ to_z w32 (of_z w32 leg))) ≡ with_leg sum x₁ y₁ y₂
    sum_read = read_back _ (omega (arith, sum_small)) ∙ leg_read

    pub long_then : length map₂ ≡ length map₀
    long_then = turn-done.long

    pub wide_then : length (set (set out used (point x y)) (used + 1) (point x₁ y₁)) ≡ length out₀
    wide_then = turn-done.wide

    pub walked : same_edge column row x₂ y₂ d₂ ≡ true
        → CycleWalked side r (edge (point column row) 0) map₀ out₀ map₂ (set (set out used (point x y)) (used + 1) (point x₁ y₁)) (used + 2)
        (to_z w32 (of_z w32 (sum +ℤ to_z w32 (of_z w32 leg))))
    walked h = turn-done.ends sum_read (is_start column row x₂ y₂ d₂ h)

    module _ (low_column : column < 512) (other : same_edge column row x₂ y₂ d₂ ≡ false) where
      pub shorter : left_after side (edge (point column row) 0) map₀ x₂ y₂ d₂ < left_after side (edge (point column row) 0) map₀ x y d
      shorter =
          omega (arith, turn-done.shorter (is_no_start column row x₂ y₂ d₂ low_column along_column.x_low along_column.low other), column-due.nearer)

      pub row_due : RowDue side r column row map₀ out₀ map₂ (set (set out used (point x y)) (used + 1) (point x₁ y₁)) (used + 2)
          (to_z w32 (of_z w32 (sum +ℤ to_z w32 (of_z w32 leg)))) x₂ y₂ d₂
      row_due = record {
        corner = turn-done.again sum_read (is_no_start column row x₂ y₂ d₂ low_column along_column.x_low along_column.low other);
        even = omega (arith, along_column.turned, odd_there);
      }
