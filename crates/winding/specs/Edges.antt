-- A unit edge by its digit, its x and its row, and the places of the map on both sides of it.
use Rattle.std.specs.Prelude.{◌≡◌, ◌≢◌, ℕ, zero, suc, ◌+◌, ◌*◌, ◌<◌}
use Rattle.std.proofs.Math.Path.{sym, ap}
use Rattle.std.proofs.Common.{ap₂, ◌∙◌, subst, subst₂, one-mul, arith}
use Rattle.std.proofs.Math.Decide.{ℕ_discrete}
use Rattle.lattice.specs.Directions.{point, x_of, y_of, left_of, edge, tail, digit}
use Rattle.lattice.specs.Outlines.{x_of_point, y_of_point, tail-edge, digit-edge}
use Rattle.grid.specs.Map.{around}
use Rattle.grid.specs.Steps.{Edge}
use Rattle.grid.specs.Undoing.{no_digit, digit-below_four}
use Rattle.winding.specs.Sums.{same, same_yes, same_no}

-- The pixel (x, y) stands at the place (x + 1, y + 1) of a map with a margin (`region_at`). The row of the two places beside a
-- vertical edge is the y of its southern end; for other edges it is the y where they run.
unfoldable pub row_of : ℕ → ℕ
unfolding y_of tail digit same
row_of e = y_of (tail e) + same (digit e) 3

pub row_south : (e : ℕ) → digit e ≡ 3 → row_of e ≡ suc (y_of (tail e))
unfolding row_of
row_south e h = omega (arith, same_yes (digit e) 3 h)

pub row_other : (e : ℕ) → digit e ≢ 3 → row_of e ≡ y_of (tail e)
unfolding row_of
row_other e h = omega (arith, same_no (digit e) 3 h)

-- The edge s has the digit d, begins at this x, and has the row Y.
pub record LiesAt (s d x Y : ℕ) : Type 0 where
  pub direction : digit s ≡ d
  pub column : x_of (tail s) ≡ x
  pub row : row_of s ≡ Y

pub edge_lies_at : (x y d Y : ℕ) → x < 512 → d < 4 → y + same d 3 ≡ Y → LiesAt (edge (point x y) d) d x Y
unfolding row_of
edge_lies_at x y d Y h k l = record {
  direction = digit-edge (point x y) d k;
  column = ap x_of (tail-edge (point x y) d k) ∙ x_of_point x y h;
  row = ap₂ (λ u v. u + same v 3) (ap y_of (tail-edge (point x y) d k) ∙ y_of_point x y h) (digit-edge (point x y) d k) ∙ l;
}

-- These three tell whether another edge is the same.
module _ {s d x Y : ℕ} (at : LiesAt s d x Y) (e : ℕ) where
  pub same_edge : same s e ≡ same (digit e) d * same x (x_of (tail e)) * same Y (row_of e)
  unfolding row_of x_of y_of tail digit
  same_edge = pick (ℕ_discrete s e) (ℕ_discrete (digit e) d) (ℕ_discrete x (x_of (tail e))) (ℕ_discrete Y (row_of e))
    where
      pick : Dec (s ≡ e) → Dec (digit e ≡ d) → Dec (x ≡ x_of (tail e)) → Dec (Y ≡ row_of e)
          → same s e ≡ same (digit e) d * same x (x_of (tail e)) * same Y (row_of e)
      pick u (no a) b c = rw (same_no s e (λ q. a (ap digit (sym q) ∙ at.direction)), same_no (digit e) d a) (omega arith)
      pick u (yes a) (no b) c = rw (same_no s e (λ q. b (sym at.column ∙ ap (λ k. x_of (tail k)) q)), same_no x (x_of (tail e)) b) (omega arith)
      pick u (yes a) (yes b) (no c) = rw (same_no s e (λ q. c (sym at.row ∙ ap row_of q)), same_no Y (row_of e) c) (omega arith)
      pick (no u) (yes a) (yes b) (yes c) =
          absurd (u (omega (arith, at.direction, at.column, at.row, ap (λ k. same k 3) (a ∙ sym at.direction))))
      pick (yes u) (yes a) (yes b) (yes c) =
          rw (same_yes s e u, same_yes (digit e) d a, same_yes x (x_of (tail e)) b, same_yes Y (row_of e) c) (omega arith)

  pub same_direction : digit e ≡ d → same s e ≡ same x (x_of (tail e)) * same Y (row_of e)
  same_direction h = same_edge ∙ rw (same_yes (digit e) d h) (ap (λ (k : ℕ). k * same Y (row_of e)) (one-mul (same x (x_of (tail e)))))

  pub other_direction : digit e ≢ d → same s e ≡ 0
  other_direction h = same_edge ∙ rw (same_no (digit e) d h) (omega arith)

module _ (m : ℕ → ℕ → ℕ) (r : ℕ) where
  -- The map m has the region r on the right of an edge with the digit d, this x and the row Y, and not on its left.
  unfoldable pub RightOnly : ℕ → ℕ → ℕ → Type 0
  RightOnly zero x Y = (m (suc x) (suc Y) ≡ r) × (m (suc x) Y ≢ r)
  RightOnly (suc zero) x Y = (m (suc x) Y ≡ r) × (m x Y ≢ r)
  RightOnly (suc (suc zero)) x Y = (m x Y ≡ r) × (m x (suc Y) ≢ r)
  RightOnly (suc (suc (suc d))) x Y = (m x Y ≡ r) × (m (suc x) Y ≢ r)

  pub right_only : {s d x Y : ℕ} → LiesAt s d x Y → Edge m r s → RightOnly d x Y
  unfolding RightOnly around left_of
  right_only {s} {d} {x} {Y} at h =
      pick d at.direction (subst (λ k. (around m (tail s) k ≡ r) × (around m (tail s) (left_of k) ≢ r)) at.direction (h.side.on_right, h.side.on_left))
    where
      y_other : digit s ≢ 3 → y_of (tail s) ≡ Y
      y_other k = sym (row_other s k) ∙ at.row

      pick : (d : ℕ) → digit s ≡ d → (around m (tail s) d ≡ r) × (around m (tail s) (left_of d) ≢ r) → RightOnly d x Y
      pick zero k p = subst₂ (λ u v. (m (suc u) (suc v) ≡ r) × (m (suc u) v ≢ r)) at.column (y_other (omega arith)) p
      pick (suc zero) k p = subst₂ (λ u v. (m (suc u) v ≡ r) × (m u v ≢ r)) at.column (y_other (omega arith)) p
      pick (suc (suc zero)) k p = subst₂ (λ u v. (m u v ≡ r) × (m u (suc v) ≢ r)) at.column (y_other (omega arith)) p
      pick (suc (suc (suc zero))) k p = subst₂ (λ u v. (m u v ≡ r) × (m (suc u) v ≢ r)) at.column (sym (row_south s k) ∙ at.row) p
      pick (suc (suc (suc (suc d)))) k p = no_digit d (omega (arith, digit-below_four s))
