-- Areas along the edges of a region, and the product that the code makes for a column.
use Rattle.std.specs.Prelude.{◌≡◌, ℕ, ◌*◌, ◌≤◌, pos, nat_abs, ◌-ℤ◌}
use Rattle.std.proofs.Common.{sym, ◌∙◌, mul-le-mul, arith}
use Rattle.std.proofs.Math.Path.{ap, ap₂, subst}
use Rattle.std.proofs.Math.IntN.{◌*ℤ◌}
use mir.Syntax.{w32}
use mir.Val.{of_z, to_z, SFits}
use Rattle.std.proofs.lemmas.Int.{to_z-of_z}
use Rattle.sequences.specs.Differences.{difference, size_of_difference}
use Rattle.sequences.specs.SignedBits.{fits}
use Rattle.lattice.specs.Directions.{x_of, tail, digit, head}
use Rattle.lattice.specs.Area.{change_of_y, leg_area, leg_area_is, leg_between, Aligned, unit_aligned, unit_leg}
use Rattle.grid.specs.Margins.{Margin}
use Rattle.grid.specs.Steps.{Edge, step}
use Rattle.grid.specs.Undoing.{step-tail}
use Rattle.grid.specs.Closing.{edge_on_grid}

-- No area of a cycle, and no sum on the way to it, is larger than 2^29, above or below 0.
abbrev pub area_bound : ℕ
area_bound = 536870912

module _ (m : ℕ → ℕ → ℕ) (margin : Margin m) (r e : ℕ) (here : Edge m r e) where
  -- An edge adds what the run to the next edge does.
  pub edge_leg : pos (x_of (tail e)) *ℤ change_of_y (digit e) ≡ leg_between (tail e) (tail (step m e))
  unfolding head
  edge_leg = unit_leg (digit e) (tail e) (edge_on_grid m margin r e here) ∙ ap (leg_between (tail e)) (sym (step-tail m margin r e here))

  pub edge_aligned : Aligned (digit e) (tail e) (tail (step m e))
  unfolding head
  edge_aligned = subst (Aligned (digit e) (tail e)) (sym (step-tail m margin r e here)) (unit_aligned (digit e) (tail e) (edge_on_grid m margin r e here))

-- ---- x times the change from y to z, as the code multiplies it: a signed local is its bits, which `to_z w32` reads

module _ (x y z : ℕ) (h : (x ≤ 256) × (y ≤ 256) × (z ≤ 256)) where
  pub leg_size : nat_abs (leg_area x y z) ≤ 65536
  leg_size =
      subst (λ v. nat_abs v ≤ 65536) (sym (leg_area_is x y z))
      (size_of_difference (x * z) (x * y) 65536 (omega (arith, mul-le-mul h.0 h.2)) (omega (arith, mul-le-mul h.0 h.1)))

  pub x_fits : SFits w32 (pos x)
  x_fits = fits (pos x) (omega (arith, h.0))

  pub y_fits : SFits w32 (pos y)
  y_fits = fits (pos y) (omega (arith, h.1))

  pub z_fits : SFits w32 (pos z)
  z_fits = fits (pos z) (omega (arith, h.2))

  change_is : to_z w32 z -ℤ to_z w32 y ≡ pos z -ℤ pos y
  change_is = ap₂ ◌-ℤ◌ (to_z-of_z w32 (pos z) z_fits) (to_z-of_z w32 (pos y) y_fits)

  change_size : nat_abs (pos z -ℤ pos y) ≤ 256
  unfolding difference
  change_size = size_of_difference z y 256 h.2 h.1

  pub change_fits : SFits w32 (to_z w32 z -ℤ to_z w32 y)
  change_fits = subst (SFits w32) (sym change_is) (fits (pos z -ℤ pos y) (omega (arith, change_size)))

  product_is : to_z w32 x *ℤ to_z w32 (of_z w32 (to_z w32 z -ℤ to_z w32 y)) ≡ leg_area x y z
  unfolding leg_area
  product_is = ap₂ ◌*ℤ◌ (to_z-of_z w32 (pos x) x_fits) (to_z-of_z w32 (to_z w32 z -ℤ to_z w32 y) change_fits ∙ change_is)

  pub product_fits : SFits w32 (to_z w32 x *ℤ to_z w32 (of_z w32 (to_z w32 z -ℤ to_z w32 y)))
  product_fits = subst (SFits w32) (sym product_is) (fits (leg_area x y z) (omega (arith, leg_size)))

  pub product_read : to_z w32 (of_z w32 (to_z w32 x *ℤ to_z w32 (of_z w32 (to_z w32 z -ℤ to_z w32 y)))) ≡ leg_area x y z
  product_read = to_z-of_z w32 (to_z w32 x *ℤ to_z w32 (of_z w32 (to_z w32 z -ℤ to_z w32 y))) product_fits ∙ product_is
