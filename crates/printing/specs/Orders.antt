-- Samples in either order are drawn as the image that they are: those in block order are put into rows first.
use Rattle.std.specs.Prelude.{◌≡◌, ℕ, ◌≤◌, length, take}
use Rattle.std.proofs.Math.Path.{ap}
use Rattle.std.proofs.Common.{◌∙◌, subst, arith}
use mathlib.Core.List.{List}
use Rattle.sequences.specs.Over.{length_over}
use Rattle.quadtree.specs.Raster.{in_code_order, in_rows}
use Rattle.quadtree.specs.Orders.{length_in_rows, code_order_after_rows}
use Rattle.rearranging.specs.Ways.{to_rows, rearranged}
use Rattle.rearranging.specs.Promise.{Rearranging, Fits}
use Rattle.rearranging.specs.Callers.{written, all_counted}
use Rattle.answers.specs.Put.{Put}
use Rattle.answers.specs.declared.Written.{Written}
use Rattle.drawing.specs.Outlines.{image_text}
use Rattle.drawing.specs.Picturing.{RasterFits, few_pixels}
use Rattle.printing.specs.Printed.{image_of}
use Rattle.printing.specs.declared.order.Order.{Order}

-- Row by row.
pub drawn_by_rows : (n : ℕ) (samples : List ℕ) {order : Order} {text text' : List ℕ} {k : ℕ} → order ≡ Order.Rows → Put (image_text n (in_code_order n samples)) text text' k
    → Put (image_text n (image_of order n samples)) text text' k
unfolding image_of
drawn_by_rows n samples e q = rw e q

-- In block order; `lent` is the raster that they are put into, and `raster` what it then holds.
module _ {n : ℕ} {samples text lent raster : List ℕ} {r : Written} (f : RasterFits n samples text) (large : 4096 ≤ length lent) (p : Rearranging to_rows n samples lent raster r) where
  fit : Fits n (length samples) (length lent)
  fit = record { small = omega (arith, f.low); whole = f.whole; room = omega (arith, few_pixels f.low) }

  in_rows_lem : take r.count raster ≡ in_rows n samples
  unfolding rearranged
  in_rows_lem = (written p fit).up_to_count

  pub count-inside : r.count ≤ length raster
  count-inside =
      omega (arith, all_counted p fit, fit.room, ap length (written p fit).list, length_over (rearranged to_rows n samples) lent (omega (arith, (written p fit).count_is, all_counted p fit, fit.room)))

  pub rows_fit : RasterFits n (take r.count raster) text
  rows_fit = record { low = f.low; whole = ap length in_rows_lem ∙ length_in_rows n samples; enough = f.enough }

  pub drawn_by_blocks : {order : Order} {text₁ text' : List ℕ} {k : ℕ} → order ≡ Order.BlockOrder
      → Put (image_text n (in_code_order n (take r.count raster))) text₁ text' k → Put (image_text n (image_of order n samples)) text₁ text' k
  unfolding image_of
  drawn_by_blocks {order} {text₁} {text'} {k} e q =
      let same : in_code_order n (take r.count raster) ≡ samples = ap (in_code_order n) in_rows_lem ∙ code_order_after_rows n samples f.whole in
      rw e (subst (λ (px : List ℕ). Put (image_text n px) text₁ text' k) same q)
