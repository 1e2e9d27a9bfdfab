-- After the numbering of the regions: the order can be written, and then all is as promised.
use Rattle.std.specs.Prelude.{◌≡◌, refl, ℕ, ◌≤◌, length}
use Rattle.std.proofs.Math.Path.{sym, ap, ap₂}
use Rattle.std.proofs.Common.{◌∙◌, arith}
use mathlib.Core.List.{List}
use Rattle.sequences.specs.Over.{over}
use Rattle.quadtree.specs.Blocks.{blocks, paint}
use Rattle.quadtree.specs.Accepted.{number-zero}
use Rattle.regions.specs.Promise.{Numbering}
use Rattle.regions.specs.Callers.{list_accepted, regions_at_exit, work_is_zero}
use Rattle.regions.specs.declared.Numbered.{Numbered}
use Rattle.forests.specs.LeastOrder.{least_order}
use Rattle.surrounding.specs.Parents.{parent_of}
use Rattle.surrounding.specs.CuttingOrders.{cutting_order, cutting_order_is_least}
use Rattle.parents.specs.AfterNumbering.{labels-paint, regions-numbered}
use Rattle.parents.specs.Forest.{regions_at_most_blocks}
use Rattle.least_order.specs.Promise.{LeastOrdering, ordered}
use Rattle.least_order.specs.Regions.{Arrangeable, OrderWritten}

module _ {n : ℕ} {cs ls ks labels₀ work₀ labels₁ work₁ : List ℕ} {numbered : Numbered} (done : Numbering n cs ls ks labels₀ work₀ labels₁ work₁ numbered)
    (ok : numbered.number ≡ 0) {order₀ : List ℕ} (long : length cs ≤ length order₀) where
  pub arrangeable : Arrangeable n numbered.regions cs ls labels₁ work₁ order₀
  arrangeable =
      let r = regions-numbered done ok refl in
      record { numbered = r; room = omega (arith, regions_at_most_blocks r); zeros = work_is_zero done ok }

  pub order_given : {work₂ order₁ : List ℕ} → OrderWritten n numbered.regions cs ls labels₁ work₁ order₀ work₂ order₁
      → LeastOrdering n cs ls ks labels₀ work₀ order₀ labels₁ work₂ order₁ (record { number = 0; count = numbered.regions })
  unfolding cutting_order
  order_given w =
      let same : least_order numbered.regions (parent_of n (paint (blocks cs ls labels₁))) ≡ cutting_order n (paint (blocks cs ls ks)) =
      ap₂ (λ (k : ℕ) (m : List ℕ). least_order k (parent_of n m)) (regions_at_exit done ok) (labels-paint done ok) in
      let small : n ≤ 8 = (number-zero n cs ls ks (list_accepted done ok)).small in
      ordered n cs ls ks labels₀ work₀ order₀ long done ok
      (record {
        count_is = regions_at_exit done ok ∙ sym (cutting_order_is_least n (paint (blocks cs ls ks)) small).each.long;
        list = w.in_order ∙ ap (λ (l : List ℕ). over l order₀) same;
      })
      w.same
