-- After the numbering of the regions: the order can be tested, and its number is as promised.
use Rattle.std.specs.Prelude.{◌≡◌, Bool, true, false, ℕ}
use Rattle.std.proofs.Math.Path.{sym, ap}
use Rattle.std.proofs.Common.{◌∙◌, subst, arith}
use mathlib.Core.List.{List}
use Rattle.quadtree.specs.Blocks.{blocks, paint}
use Rattle.components.specs.Numbers.{regions}
use Rattle.components.proofs.Numbered.{regions_at_most_pixels}
use Rattle.regions.specs.Promise.{Numbering}
use Rattle.regions.specs.Callers.{regions_at_exit, work_is_zero}
use Rattle.regions.specs.declared.Numbered.{Numbered}
use Rattle.forests.specs.Orders.{EachOnce}
use Rattle.forests.specs.Checking.{is_each_once, each_once_says, is_children_first}
use Rattle.surrounding.specs.Parents.{parent_of}
use Rattle.surrounding.specs.CuttingOrders.{is_inside_out}
use Rattle.parents.specs.AfterNumbering.{work_long, labels-paint, regions-numbered}
use Rattle.order_check.specs.Promise.{OrderCheck, not_each_once, not_inside_out, right, order_judged}
use Rattle.order_check.specs.Along.{Blank}
use Rattle.order_check.specs.Regions.{Orderable, Judged}

module _ {n : ℕ} {cs ls ks labels₀ work₀ labels₁ work₁ : List ℕ} {numbered : Numbered} (done : Numbering n cs ls ks labels₀ work₀ labels₁ work₁ numbered)
    (ok : numbered.number ≡ 0) where
  px : List ℕ
  px = paint (blocks cs ls ks)

  pub blank : Blank numbered.regions work₁
  unfolding px
  blank =
      let few = regions_at_most_pixels n px in
      record {
        room = omega (arith, regions_at_exit done ok, work_long done ok);
        zeros = λ v h. work_is_zero done ok v (omega (arith, regions_at_exit done ok));
      }

  -- The order is tested: t is the answer, and the work list is as it was.
  module _ (order : List ℕ) {work₂ : List ℕ} {t : Bool} (e : (t ≡ is_each_once numbered.regions order) × (work₂ ≡ work₁)) where
    once_is : is_each_once (regions n px) order ≡ t
    unfolding px
    once_is = ap (λ (k : ℕ). is_each_once k order) (sym (regions_at_exit done ok)) ∙ sym e.0

    pub nineteen : t ≡ false → OrderCheck n cs ls ks order labels₀ work₀ labels₁ work₂ 19
    unfolding px
    nineteen h = order_judged done ok (not_each_once n px order (once_is ∙ h)) e.1

    module _ (h : t ≡ true) where
      each : EachOnce numbered.regions order
      each = (each_once_says numbered.regions order).0 (sym e.0 ∙ h)

      pub orderable : Orderable n cs ls labels₁ order work₂
      orderable = subst (λ (w : List ℕ). Orderable n cs ls labels₁ order w) (sym e.1) (record {
        numbered = regions-numbered done ok each.long;
        once = subst (λ (k : ℕ). EachOnce k order) (sym each.long) each;
        zeros = work_is_zero done ok;
      })

      module _ {work₃ : List ℕ} {s : Bool} (j : Judged n cs ls labels₁ order work₂ work₃ s) where
        inside_is : is_inside_out n px order ≡ s
        unfolding px is_inside_out
        inside_is = ap (λ (m : List ℕ). is_children_first (parent_of n m) order) (sym (labels-paint done ok)) ∙ sym j.tested

        pub twenty : s ≡ false → OrderCheck n cs ls ks order labels₀ work₀ labels₁ work₃ 20
        unfolding px
        twenty g = order_judged done ok (not_inside_out n px order (once_is ∙ h) (inside_is ∙ g)) (j.same ∙ e.1)

        pub yes_right : s ≡ true → OrderCheck n cs ls ks order labels₀ work₀ labels₁ work₃ 0
        unfolding px
        yes_right g = order_judged done ok (right n px order (once_is ∙ h) (inside_is ∙ g)) (j.same ∙ e.1)
