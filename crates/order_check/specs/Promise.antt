-- What the check of an order promises: the answer, and the later content of the label list and of the work list.
use Rattle.std.specs.Prelude.{◌≡◌, Bool, true, false, not, List, ℕ}
use Rattle.std.proofs.Math.Path.{sym, ap, ap₂}
use Rattle.std.proofs.Common.{◌∙◌, arith}
use Rattle.sequences.specs.Cases.{first, when, first_some, first_none}
use Rattle.sequences.specs.Over.{over}
use Rattle.quadtree.specs.Blocks.{blocks, paint}
use Rattle.components.specs.Numbers.{regions}
use Rattle.regions.specs.Promise.{numbering_number, labels_written, zeros_written, Numbering}
use Rattle.regions.specs.declared.Numbered.{Numbered}
use Rattle.forests.specs.Checking.{is_each_once}
use Rattle.surrounding.specs.CuttingOrders.{is_inside_out}

-- "new 19 (the given order is not every region once), then new 20 (a region stands before one it surrounds)" (document 02, request h): of
-- an order of the regions of an image.
unfoldable pub fault_of_order : ℕ → List ℕ → List ℕ → ℕ
unfolding first when is_each_once is_inside_out regions
fault_of_order n px order = first (when (not (is_each_once (regions n px) order)) 19) (when (not (is_inside_out n px order)) 20)

-- "Checks: 1 to 7, then 8 for these lists, then new 19 .., then new 20": the label list and the work list are those of the numbering.
unfoldable pub order_number : ℕ → List ℕ → List ℕ → List ℕ → List ℕ → List ℕ → List ℕ → ℕ
unfolding first numbering_number fault_of_order paint blocks
order_number n cs ls ks order labels₀ work₀ = first (numbering_number n cs ls ks labels₀ work₀) (fault_of_order n (paint (blocks cs ls ks)) order)

-- The check of an order, the label list and the work list before (labels₀, work₀) and after (labels₁, work₁): "Both .. leave the region
-- numbers in the one and zeros in the other, refusals 19 and 20 included".
pub record OrderCheck (n : ℕ) (cs ls ks order labels₀ work₀ labels₁ work₁ : List ℕ) (r : ℕ) : Type 0 where
  pub answer : r ≡ order_number n cs ls ks order labels₀ work₀
  pub in_labels : labels₁ ≡ over (labels_written n cs ls ks labels₀ work₀) labels₀
  pub in_work : work₁ ≡ over (zeros_written n cs ls ks labels₀ work₀) work₀

-- ---- cause by cause

module _ (n : ℕ) (px order : List ℕ) where
  pub not_each_once : is_each_once (regions n px) order ≡ false → fault_of_order n px order ≡ 19
  unfolding fault_of_order first when
  not_each_once h = ap (λ (t : Bool). first (when (not t) 19) (when (not (is_inside_out n px order)) 20)) h

  module _ (once : is_each_once (regions n px) order ≡ true) where
    pub not_inside_out : is_inside_out n px order ≡ false → fault_of_order n px order ≡ 20
    unfolding fault_of_order first when
    not_inside_out h = ap₂ (λ (s t : Bool). first (when (not s) 19) (when (not t) 20)) once h

    pub right : is_inside_out n px order ≡ true → fault_of_order n px order ≡ 0
    unfolding fault_of_order first when
    right h = ap₂ (λ (s t : Bool). first (when (not s) 19) (when (not t) 20)) once h

-- What the numbering leaves is what the check leaves.
module _ {n : ℕ} {cs ls ks labels₀ work₀ labels₁ work₁ : List ℕ} {numbered : Numbered} (done : Numbering n cs ls ks labels₀ work₀ labels₁ work₁ numbered) where
  answered : numbered.number ≡ numbering_number n cs ls ks labels₀ work₀
  answered = ap (λ (r : Numbered). r.number) done.answer

  pub list_refused : {order : List ℕ} → (numbered.number ≡ 0 → ⊥) → OrderCheck n cs ls ks order labels₀ work₀ labels₁ work₁ numbered.number
  unfolding order_number
  list_refused {order} p = record {
    answer = answered ∙ sym (first_some (numbering_number n cs ls ks labels₀ work₀) (fault_of_order n (paint (blocks cs ls ks)) order) (omega (arith, answered)));
    in_labels = done.in_labels;
    in_work = done.in_work;
  }

  pub order_judged : {k : ℕ} {order work₂ : List ℕ} → numbered.number ≡ 0 → fault_of_order n (paint (blocks cs ls ks)) order ≡ k → work₂ ≡ work₁
      → OrderCheck n cs ls ks order labels₀ work₀ labels₁ work₂ k
  unfolding order_number
  order_judged {order = order} z e same = record {
    answer = sym e ∙ sym (first_none (numbering_number n cs ls ks labels₀ work₀) (fault_of_order n (paint (blocks cs ls ks)) order) (sym answered ∙ z));
    in_labels = done.in_labels;
    in_work = same ∙ done.in_work;
  }
