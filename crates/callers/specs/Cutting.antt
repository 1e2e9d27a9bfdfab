-- Where a caller stands who has the least order given and orders checked (document 02, request h).
use Rattle.std.specs.Prelude.{◌≡◌, List, ℕ, ◌*◌, ◌^◌, ◌≤◌, ◌<◌, length, take}
use Rattle.std.proofs.Math.Path.{sym, ap}
use Rattle.std.proofs.Common.{◌∙◌, subst, inl}
use native.Mathlib.Omega.{arith}
use Rattle.std.proofs.Math.ListN.{get_or}
use Rattle.std.proofs.Math.Seq.{get_or-take}
use Rattle.answers.specs.declared.Written.{Written}
use Rattle.quadtree.specs.Blocks.{blocks, paint}
use Rattle.quadtree.specs.Number.{number}
use Rattle.components.specs.Numbers.{numbers, regions}
use Rattle.forests.specs.Falling.{falling}
use Rattle.forests.specs.Least.{LeastOf}
use Rattle.surrounding.specs.CuttingOrders.{InsideOut, RightOrder}
use Rattle.order_check.specs.Promise.{OrderCheck}
use Rattle.order_check.specs.Callers.{yes_exactly_when_right, falling_numbers_are_right, accepted_only}
use Rattle.least_order.specs.Promise.{LeastOrdering}
use Rattle.least_order.specs.Callers.{count_is_regions, order_is_least, accepted_only as given_only}

-- A call that gave the least order, and a call for the same block list that checked an order and answered r.
module _ {n : ℕ} {cs ls ks labels₀ work₀ order₀ labels₁ work₁ order₁ : List ℕ} {given : Written}
    (gave : LeastOrdering n cs ls ks labels₀ work₀ order₀ labels₁ work₁ order₁ given) (answered : given.number ≡ 0)
    {order labels₂ work₂ labels₃ work₃ : List ℕ} {r : ℕ} (checked : OrderCheck n cs ls ks order labels₂ work₂ labels₃ work₃ r) where
  px : List ℕ
  px = paint (blocks cs ls ks)

  accepted : number n cs ls ks ≡ 0
  accepted = (given_only gave answered).0

  count_is : given.count ≡ regions n px
  unfolding px
  count_is = let a = given_only gave answered in count_is_regions gave a.0 a.1 a.2 a.3

  least : LeastOf (regions n px) (InsideOut n (numbers n px)) (take given.count order₁)
  unfolding px
  least = let a = given_only gave answered in order_is_least gave a.0 a.1 a.2 a.3

  -- Where the lists lent to the check are long enough:
  module _ (one_a_block : length cs ≤ length labels₂) (room : 2 * 4 ^ n ≤ length work₂) where
    -- The order that was given is accepted.
    pub given_order_is_accepted : order ≡ take given.count order₁ → r ≡ 0
    unfolding px
    given_order_is_accepted e =
        let right : RightOrder n px (take given.count order₁) = record { each = least.each; inside_out = least.allowed } in
        (yes_exactly_when_right checked accepted one_a_block room).1 (subst (RightOrder n px) (sym e) right)

    -- All regions by falling numbers are accepted.
    pub falling_numbers_are_accepted : order ≡ falling given.count → r ≡ 0
    unfolding px
    falling_numbers_are_accepted e = falling_numbers_are_right checked accepted one_a_block room (e ∙ ap falling count_is)

  -- At the first place where an order that is accepted differs from the one given, it has the larger number.
  pub no_accepted_order_is_smaller : r ≡ 0 → (i : ℕ) → i < given.count → ((j : ℕ) → j < i → get_or order j 0 ≡ get_or order₁ j 0)
      → get_or order₁ i 0 ≤ get_or order i 0
  unfolding px
  no_accepted_order_is_smaller yes_said i h same =
      let a = accepted_only checked (inl yes_said) in
      let o : RightOrder n px order = (yes_exactly_when_right checked a.0 a.1 a.2).0 yes_said in
      let at : (j : ℕ) → j < given.count → get_or (take given.count order₁) j 0 ≡ get_or order₁ j 0 = λ j l. get_or-take given.count order₁ j 0 l in
      omega (
        arith,
        at i h,
        least.least order o.each o.inside_out i (omega (arith, count_is)) (λ j l. same j l ∙ sym (at j (omega arith))),
      )
