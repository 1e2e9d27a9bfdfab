-- What the promise says where a caller stands: when each number is answered, by the definitions on pixels, and that the lists at exit are
-- those that the numbering leaves.
use Rattle.std.specs.Prelude.{◌≡◌, ◌≢◌, ◌⊎◌, ◌↔◌, Bool, true, false, List, length}
use Rattle.std.proofs.Math.Path.{refl}
use Rattle.std.proofs.Common.{sym, ◌∙◌, subst, inl, inr, true≢false}
use Prim.Native.Nat.{ℕ, zero, suc, ◌*◌, ◌^◌, ◌≤◌, ◌<◌}
use native.Mathlib.Omega.{arith}
use Rattle.sequences.specs.Cases.{first_some, first_none}
use Rattle.sequences.specs.Ranges.{tabulate}
use Rattle.quadtree.specs.Blocks.{blocks, paint}
use Rattle.quadtree.specs.Number.{number, number_with}
use Rattle.quadtree.specs.Accepted.{number-zero}
use Rattle.components.specs.Numbers.{numbers, regions}
use Rattle.regions.specs.Promise.{numbering_number, regions_counted, Numbering, none, numbered}
use Rattle.regions.specs.Bounds.{numbering_at_most_eight}
use Rattle.regions.specs.Callers.{label_of_pixel, refusal_leaves_all, eight_unless_long, labels_are_numbers, list_accepted, long_enough, labels_at_exit, work_at_exit}
use Rattle.forests.specs.Orders.{EachOnce}
use Rattle.forests.specs.Falling.{falling}
use Rattle.forests.specs.Checking.{is_each_once, each_once_says}
use Rattle.surrounding.specs.CuttingOrders.{InsideOut, is_inside_out, RightOrder, StandsBefore, tests_say_right, standing_before, falling_is_inside_out}
use Rattle.order_check.specs.Promise.{fault_of_order, order_number, OrderCheck, not_each_once, not_inside_out, right}

-- The three answers about an order of the regions of an image.
data Verdict (n : ℕ) (px order : List ℕ) : ℕ → Type 0 where
  yes_right : RightOrder n px order → Verdict n px order 0
  not_every_region_once : (EachOnce (regions n px) order → ⊥) → Verdict n px order 19
  one_before_what_it_surrounds : EachOnce (regions n px) order → StandsBefore n (numbers n px) order → Verdict n px order 20

module _ (n : ℕ) (px order : List ℕ) (small : n ≤ 8) where
  verdict : Verdict n px order (fault_of_order n px order)
  verdict = pick (is_each_once (regions n px) order) (is_inside_out n px order) refl refl
    where
      pick : (a b : Bool) → is_each_once (regions n px) order ≡ a → is_inside_out n px order ≡ b → Verdict n px order (fault_of_order n px order)
      pick false b e f =
          subst (Verdict n px order) (sym (not_each_once n px order e))
          (not_every_region_once (λ o. true≢false (sym ((each_once_says (regions n px) order).1 o) ∙ e)))
      pick true false e f =
          let once : EachOnce (regions n px) order = (each_once_says (regions n px) order).0 e in
          subst (Verdict n px order) (sym (not_inside_out n px order e f)) (one_before_what_it_surrounds once ((standing_before n px small order once).0 f))
      pick true true e f = subst (Verdict n px order) (sym (right n px order e f)) (yes_right ((tests_say_right n px small order).0 (e, f)))

  -- The answer is the verdict's number: the verdicts exclude one another.
  zero_says : {k : ℕ} → Verdict n px order k → k ≡ 0 → RightOrder n px order
  zero_says (yes_right o) e = o
  zero_says (not_every_region_once o) e = absurd (omega arith)
  zero_says (one_before_what_it_surrounds o b) e = absurd (omega arith)

  nineteen_says : {k : ℕ} → Verdict n px order k → k ≡ 19 → EachOnce (regions n px) order → ⊥
  nineteen_says (yes_right o) e = absurd (omega arith)
  nineteen_says (not_every_region_once o) e = o
  nineteen_says (one_before_what_it_surrounds o b) e = absurd (omega arith)

  twenty_says : {k : ℕ} → Verdict n px order k → k ≡ 20 → EachOnce (regions n px) order × StandsBefore n (numbers n px) order
  twenty_says (yes_right o) e = absurd (omega arith)
  twenty_says (not_every_region_once o) e = absurd (omega arith)
  twenty_says (one_before_what_it_surrounds o b) e = (o, b)

-- Of an order there are no other numbers.
fault_high : (n : ℕ) (px order : List ℕ) → 0 < fault_of_order n px order → fault_of_order n px order ≢ 19 → fault_of_order n px order ≢ 20 → ⊥
fault_high n px order some a' b' = pick (is_each_once (regions n px) order) (is_inside_out n px order) refl refl
  where
    pick : (a b : Bool) → is_each_once (regions n px) order ≡ a → is_inside_out n px order ≡ b → ⊥
    pick false b e f = a' (not_each_once n px order e)
    pick true false e f = b' (not_inside_out n px order e f)
    pick true true e f = omega (arith, right n px order e f)

module _ {n : ℕ} {cs ls ks order labels₀ work₀ labels₁ work₁ : List ℕ} {r : ℕ} (p : OrderCheck n cs ls ks order labels₀ work₀ labels₁ work₁ r) where
  abbrev px : List ℕ
  px = paint (blocks cs ls ks)

  -- The lists at exit are those that the numbering leaves.
  pub lists_as_numbered : Numbering n cs ls ks labels₀ work₀ labels₁ work₁
      (record { number = numbering_number n cs ls ks labels₀ work₀; regions = regions_counted n cs ls ks labels₀ work₀ })
  lists_as_numbered = record { answer = refl; in_labels = p.in_labels; in_work = p.in_work }

  -- ---- refusals by the block list and the lent lists: they leave both lists

  abbrev before_order : ℕ
  before_order = numbering_number n cs ls ks labels₀ work₀

  refused_before : (k : ℕ) → before_order ≡ k → 0 < k → (r ≡ k) × (labels₁ ≡ labels₀) × (work₁ ≡ work₀)
  unfolding order_number
  refused_before k e h =
      let left = refusal_leaves_all lists_as_numbered (omega arith) in
      (p.answer ∙ first_some before_order (fault_of_order n px order) (omega arith) ∙ e, left.1, left.2)

  -- "Checks: 1 to 7": the block list's own number comes first.
  pub list_comes_first : 0 < number n cs ls ks → (r ≡ number n cs ls ks) × (labels₁ ≡ labels₀) × (work₁ ≡ work₀)
  unfolding numbering_number number_with
  list_comes_first h = refused_before (number n cs ls ks) (first_some (number n cs ls ks) _ h) h

  -- "then 8 for these lists": before the order is looked at.
  pub eight_comes_next : number n cs ls ks ≡ 0 → ((length cs ≤ length labels₀) × (2 * 4 ^ n ≤ length work₀) → ⊥)
      → (r ≡ 8) × (labels₁ ≡ labels₀) × (work₁ ≡ work₀)
  eight_comes_next accepted short = refused_before 8 (eight_unless_long n cs ls ks labels₀ work₀ accepted short) (omega arith)

  -- "So those entries are further exceptions to the rule that a refusal alters nothing": 19 and 20 alone are.
  pub other_refusals_leave_both : 0 < r → r ≢ 19 → r ≢ 20 → (labels₁ ≡ labels₀) × (work₁ ≡ work₀)
  unfolding order_number
  other_refusals_leave_both some a b = pick before_order refl
    where
      pick : (k : ℕ) → before_order ≡ k → (labels₁ ≡ labels₀) × (work₁ ≡ work₀)
      pick (suc k) e = let left = refused_before (suc k) e (omega arith) in (left.1, left.2)
      pick zero e =
          let judged : r ≡ fault_of_order n px order = p.answer ∙ first_none before_order (fault_of_order n px order) e in
          absurd (fault_high n px order (omega (arith, judged)) (λ f. a (judged ∙ f)) (λ f. b (judged ∙ f)))

  -- 0, 19 and 20 are said of accepted lists and lists that are long enough only.
  pub accepted_only : (r ≡ 0) ⊎ (8 < r) → (number n cs ls ks ≡ 0) × (length cs ≤ length labels₀) × (2 * 4 ^ n ≤ length work₀)
  unfolding order_number
  accepted_only said = pick before_order refl
    where
      high : {k : ℕ} → r ≡ suc k → suc k ≤ 8 → (r ≡ 0) ⊎ (8 < r) → ⊥
      high e l (inl z) = omega arith
      high e l (inr g) = omega arith

      pick : (k : ℕ) → before_order ≡ k → (number n cs ls ks ≡ 0) × (length cs ≤ length labels₀) × (2 * 4 ^ n ≤ length work₀)
      pick zero e = let long = long_enough lists_as_numbered e in (list_accepted lists_as_numbered e, long.0, long.1)
      pick (suc k) e = absurd (high (refused_before (suc k) e (omega arith)).0 (omega (arith, e, numbering_at_most_eight n cs ls ks labels₀ work₀)) said)

  -- ---- the verdict

  -- An accepted list, and lists that are long enough.
  module _ (accepted : number n cs ls ks ≡ 0) (one_a_block : length cs ≤ length labels₀) (room : 2 * 4 ^ n ≤ length work₀) where
    small : n ≤ 8
    small = (number-zero n cs ls ks accepted).small

    judged : r ≡ fault_of_order n px order
    unfolding order_number
    judged =
        p.answer
        ∙ first_none (numbering_number n cs ls ks labels₀ work₀) (fault_of_order n px order) (none n cs ls ks labels₀ work₀ accepted one_a_block room)

    -- "leave the region numbers in the one and zeros in the other, refusals 19 and 20 included": whatever the verdict, the lists are those of
    -- an accepted numbering.
    pub numbered_whatever_the_verdict : Numbering n cs ls ks labels₀ work₀ labels₁ work₁ (record { number = 0; regions = regions n (paint (blocks cs ls ks)) })
    numbered_whatever_the_verdict =
        let z : before_order ≡ 0 = none n cs ls ks labels₀ work₀ accepted one_a_block room in
        numbered n cs ls ks labels₀ work₀ accepted one_a_block room (labels_at_exit lists_as_numbered z) (work_at_exit lists_as_numbered z) refl

    answer_is : Verdict n px order r
    answer_is = subst (Verdict n px order) (sym judged) (verdict n px order small)

    -- "say yes exactly when each surrounded region comes before each region that surrounds it".
    pub yes_exactly_when_right : (r ≡ 0) ↔ RightOrder n (paint (blocks cs ls ks)) order
    yes_exactly_when_right = (
      zero_says n px order small answer_is,
      λ o. let t = (tests_say_right n px small order).1 o in judged ∙ right n px order t.0 t.1,
    )

    -- The same by the labels at exit: the region of a pixel is the label of the block that holds it.
    pub yes_exactly_when_right_by_labels :
        (r ≡ 0) ↔ (EachOnce (regions n (paint (blocks cs ls ks))) order × InsideOut n (tabulate (4 ^ n) (label_of_pixel (blocks cs ls ks) labels₁)) order)
    yes_exactly_when_right_by_labels =
        let same : tabulate (4 ^ n) (label_of_pixel (blocks cs ls ks) labels₁) ≡ numbers n px =
        labels_are_numbers lists_as_numbered (none n cs ls ks labels₀ work₀ accepted one_a_block room) in (
          λ e. let o = yes_exactly_when_right.0 e in (o.each, subst (λ (m : List ℕ). InsideOut n m order) (sym same) o.inside_out),
          λ o. yes_exactly_when_right.1 (record { each = o.0; inside_out = subst (λ (m : List ℕ). InsideOut n m order) same o.1 }),
        )

    -- "19 (the given order is not every region once)".
    pub nineteen_exactly_when_not_every_region_once : (r ≡ 19) ↔ (EachOnce (regions n (paint (blocks cs ls ks))) order → ⊥)
    nineteen_exactly_when_not_every_region_once = (
      nineteen_says n px order small answer_is,
      λ o. judged ∙ not_each_once n px order (pick o (is_each_once (regions n px) order) refl),
    )
      where
        pick : (EachOnce (regions n px) order → ⊥) → (t : Bool) → is_each_once (regions n px) order ≡ t → is_each_once (regions n px) order ≡ false
        pick o false e = e
        pick o true e = absurd (o ((each_once_says (regions n px) order).0 e))

    -- "20 (a region stands before one it surrounds)".
    pub twenty_exactly_when_one_stands_before : (r ≡ 20) ↔ (EachOnce (regions n (paint (blocks cs ls ks))) order × StandsBefore n (numbers n (paint (blocks cs ls ks))) order)
    twenty_exactly_when_one_stands_before = (
      twenty_says n px order small answer_is,
      λ o. judged ∙ not_inside_out n px order ((each_once_says (regions n px) order).1 o.0) ((standing_before n px small order o.0).1 o.1),
    )

    -- All regions by falling numbers are a right order: so there always is one.
    pub falling_numbers_are_right : order ≡ falling (regions n (paint (blocks cs ls ks))) → r ≡ 0
    falling_numbers_are_right e = yes_exactly_when_right.1 (subst (RightOrder n px) (sym e) (falling_is_inside_out n px small))

    -- There is no other answer.
    pub zero_nineteen_or_twenty : (r ≡ 0) ⊎ ((r ≡ 19) ⊎ (r ≡ 20))
    zero_nineteen_or_twenty = pick answer_is
      where
        pick : {k : ℕ} → Verdict n px order k → (k ≡ 0) ⊎ ((k ≡ 19) ⊎ (k ≡ 20))
        pick (yes_right o) = inl refl
        pick (not_every_region_once o) = inr (inl refl)
        pick (one_before_what_it_surrounds o b) = inr (inr refl)
