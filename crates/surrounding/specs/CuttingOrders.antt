-- Orders of regions from the inside out: they are those with each region before its parent, the test of a given one asks for that, and the
-- least of them is the least order of the forest (document 02, request h).
use Rattle.std.specs.Prelude.{◌≡◌, refl, ◌↔◌, Bool, true, false, List, length}
use Prim.Native.Nat.{ℕ, ◌≤◌, ◌<◌}
use Rattle.std.proofs.Common.{arith}
use Rattle.std.proofs.Math.ListN.{get_or}
use Rattle.components.specs.Numbers.{numbers, regions}
use Rattle.forests.specs.Forest.{Above}
use Rattle.forests.specs.Orders.{EachOnce, Before, ChildrenFirst, first_exactly_when_children_first}
use Rattle.forests.specs.LeastOrder.{least_order}
use Rattle.forests.specs.Least.{LeastOf, least_order_lem}
use Rattle.forests.specs.Checking.{is_each_once, is_children_first, each_once_says, children_first_says, ParentBefore, parent-before_says}
use Rattle.forests.specs.Falling.{falling, falling_each_once, falling-before}
use Rattle.surrounding.specs.Surrounds.{Surrounds}
use Rattle.surrounding.specs.Parents.{parent_of}
use Rattle.surrounding.specs.Ancestors.{parents-below, surrounds_exactly_when_above, parent_surrounds, surrounding_is_smaller}

-- "each surrounded region comes before each region that surrounds it".
abbrev pub InsideOut : ℕ → List ℕ → List ℕ → Type 0
InsideOut n nums l = (r s : ℕ) → Surrounds n nums r s → Before l s r

-- An order of the regions of the image `px` that the bench may cut in: "every region once", from the inside out.
pub record RightOrder (n : ℕ) (px l : List ℕ) : Type 0 where
  pub each : EachOnce (regions n px) l
  pub inside_out : InsideOut n (numbers n px) l

-- "a region stands before one it surrounds": at two places of the list.
pub record StandsBefore (n : ℕ) (nums l : List ℕ) : Type 0 where
  pub first : ℕ
  pub second : ℕ
  pub earlier : first < second
  pub within : second < length l
  pub surrounds : Surrounds n nums (get_or l first 0) (get_or l second 0)

-- Whether an order of every region once is from the inside out: each region stands before its parent.
unfoldable pub is_inside_out : ℕ → List ℕ → List ℕ → Bool
unfolding is_children_first parent_of numbers
is_inside_out n px l = is_children_first (parent_of n (numbers n px)) l

-- "Of all such orders for an accepted list, also give the one with the least possible number at the first place, then at the second, and
-- so on."
unfoldable pub cutting_order : ℕ → List ℕ → List ℕ
unfolding least_order parent_of numbers regions
cutting_order n px = least_order (regions n px) (parent_of n (numbers n px))

module _ (n : ℕ) (px : List ℕ) (small : n ≤ 8) where
  abbrev nums : List ℕ
  nums = numbers n px

  abbrev up : ℕ → ℕ
  up = parent_of n (numbers n px)

  -- An order is inside out exactly when each region comes before its parent.
  pub inside_out_exactly_when_children_first : (l : List ℕ) → EachOnce (regions n px) l → InsideOut n nums l ↔ ChildrenFirst up l
  inside_out_exactly_when_children_first l each =
      let f : ((r s : ℕ) → s < regions n px → Above up r s → Before l s r) ↔ ChildrenFirst up l =
      first_exactly_when_children_first (regions n px) up (parents-below n px small) l each in (
        λ g. f.0 (λ r s h a. g r s ((surrounds_exactly_when_above n px small r s h).1 a)),
        λ c r s w i j hi hj x y.
            let h : s < regions n px = each.below s (i, hi, x) in
            f.1 c r s h ((surrounds_exactly_when_above n px small r s h).0 w) i j hi hj x y,
      )

  -- "Given an order of region numbers, say yes exactly when each surrounded region comes before each region that surrounds it."
  pub test_says_inside_out : (l : List ℕ) → EachOnce (regions n px) l → (is_inside_out n px l ≡ true) ↔ InsideOut n nums l
  unfolding is_inside_out
  test_says_inside_out l each =
      let t : (is_children_first up l ≡ true) ↔ ChildrenFirst up l = children_first_says (regions n px) up (parents-below n px small) l each in
      let o : InsideOut n nums l ↔ ChildrenFirst up l = inside_out_exactly_when_children_first l each in
      (λ h. o.1 (t.0 h), λ f. t.1 (o.0 f))

  pub tests_say_right : (l : List ℕ) → ((is_each_once (regions n px) l ≡ true) × (is_inside_out n px l ≡ true)) ↔ RightOrder n px l
  tests_say_right l = (
    λ h. let each : EachOnce (regions n px) l = (each_once_says (regions n px) l).0 h.0 in
        record { each = each; inside_out = (test_says_inside_out l each).0 h.1 },
    λ o. ((each_once_says (regions n px) l).1 o.each, (test_says_inside_out l o.each).1 o.inside_out),
  )

  -- Of an order of every region once the test says no exactly when "a region stands before one it surrounds".
  pub standing_before : (l : List ℕ) → EachOnce (regions n px) l → (is_inside_out n px l ≡ false) ↔ StandsBefore n nums l
  unfolding is_inside_out
  standing_before l each = (λ h. there (parent-before_says up l h), λ b. back b (is_inside_out n px l) refl)
    where
      there : ParentBefore up l → StandsBefore n nums l
      there b =
          let s : ℕ = get_or l b.child 0 in
          record {
            first = b.parent;
            second = b.child;
            earlier = b.earlier;
            within = b.within;
            surrounds = parent_surrounds n px small (get_or l b.parent 0) s (each.below s (b.child, b.within, refl)) b.above;
          }

      back : StandsBefore n nums l → (t : Bool) → is_inside_out n px l ≡ t → is_inside_out n px l ≡ false
      back b false e = e
      back b true e =
          let before : Before l (get_or l b.second 0) (get_or l b.first 0) = (test_says_inside_out l each).0 e _ _ b.surrounds in
          absurd (omega (arith, b.earlier, before b.second b.first b.within (omega (arith, b.earlier, b.within)) refl refl))

  -- All regions by falling numbers are an order from the inside out.
  pub falling_is_inside_out : RightOrder n px (falling (regions n px))
  falling_is_inside_out =
      let each : EachOnce (regions n px) (falling (regions n px)) = falling_each_once (regions n px) in
      record {
        each = each;
        inside_out = λ r s w i j hi hj x y. falling-before (regions n px) r s (surrounding_is_smaller n px small r s (each.below s (i, hi, x)) w) i j hi hj x y;
      }

  -- The least of all orders that are inside out.
  pub cutting_order_is_least : LeastOf (regions n px) (InsideOut n nums) (cutting_order n px)
  unfolding cutting_order
  cutting_order_is_least =
      let l : LeastOf (regions n px) (ChildrenFirst up) (least_order (regions n px) up) = least_order_lem (regions n px) up (parents-below n px small) in
      record {
        each = l.each;
        allowed = (inside_out_exactly_when_children_first (least_order (regions n px) up) l.each).1 l.allowed;
        least = λ m e f. l.least m e ((inside_out_exactly_when_children_first m e).0 f);
      }
