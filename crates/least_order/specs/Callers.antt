-- What the promise says where a caller stands: the order given is right, and no right order is smaller.
use Rattle.std.specs.Prelude.{◌≡◌, refl, List, ℕ, ◌*◌, ◌^◌, ◌≤◌, ◌<◌, length, get_or, take, replicate}
use Rattle.std.proofs.Common.{sym, ap, ◌∙◌, subst, arith}
use Rattle.std.proofs.Math.Decide.{dec_lt}
use Rattle.sequences.specs.Cases.{if_accepted, first_some, first-zero, written_accepted, written_refused}
use Rattle.sequences.specs.Over.{over, over_none, over_beyond}
use Rattle.sequences.specs.Ranges.{tabulate}
use Rattle.answers.specs.declared.Written.{Written}
use Rattle.answers.specs.Answers.{Wrote, accepted_writes}
use Rattle.quadtree.specs.Blocks.{blocks, paint}
use Rattle.quadtree.specs.Number.{number, number_with}
use Rattle.quadtree.specs.Accepted.{number-zero}
use Rattle.components.specs.Numbers.{numbers, labels, regions}
use Rattle.regions.specs.Promise.{Numbering, none, numbered}
use Rattle.regions.specs.Callers.{label_of_pixel, eight_unless_long, labels_are_numbers}
use Rattle.forests.specs.Least.{LeastOf}
use Rattle.surrounding.specs.CuttingOrders.{InsideOut, RightOrder, cutting_order, cutting_order_is_least}
use Rattle.parents.specs.AfterNumbering.{regions-numbered}
use Rattle.parents.specs.Forest.{regions_at_most_blocks}
use Rattle.least_order.specs.Promise.{ordering_number, LeastOrdering, order_list_short, same_number}

module _ {n : ℕ} {cs ls ks labels₀ work₀ order₀ labels₁ work₁ order₁ : List ℕ} {r : Written}
    (p : LeastOrdering n cs ls ks labels₀ work₀ order₀ labels₁ work₁ order₁ r) where
  abbrev px : List ℕ
  px = paint (blocks cs ls ks)

  abbrev number_then : ℕ
  number_then = ordering_number n cs ls ks labels₀ work₀ order₀

  -- "A refusal .. returns that number with every other part zero and leaves all lists" (document 01).
  pub refusal_leaves_all : 0 < r.number → (r.count ≡ 0) × (labels₁ ≡ labels₀) × (work₁ ≡ work₀) × (order₁ ≡ order₀)
  refusal_leaves_all h =
      let some : 0 < number_then = omega (arith, p.in_order.number_is) in
      let nothing : if_accepted number_then (cutting_order n px) ≡ _ = written_refused number_then (cutting_order n px) some in (
        p.in_order.count_is ∙ ap length nothing,
        p.in_labels ∙ ap (λ (l : List ℕ). over l labels₀) (written_refused number_then (labels n (blocks cs ls ks)) some) ∙ over_none labels₀,
        p.in_work ∙ ap (λ (l : List ℕ). over l work₀) (written_refused number_then (replicate (2 * 4 ^ n) 0) some) ∙ over_none work₀,
        p.in_order.list ∙ ap (λ (l : List ℕ). over l order₀) nothing ∙ over_none order₀,
      )

  -- "Checks: 1 to 7": the block list's own number comes first.
  pub list_comes_first : 0 < number n cs ls ks → r.number ≡ number n cs ls ks
  unfolding ordering_number number_with
  list_comes_first h = p.in_order.number_is ∙ first_some (number n cs ls ks) _ h

  -- "then 8 for these lists", the order list included.
  pub eight_comes_last : number n cs ls ks ≡ 0 → ((length cs ≤ length labels₀) × (2 * 4 ^ n ≤ length work₀) × (length cs ≤ length order₀) → ⊥) → r.number ≡ 8
  eight_comes_last accepted short = p.in_order.number_is ∙ pick (dec_lt (length order₀) (length cs))
    where
      pick : Dec (length order₀ < length cs) → number_then ≡ 8
      pick (yes h) = order_list_short n cs ls ks labels₀ work₀ order₀ accepted h
      pick (no h) =
          let long : length cs ≤ length order₀ = omega arith in
          same_number n cs ls ks labels₀ work₀ order₀ long ∙ eight_unless_long n cs ls ks labels₀ work₀ accepted (λ l. short (l.0, l.1, long))

  -- Only an accepted list and lists that are long enough are accepted.
  pub accepted_only : r.number ≡ 0 → (number n cs ls ks ≡ 0) × (length cs ≤ length labels₀) × (2 * 4 ^ n ≤ length work₀) × (length cs ≤ length order₀)
  unfolding ordering_number number_with
  accepted_only e = pick (dec_lt (length labels₀) (length cs)) (dec_lt (length work₀) (2 * 4 ^ n)) (dec_lt (length order₀) (length cs))
    where
      fine : number n cs ls ks ≡ 0
      fine = (first-zero (number n cs ls ks) _ (sym p.in_order.number_is ∙ e)).0

      short : {A : Type 0} → ((length cs ≤ length labels₀) × (2 * 4 ^ n ≤ length work₀) × (length cs ≤ length order₀) → ⊥) → A
      short f = absurd (omega (arith, e, eight_comes_last fine f))

      pick : Dec (length labels₀ < length cs) → Dec (length work₀ < 2 * 4 ^ n) → Dec (length order₀ < length cs)
          → (number n cs ls ks ≡ 0) × (length cs ≤ length labels₀) × (2 * 4 ^ n ≤ length work₀) × (length cs ≤ length order₀)
      pick (no a) (no b) (no c) = (fine, omega arith, omega arith, omega arith)
      pick (yes a) b c = short (λ l. omega (arith, l.0))
      pick (no a) (yes b) c = short (λ l. omega (arith, l.1))
      pick (no a) (no b) (yes c) = short (λ l. omega (arith, l.2))

  -- An accepted list, and lists that are long enough.
  module _ (accepted : number n cs ls ks ≡ 0) (one_a_block : length cs ≤ length labels₀) (room : 2 * 4 ^ n ≤ length work₀)
      (order_room : length cs ≤ length order₀) where
    small : n ≤ 8
    small = (number-zero n cs ls ks accepted).small

    none_then : number_then ≡ 0
    none_then = same_number n cs ls ks labels₀ work₀ order₀ order_room ∙ none n cs ls ks labels₀ work₀ accepted one_a_block room

    wrote : Wrote (cutting_order n px) order₀ order₁ r
    wrote = accepted_writes number_then (cutting_order n px) order₀ order₁ r p.in_order none_then

    pub not_refused : r.number ≡ 0
    not_refused = wrote.accepted

    -- "filled up to the number of regions".
    pub count_is_regions : r.count ≡ regions n (paint (blocks cs ls ks))
    count_is_regions = wrote.count_is ∙ (cutting_order_is_least n px small).each.long

    pub order_beyond_kept : (i : ℕ) → r.count ≤ i → get_or order₁ i 0 ≡ get_or order₀ i 0
    order_beyond_kept i h = ap (λ (l : List ℕ). get_or l i 0) wrote.list ∙ over_beyond (cutting_order n px) order₀ i (omega (arith, wrote.count_is))

    -- "Of all such orders for an accepted list, also give the one with the least possible number at the first place, then at the second, and
    -- so on": the entries up to the count are every region once, from the inside out, and at the first place where another such order
    -- differs from them it has the larger number.
    pub order_is_least : LeastOf (regions n (paint (blocks cs ls ks))) (InsideOut n (numbers n (paint (blocks cs ls ks)))) (take r.count order₁)
    order_is_least = subst (LeastOf (regions n px) (InsideOut n (numbers n px))) (sym wrote.up_to_count) (cutting_order_is_least n px small)

    pub order_is_right : RightOrder n (paint (blocks cs ls ks)) (take r.count order₁)
    order_is_right = record { each = order_is_least.each; inside_out = order_is_least.allowed }

    -- The label list and the work list at exit are those that the numbering leaves, and the count is its count.
    pub lists_as_numbered : Numbering n cs ls ks labels₀ work₀ labels₁ work₁ (record { number = 0; regions = r.count })
    lists_as_numbered =
        numbered n cs ls ks labels₀ work₀ accepted one_a_block room
        (p.in_labels ∙ ap (λ (l : List ℕ). over l labels₀) (written_accepted number_then (labels n (blocks cs ls ks)) none_then))
        (p.in_work ∙ ap (λ (l : List ℕ). over l work₀) (written_accepted number_then (replicate (2 * 4 ^ n) 0) none_then))
        count_is_regions

    -- The same by the labels at exit: the region of a pixel is the label of the block that holds it.
    pub order_is_least_by_labels : LeastOf r.count (InsideOut n (tabulate (4 ^ n) (label_of_pixel (blocks cs ls ks) labels₁))) (take r.count order₁)
    order_is_least_by_labels =
        subst (λ (k : ℕ). LeastOf k (InsideOut n (tabulate (4 ^ n) (label_of_pixel (blocks cs ls ks) labels₁))) (take r.count order₁)) (sym count_is_regions)
        (subst (λ (m : List ℕ). LeastOf (regions n px) (InsideOut n m) (take r.count order₁)) (sym (labels_are_numbers lists_as_numbered refl)) order_is_least)

    -- An order list of one entry a block has room for all regions.
    pub no_more_than_blocks : r.count ≤ length cs
    no_more_than_blocks = regions_at_most_blocks (regions-numbered lists_as_numbered refl refl)
