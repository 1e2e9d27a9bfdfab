-- What the promise says where a caller stands: about the label list, the work list and the count at exit.
use Rattle.std.specs.Prelude.{◌≡◌, refl, ◌↔◌, Bool, true, false, ◌||◌, ℕ, ◌*◌, ◌^◌, ◌≤◌, ◌<◌, length, replicate}
use Rattle.std.proofs.Math.Path.{sym, ap}
use Rattle.std.proofs.Common.{◌∙◌, arith, true≢false}
use mathlib.Core.List.{List}
use Rattle.std.proofs.Math.ListN.{get_or}
use Rattle.std.proofs.lemmas.List.{length-replicate, get_or-replicate}
use Rattle.std.proofs.Math.Dec.{ltb}
use borrow.Author.Tests.{ltb-false}
use Rattle.sequences.specs.Cases.{when, first_none, first-zero, when_yes, when_zero, written_accepted, written_refused, count_accepted, count_refused}
use Rattle.sequences.specs.Over.{over, over_none, over_inside, over_beyond}
use Rattle.sequences.specs.Ranges.{tabulate, tabulate_from}
use Rattle.quadtree.specs.Blocks.{Block, blocks, paint}
use Rattle.quadtree.specs.Number.{number, number_with}
use Rattle.quadtree.specs.Accepted.{Passes, number-zero}
use Rattle.staircase.specs.FirstBlocks.{Within}
use Rattle.components.specs.Joined.{Joined}
use Rattle.components.specs.Numbers.{numbers, labels, regions}
use Rattle.components.specs.Numbered.{ByLeastCodes}
use Rattle.components.proofs.Numbered.{length-numbers, numbers_by_least_codes}
use Rattle.components.specs.Holders.{block_at, holder, pixel_held}
use Rattle.components.proofs.Labels.{length-labels, label_of_pixel_lem, accepted_labels_equal_exactly_when_joined}
use Rattle.components.specs.Walk.{block-count}
use Rattle.regions.specs.declared.Numbered.{Numbered}
use Rattle.regions.specs.Promise.{numbering_number, labels_written, zeros_written, regions_counted, Numbering, none}

or-false : (a b : Bool) → a || b ≡ false → (a ≡ false) × (b ≡ false)
or-false true b h = absurd (true≢false h)
or-false false b h = (refl, h)

-- Where the check finds nothing and one of the lists is too short, the number is 8.
pub eight_unless_long : (n : ℕ) (cs ls ks labels₀ work₀ : List ℕ) → number n cs ls ks ≡ 0
    → ((length cs ≤ length labels₀) × (2 * 4 ^ n ≤ length work₀) → ⊥) → numbering_number n cs ls ks labels₀ work₀ ≡ 8
unfolding numbering_number number_with
eight_unless_long n cs ls ks labels₀ work₀ accepted short =
    first_none (number n cs ls ks) _ accepted ∙ pick (ltb (length labels₀) (length cs) || ltb (length work₀) (2 * 4 ^ n)) refl
  where
    pick : (t : Bool) → ltb (length labels₀) (length cs) || ltb (length work₀) (2 * 4 ^ n) ≡ t
        → when (ltb (length labels₀) (length cs) || ltb (length work₀) (2 * 4 ^ n)) 8 ≡ 8
    pick true e = when_yes (ltb (length labels₀) (length cs) || ltb (length work₀) (2 * 4 ^ n)) 8 e
    pick false e =
        let none_short = or-false (ltb (length labels₀) (length cs)) (ltb (length work₀) (2 * 4 ^ n)) e in
        absurd (short (ltb-false (length labels₀) (length cs) none_short.0, ltb-false (length work₀) (2 * 4 ^ n) none_short.1))

-- The label of the block that holds the pixel c.
unfoldable pub label_of_pixel : List Block → List ℕ → ℕ → ℕ
unfolding holder
label_of_pixel bs list c = get_or list (holder bs c) 0

module _ {n : ℕ} {cs ls ks labels₀ work₀ labels₁ work₁ : List ℕ} {r : Numbered} (p : Numbering n cs ls ks labels₀ work₀ labels₁ work₁ r) where
  number_answered : r.number ≡ numbering_number n cs ls ks labels₀ work₀
  number_answered = ap (λ (a : Numbered). a.number) p.answer

  -- An accepted list with long enough lists is never refused.
  pub not_refused : number n cs ls ks ≡ 0 → length cs ≤ length labels₀ → 2 * 4 ^ n ≤ length work₀ → r.number ≡ 0
  not_refused accepted long room = number_answered ∙ none n cs ls ks labels₀ work₀ accepted long room

  -- "number, counts 0", and both lists left as they were.
  pub refusal_leaves_all : 0 < r.number → (r.regions ≡ 0) × (labels₁ ≡ labels₀) × (work₁ ≡ work₀)
  unfolding labels_written zeros_written regions_counted
  refusal_leaves_all h =
      let some : 0 < numbering_number n cs ls ks labels₀ work₀ = omega (arith, number_answered) in (
        ap (λ (a : Numbered). a.regions) p.answer ∙ count_refused (numbering_number n cs ls ks labels₀ work₀) (regions n (paint (blocks cs ls ks))) some,
        p.in_labels
            ∙ ap (λ (l : List ℕ). over l labels₀) (written_refused (numbering_number n cs ls ks labels₀ work₀) (labels n (blocks cs ls ks)) some)
            ∙ over_none labels₀,
        p.in_work
            ∙ ap (λ (l : List ℕ). over l work₀) (written_refused (numbering_number n cs ls ks labels₀ work₀) (replicate (2 * 4 ^ n) 0) some)
            ∙ over_none work₀,
      )

  module _ (ok : r.number ≡ 0) where
    zero_number : numbering_number n cs ls ks labels₀ work₀ ≡ 0
    zero_number = sym number_answered ∙ ok

    pub list_accepted : number n cs ls ks ≡ 0
    unfolding numbering_number number_with
    list_accepted = (first-zero (number n cs ls ks) _ zero_number).0

    -- Both lists are long enough.
    pub long_enough : (length cs ≤ length labels₀) × (2 * 4 ^ n ≤ length work₀)
    unfolding numbering_number number_with
    long_enough =
        let none_short = or-false (ltb (length labels₀) (length cs)) (ltb (length work₀) (2 * 4 ^ n))
        (when_zero (ltb (length labels₀) (length cs) || ltb (length work₀) (2 * 4 ^ n)) 8 (omega arith) (first-zero (number n cs ls ks) _ zero_number).1) in
        (ltb-false (length labels₀) (length cs) none_short.0, ltb-false (length work₀) (2 * 4 ^ n) none_short.1)

    passes : Passes n cs ls ks
    passes = number-zero n cs ls ks list_accepted

    pub labels_at_exit : labels₁ ≡ over (labels n (blocks cs ls ks)) labels₀
    unfolding labels_written
    labels_at_exit =
        p.in_labels
        ∙ ap (λ (l : List ℕ). over l labels₀) (written_accepted (numbering_number n cs ls ks labels₀ work₀) (labels n (blocks cs ls ks)) zero_number)

    pub work_at_exit : work₁ ≡ over (replicate (2 * 4 ^ n) 0) work₀
    unfolding zeros_written
    work_at_exit =
        p.in_work
        ∙ ap (λ (l : List ℕ). over l work₀) (written_accepted (numbering_number n cs ls ks labels₀ work₀) (replicate (2 * 4 ^ n) 0) zero_number)

    -- The count is the number of regions.
    pub regions_at_exit : r.regions ≡ regions n (paint (blocks cs ls ks))
    unfolding regions_counted
    regions_at_exit =
        ap (λ (a : Numbered). a.regions) p.answer
        ∙ count_accepted (numbering_number n cs ls ks labels₀ work₀) (regions n (paint (blocks cs ls ks))) zero_number

    size : length (labels n (blocks cs ls ks)) ≡ length cs
    size = length-labels n (blocks cs ls ks) ∙ block-count passes

    -- Each block has its region number at its place, and what lies beyond the blocks is as it was.
    pub label_at_exit : (i : ℕ) → i < length cs → get_or labels₁ i 0 ≡ get_or (labels n (blocks cs ls ks)) i 0
    label_at_exit i h =
        ap (λ (l : List ℕ). get_or l i 0) labels_at_exit ∙ over_inside (labels n (blocks cs ls ks)) labels₀ i (omega (arith, size))

    pub labels-beyond-kept : (i : ℕ) → length cs ≤ i → get_or labels₁ i 0 ≡ get_or labels₀ i 0
    labels-beyond-kept i h =
        ap (λ (l : List ℕ). get_or l i 0) labels_at_exit ∙ over_beyond (labels n (blocks cs ls ks)) labels₀ i (omega (arith, size))

    -- The work list is cleared as far as it was needed.
    pub work_is_zero : (i : ℕ) → i < 2 * 4 ^ n → get_or work₁ i 0 ≡ 0
    work_is_zero i h =
        ap (λ (l : List ℕ). get_or l i 0) work_at_exit
        ∙ over_inside (replicate (2 * 4 ^ n) 0) work₀ i (omega (arith, length-replicate {A = ℕ} (2 * 4 ^ n) 0))
        ∙ get_or-replicate (2 * 4 ^ n) i 0 0 h

    pub work_beyond_kept : (i : ℕ) → 2 * 4 ^ n ≤ i → get_or work₁ i 0 ≡ get_or work₀ i 0
    work_beyond_kept i h =
        ap (λ (l : List ℕ). get_or l i 0) work_at_exit ∙ over_beyond (replicate (2 * 4 ^ n) 0) work₀ i (omega (arith, length-replicate {A = ℕ} (2 * 4 ^ n) 0))

    -- The labels of the blocks that hold two pixels are equal exactly when a path of one colour joins the pixels.
    pub labels_equal_exactly_when_joined : (i j c d : ℕ) → i < length cs → j < length cs
        → Within (block_at (blocks cs ls ks) i) c → Within (block_at (blocks cs ls ks) j) d
        → (get_or labels₁ i 0 ≡ get_or labels₁ j 0) ↔ Joined n (paint (blocks cs ls ks)) c d
    labels_equal_exactly_when_joined i j c d a b v w =
        let both =
        accepted_labels_equal_exactly_when_joined n cs ls ks list_accepted i j c d (omega (arith, block-count passes)) (omega (arith, block-count passes)) v w in (
          λ e. both.0 (sym (label_at_exit i a) ∙ e ∙ label_at_exit j b),
          λ q. label_at_exit i a ∙ both.1 q ∙ sym (label_at_exit j b),
        )

    pub labels_are_numbers : tabulate (4 ^ n) (label_of_pixel (blocks cs ls ks) labels₁) ≡ numbers n (paint (blocks cs ls ks))
    unfolding label_of_pixel
    labels_are_numbers =
        sym (tabulate_from (4 ^ n) (label_of_pixel (blocks cs ls ks) labels₁) (numbers n (paint (blocks cs ls ks))) (length-numbers n (paint (blocks cs ls ks))) (λ c h. sym (at c h)))
      where
        at : (c : ℕ) → c < 4 ^ n → get_or labels₁ (holder (blocks cs ls ks) c) 0 ≡ get_or (numbers n (paint (blocks cs ls ks))) c 0
        at c h =
            let held = pixel_held n (blocks cs ls ks) passes.covering c h in
            label_at_exit (holder (blocks cs ls ks) c) (omega (arith, held.place, block-count passes)) ∙ label_of_pixel_lem n (blocks cs ls ks) passes.covering c h

    -- "Region numbers are 0, 1, 2, .. by each region's least location code. No number is given to two regions of one image": so are the
    -- labels of the pixels' blocks, below the count at exit.
    pub labels_by_least_codes : ByLeastCodes n (paint (blocks cs ls ks)) (tabulate (4 ^ n) (label_of_pixel (blocks cs ls ks) labels₁)) r.regions
    labels_by_least_codes = rw (labels_are_numbers, regions_at_exit) (numbers_by_least_codes n (paint (blocks cs ls ks)))
