-- An accepted list with its labels for colours: it paints the region numbers, and its labels count up.
use Rattle.std.specs.Prelude.{◌≡◌, refl, List, [], ◌∷◌, ℕ, zero, suc, ◌+◌, ◌^◌, ◌≤◌, ◌<◌, length, take, get_or}
use Rattle.std.proofs.Common.{sym, ap, ◌∙◌, arith, ext_get_or}
use Rattle.sequences.specs.Cases.{first}
use Rattle.sequences.specs.Over.{over, length_over, over_inside}
use Rattle.quadtree.specs.Blocks.{Block, blocks, pixels, paint}
use Rattle.quadtree.specs.Number.{fault_of, cover, number}
use Rattle.quadtree.specs.Painting.{length-paint}
use Rattle.quadtree.specs.Accepted.{number-zero}
use Rattle.staircase.specs.FirstBlocks.{all_pixels}
use Rattle.unions.specs.Counting.{Before, below_most}
use Rattle.unions.specs.Representatives.{rep}
use Rattle.components.specs.Numbers.{alike_pairs, numbers, regions, labels}
use Rattle.components.proofs.Numbered.{length-numbers, regions_counted_lem, number-below-regions, numbers_are_region_numbers}
use Rattle.components.specs.Holders.{block_at, holder, HoldsAt, held_colour, held-before, first_pixel_held, held_in_image, pixel_held}
use Rattle.components.proofs.Labels.{length-labels, label_of_held}
use Rattle.links.specs.Forward.{Labelled}

-- ---- three lists as blocks: the third only colours them

pub length_as : (cs ls ks : List ℕ) → length cs ≡ length ls → length cs ≤ length ks → length (blocks cs ls ks) ≡ length cs
unfolding blocks
length_as [] ls ks e f = refl
length_as (c ∷ cs) [] ks e f = absurd (omega arith)
length_as (c ∷ cs) (l ∷ ls) [] e f = absurd (omega arith)
length_as (c ∷ cs) (l ∷ ls) (k ∷ ks) e f = ap suc (length_as cs ls ks (omega arith) (omega arith))

pub code_as : (cs ls ks : List ℕ) → length cs ≡ length ls → length cs ≤ length ks → (i : ℕ) → i < length cs → (block_at (blocks cs ls ks) i).code ≡ get_or cs i 0
unfolding blocks
code_as [] ls ks e f i h = absurd (omega arith)
code_as (c ∷ cs) [] ks e f i h = absurd (omega arith)
code_as (c ∷ cs) (l ∷ ls) [] e f i h = absurd (omega arith)
code_as (c ∷ cs) (l ∷ ls) (k ∷ ks) e f zero h = refl
code_as (c ∷ cs) (l ∷ ls) (k ∷ ks) e f (suc i) h = code_as cs ls ks (omega arith) (omega arith) i (omega arith)

pub level_as : (cs ls ks : List ℕ) → length cs ≡ length ls → length cs ≤ length ks → (i : ℕ) → i < length cs → (block_at (blocks cs ls ks) i).level ≡ get_or ls i 0
unfolding blocks
level_as [] ls ks e f i h = absurd (omega arith)
level_as (c ∷ cs) [] ks e f i h = absurd (omega arith)
level_as (c ∷ cs) (l ∷ ls) [] e f i h = absurd (omega arith)
level_as (c ∷ cs) (l ∷ ls) (k ∷ ks) e f zero h = refl
level_as (c ∷ cs) (l ∷ ls) (k ∷ ks) e f (suc i) h = level_as cs ls ks (omega arith) (omega arith) i (omega arith)

pub colour_as : (cs ls ks : List ℕ) → length cs ≡ length ls → length cs ≤ length ks → (i : ℕ) → i < length cs → (block_at (blocks cs ls ks) i).colour ≡ get_or ks i 0
unfolding blocks
colour_as [] ls ks e f i h = absurd (omega arith)
colour_as (c ∷ cs) [] ks e f i h = absurd (omega arith)
colour_as (c ∷ cs) (l ∷ ls) [] e f i h = absurd (omega arith)
colour_as (c ∷ cs) (l ∷ ls) (k ∷ ks) e f zero h = refl
colour_as (c ∷ cs) (l ∷ ls) (k ∷ ks) e f (suc i) h = colour_as cs ls ks (omega arith) (omega arith) i (omega arith)

pixels_as : (cs ls ks vs : List ℕ) → length cs ≡ length ls → length cs ≤ length ks → length cs ≤ length vs → (i : ℕ) → pixels (take i (blocks cs ls ks)) ≡ pixels (take i (blocks cs ls vs))
unfolding blocks pixels
pixels_as [] ls ks vs e f g i = refl
pixels_as (c ∷ cs) [] ks vs e f g i = absurd (omega arith)
pixels_as (c ∷ cs) (l ∷ ls) [] vs e f g i = absurd (omega arith)
pixels_as (c ∷ cs) (l ∷ ls) (k ∷ ks) [] e f g i = absurd (omega arith)
pixels_as (c ∷ cs) (l ∷ ls) (k ∷ ks) (v ∷ vs) e f g zero = refl
pixels_as (c ∷ cs) (l ∷ ls) (k ∷ ks) (v ∷ vs) e f g (suc i) = ap (λ (x : ℕ). 4 ^ l + x) (pixels_as cs ls ks vs (omega arith) (omega arith) (omega arith) i)

pub cover_as : (n sum : ℕ) (cs ls ks vs : List ℕ) → length cs ≡ length ls → length cs ≤ length ks → length cs ≤ length vs
    → cover n sum (blocks cs ls ks) ≡ cover n sum (blocks cs ls vs)
unfolding blocks cover
cover_as n sum [] ls ks vs e f g = refl
cover_as n sum (c ∷ cs) [] ks vs e f g = absurd (omega arith)
cover_as n sum (c ∷ cs) (l ∷ ls) [] vs e f g = absurd (omega arith)
cover_as n sum (c ∷ cs) (l ∷ ls) (k ∷ ks) [] e f g = absurd (omega arith)
cover_as n sum (c ∷ cs) (l ∷ ls) (k ∷ ks) (v ∷ vs) e f g =
    ap (first (fault_of n sum c l)) (cover_as n (sum + 4 ^ l) cs ls ks vs (omega arith) (omega arith) (omega arith))

-- ---- the labels of an accepted list for colours

module _ (n : ℕ) (cs ls ks : List ℕ) (accepted : number n cs ls ks ≡ 0) (old : List ℕ) (room : length cs ≤ length old) where
  abbrev bs : List Block
  bs = blocks cs ls ks

  abbrev nums : List ℕ
  nums = numbers n (paint (blocks cs ls ks))

  -- The blocks with what the numbering leaves in the label list.
  abbrev bs' : List Block
  bs' = blocks cs ls (over (labels n (blocks cs ls ks)) old)

  equal : length cs ≡ length ls
  equal = (number-zero n cs ls ks accepted).equal_levels

  enough : length cs ≤ length ks
  enough = omega (arith, equal, (number-zero n cs ls ks accepted).equal_colours)

  covered : cover n 0 bs ≡ 0
  covered = (number-zero n cs ls ks accepted).covering

  count : length bs ≡ length cs
  count = length_as cs ls ks equal enough

  pub labels_room : length cs ≤ length (over (labels n (blocks cs ls ks)) old)
  labels_room = omega (arith, length_over (labels n bs) old (omega (arith, length-labels n bs, count)))

  count' : length bs' ≡ length cs
  count' = length_as cs ls (over (labels n bs) old) equal labels_room

  pub relabelled_covers : cover n 0 (blocks cs ls (over (labels n (blocks cs ls ks)) old)) ≡ 0
  relabelled_covers = cover_as n 0 cs ls (over (labels n bs) old) ks equal labels_room enough ∙ covered

  label_at : (i : ℕ) → i < length cs → (block_at bs' i).colour ≡ get_or (labels n bs) i 0
  label_at i h = colour_as cs ls (over (labels n bs) old) equal labels_room i h ∙ over_inside (labels n bs) old i (omega (arith, length-labels n bs, count))

  held : (i c : ℕ) → HoldsAt bs' i c → HoldsAt bs i c
  held i c h =
      let p = pixels_as cs ls ks (over (labels n bs) old) equal enough labels_room in
      record { place = omega (arith, h.place, count, count'); from = omega (arith, p i, h.from); before = omega (arith, p (suc i), h.before) }

  number_of_held : (i c : ℕ) → HoldsAt bs' i c → (block_at bs' i).colour ≡ get_or nums c 0
  number_of_held i c h = label_at i (omega (arith, h.place, count')) ∙ label_of_held n bs covered i c (held i c h)

  -- It paints the region numbers.
  pub relabelled_paints : paint (blocks cs ls (over (labels n (blocks cs ls ks)) old)) ≡ numbers n (paint (blocks cs ls ks))
  relabelled_paints =
      ext_get_or 0 (paint bs') nums (long ∙ sym (length-numbers n (paint bs)))
      (λ c h.
      let p : HoldsAt bs' (holder bs' c) c = pixel_held n bs' relabelled_covers c (omega (arith, long)) in
      held_colour bs' (holder bs' c) c p ∙ number_of_held (holder bs' c) c p)
    where
      long : length (paint bs') ≡ 4 ^ n
      long = length-paint bs' ∙ all_pixels n bs' relabelled_covers

  pub few_regions : regions n (paint (blocks cs ls ks)) ≤ 4 ^ n
  few_regions = omega (arith, regions_counted_lem n (paint bs), below_most (rep (alike_pairs n (paint bs) (4 ^ n))) (4 ^ n))

  pub relabelled : Labelled n (blocks cs ls (over (labels n (blocks cs ls ks)) old))
  relabelled = record {
    small = (number-zero n cs ls ks accepted).small;
    covering = relabelled_covers;
    known = λ i h.
        let p = first_pixel_held n bs' relabelled_covers i h in
        let c : ℕ = pixels (take i bs') in
        omega (arith, number_of_held i c p, number-below-regions n (paint bs) c (held_in_image n bs' relabelled_covers i c p), few_regions);
    counted = λ i v h less.
        let p = first_pixel_held n bs' relabelled_covers i h in
        let c : ℕ = pixels (take i bs') in
        let w : Before (λ x. get_or nums x 0) c v =
        (numbers_are_region_numbers n (paint bs)).count_up c v (held_in_image n bs' relabelled_covers i c p) (omega (arith, number_of_held i c p)) in
        let d : ℕ = w.at in
        let q : HoldsAt bs' (holder bs' d) d = pixel_held n bs' relabelled_covers d (omega (arith, w.less, held_in_image n bs' relabelled_covers i c p)) in
        record { at = holder bs' d; less = (held-before bs' (holder bs' d) d i q).0 w.less; value = number_of_held (holder bs' d) d q ∙ w.value };
  }
