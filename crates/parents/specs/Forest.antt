-- What a caller knows of the parents that were found: they make a forest, each below its children; and how the work list is cleared again.
use Rattle.std.specs.Prelude.{◌≡◌, refl, List, ℕ, zero, suc, ◌+◌, ◌*◌, ◌^◌, ◌≤◌, ◌<◌, length, get_or}
use Rattle.std.proofs.Common.{sym, ap, ◌∙◌, subst, arith, ext_get_or}
use Rattle.std.proofs.Math.Decide.{dec_lt}
use Rattle.sequences.specs.Fill.{fill, length-fill, fill-inside, fill-beyond}
use Rattle.sequences.specs.Powers.{pow4_mono}
use Rattle.sequences.specs.Induction.{strong}
use Rattle.unions.specs.Counting.{Before, CountsUp}
use Rattle.location.specs.Levels.{pixels_of, pixels_are_power}
use Rattle.quadtree.specs.Blocks.{Block, blocks, paint}
use Rattle.components.specs.Holders.{block_at, holder, HoldsAt, held_colour, pixel_held}
use Rattle.components.specs.Numbers.{numbers, regions}
use Rattle.components.proofs.Numbered.{regions_at_most_pixels, each_number_given}
use Rattle.links.specs.Relabelled.{length_as}
use Rattle.forests.specs.Forest.{ParentsBelow}
use Rattle.surrounding.specs.Parents.{parent_of}
use Rattle.surrounding.specs.Ancestors.{parents-below}
use Rattle.parents.specs.Promise.{RegionsNumbered, ParentsFound}

-- Numbers that count up are no larger than their places.
counted_low : (N : ℕ) (f : ℕ → ℕ) → CountsUp N f → (i : ℕ) → i < N → f i ≤ i
counted_low N f up i h = strong (λ (i : ℕ). i < N → f i ≤ i) (λ i ih h. pick i ih h (f i) refl) i h
  where
    pick : (i : ℕ) → ((k : ℕ) → k < i → k < N → f k ≤ k) → i < N → (v : ℕ) → f i ≡ v → f i ≤ i
    pick i ih h zero e = omega arith
    pick i ih h (suc v) e =
        let b : Before f i v = up i v h (omega arith) in
        omega (arith, ih b.at b.less (omega (arith, b.less)), b.less, b.value)

module _ {n count : ℕ} {codes levels labels work : List ℕ} (ok : RegionsNumbered n count codes levels labels work) where
  -- There are no more regions than blocks: the last region has one.
  pub regions_at_most_blocks : count ≤ length codes
  regions_at_most_blocks = pick count refl
    where
      pick : (k : ℕ) → count ≡ k → count ≤ length codes
      pick zero e = omega arith
      pick (suc k) e =
          let f = each_number_given n ok.image k (omega (arith, ok.counted)) in
          let bs : List Block = blocks codes levels labels in
          let p : HoldsAt bs (holder bs f.pixel) f.pixel = pixel_held n bs ok.labelled.covering f.pixel f.first.inside in
          omega (
            arith,
            counted_low (length bs) (λ (i : ℕ). (block_at bs i).colour) ok.labelled.counted (holder bs f.pixel) p.place,
            held_colour bs (holder bs f.pixel) f.pixel p,
            ap (λ (m : List ℕ). get_or m f.pixel 0) ok.numbered,
            f.value,
            p.place,
            length_as codes levels labels ok.equal ok.enough,
          )

  -- Parents have smaller numbers.
  pub parents_lower : ParentsBelow count (parent_of n (paint (blocks codes levels labels)))
  parents_lower =
      subst (λ (m : List ℕ). ParentsBelow count (parent_of n m)) (sym ok.numbered)
      (subst (λ (k : ℕ). ParentsBelow k (parent_of n (numbers n ok.image))) (sym ok.counted) (parents-below n ok.image ok.labelled.small))

  module _ {found : List ℕ} (p : ParentsFound n count codes levels labels work found) {whole : ℕ} (size : whole ≡ pixels_of n) where
    whole_is : whole ≡ 4 ^ n
    whole_is = size ∙ pixels_are_power n (omega (arith, ok.labelled.small))

    pub parents_are : (v : ℕ) → v < count → get_or found (whole + v) 0 ≡ parent_of n (paint (blocks codes levels labels)) v
    parents_are v h = ap (λ (w : ℕ). get_or found (w + v) 0) whole_is ∙ p.parents v h

    -- An entry for each region in front of the parents, and one for each parent.
    pub record RegionsFit : Type 0 where
      pub small : whole ≤ 65536
      pub low : count ≤ whole
      pub fits : count ≤ 4 ^ n
      pub room : whole + count ≤ length found

    pub regions_fit : RegionsFit
    regions_fit =
        let few : regions n ok.image ≤ 4 ^ n = regions_at_most_pixels n ok.image in
        let most : 4 ^ n ≤ 65536 = pow4_mono ok.labelled.small in
        record {
          small = omega (arith, whole_is);
          low = omega (arith, ok.counted, whole_is);
          fits = omega (arith, ok.counted);
          room = omega (arith, ok.counted, whole_is, p.long, ok.room);
        }

    -- Where the work list was blank as far as it is needed, clearing it up to the last parent leaves it as it was.
    pub cleared : (used : List ℕ) → ((j : ℕ) → j < 2 * 4 ^ n → get_or work j 0 ≡ 0) → length used ≡ length found
        → ((j : ℕ) → whole + count ≤ j → get_or used j 0 ≡ get_or found j 0) → fill used 0 (whole + count) 0 ≡ work
    cleared used zeros long beyond =
        ext_get_or 0 (fill used 0 (whole + count) 0) work (length-fill used 0 (whole + count) 0 ∙ long ∙ p.long) (λ j h. pick j (dec_lt j (whole + count)))
      where
        pick : (j : ℕ) → Dec (j < whole + count) → get_or (fill used 0 (whole + count) 0) j 0 ≡ get_or work j 0
        pick j (yes h) =
            fill-inside used 0 (whole + count) 0 j (omega (arith, long, regions_fit.room)) (omega arith) (omega arith)
            ∙ sym (zeros j (omega (arith, regions_fit.fits, whole_is)))
        pick j (no h) = fill-beyond used 0 (whole + count) 0 j (omega arith) ∙ beyond j (omega arith) ∙ p.beyond j (omega (arith, whole_is))
