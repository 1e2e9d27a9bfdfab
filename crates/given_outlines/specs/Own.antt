-- The outlines of an image and the colours of its regions are given of it: every accepted list has some.
use Rattle.std.specs.Prelude.{◌≡◌, List}
use Rattle.std.proofs.Math.Path.{refl, sym, ap}
use Rattle.std.proofs.Common.{◌∙◌, arith}
use Prim.Native.Nat.{ℕ, ◌^◌, ◌≤◌, ◌<◌}
use Rattle.std.proofs.Math.ListN.{length, get_or, take}
use Rattle.std.proofs.Math.Seq.{ext_get_or, take-length}
use Rattle.sequences.specs.Ranges.{tabulate, length-tabulate, tabulate_at}
use Rattle.orbits.specs.Finding.{place_of, place-first, place-holds}
use Rattle.quadtree.specs.BlockLists.{BlockList, image_of, number_of, accepted_covers, length_image}
use Rattle.components.proofs.Joined.{connected_colour}
use Rattle.components.specs.Numbers.{numbers, regions}
use Rattle.components.proofs.Numbered.{length-numbers, number-below-regions, one_number_exactly_when_joined}
use Rattle.grid.specs.Listing.{owners, ends, all_corners, corner_count}
use Rattle.grid.specs.Stretches.{length-owners, length-ends}
use Rattle.links.specs.Image.{image_outlines}
use Rattle.given_outlines.specs.Given.{outline_lists, Given, given_as, HasGiven, ListHasGiven, coloured, coloured_at, length-coloured}

-- The colour of each region of an image: that of the first pixel with its number.
unfoldable pub region_colours : ℕ → List ℕ → List ℕ
unfolding tabulate place_of numbers
region_colours n px = tabulate (regions n px) (λ v. get_or px (place_of v (numbers n px)) 0)

-- What is given where the image is known.
abbrev pub own_outlines : ℕ → List ℕ → Given
own_outlines n px =
    given_as (regions n px) (length (image_outlines n px)) (corner_count (image_outlines n px))
    (outline_lists (owners (image_outlines n px)) (ends (image_outlines n px)) (all_corners (image_outlines n px)) (region_colours n px))

module _ (n : ℕ) (px : List ℕ) where
  pub length-region-colours : length (region_colours n px) ≡ regions n px
  unfolding region_colours
  length-region-colours = length-tabulate (regions n px) (λ v. get_or px (place_of v (numbers n px)) 0)

  -- A pixel has the colour of its region.
  pub colour_of_region : (c : ℕ) → c < 4 ^ n → get_or px c 0 ≡ get_or (region_colours n px) (get_or (numbers n px) c 0) 0
  unfolding region_colours
  colour_of_region c h =
      let v : ℕ = get_or (numbers n px) c 0 in
      let b : c < length (numbers n px) = omega (arith, length-numbers n px) in
      let first : place_of v (numbers n px) ≤ c = place-first v (numbers n px) c b refl in
      connected_colour ((one_number_exactly_when_joined n px (place_of v (numbers n px)) c (omega arith) h).0 (place-holds v (numbers n px) (c, b, refl)))
      ∙ sym (tabulate_at (regions n px) (λ u. get_or px (place_of u (numbers n px)) 0) v (number-below-regions n px c h))

  pub has_own : length px ≡ 4 ^ n → HasGiven n (own_outlines n px) px
  unfolding corner_count
  has_own whole = record {
    region-count = refl;
    cycle-count = refl;
    corner-count = refl;
    same_up_to_counts = record {
      owners_are = sym (ap (λ k. take k (owners (image_outlines n px))) (sym (length-owners (image_outlines n px))) ∙ take-length (owners (image_outlines n px)));
      ends_are = sym (ap (λ k. take k (ends (image_outlines n px))) (sym (length-ends (image_outlines n px))) ∙ take-length (ends (image_outlines n px)));
      corners_are = sym (take-length (all_corners (image_outlines n px)));
      a_colour_each_lem = sym (ap length all ∙ length-region-colours);
      colours_are =
          ext_get_or 0 px (coloured (region_colours n px) (numbers n px)) (whole ∙ sym (length-coloured (region_colours n px) (numbers n px) ∙ length-numbers n px))
          (λ i b.
          let c : i < 4 ^ n = omega (arith, whole) in
          colour_of_region i c ∙ sym (coloured_at (region_colours n px) (numbers n px) i (omega (arith, length-numbers n px))))
          ∙ ap (λ ks. coloured ks (numbers n px)) (sym all);
    };
  }
    where
      all : take (regions n px) (region_colours n px) ≡ region_colours n px
      all = ap (λ k. take k (region_colours n px)) (sym length-region-colours) ∙ take-length (region_colours n px)

pub accepted_has_own : (n : ℕ) (a : BlockList) → number_of n a ≡ 0 → ListHasGiven n (own_outlines n (image_of a)) a
accepted_has_own n a e = record { accepted = e; has = has_own n (image_of a) (length_image n a (accepted_covers n a e)) }
