-- "Areas that add up" (document 02, request d): the tracing and blocks to raster of one list, where a caller of both stands.
use Rattle.std.specs.Prelude.{◌≡◌, refl, ℕ, ◌/◌, ◌%◌, ◌^◌, ◌≤◌, ◌<◌, length, take, ℤ, pos}
use Rattle.std.proofs.Math.Path.{sym, ap}
use Rattle.std.proofs.Common.{ap₂, ◌∙◌}
use mathlib.Core.List.{List, [], ◌∷◌, map}
use native.Mathlib.Omega.{arith}
use Rattle.std.proofs.Math.ListN.{get_or}
use Rattle.std.specs.Int.Signed.{mag}
use Rattle.sequences.specs.Differences.{mag_within_size}
use Rattle.sequences.specs.Over.{take_over}
use Rattle.sequences.specs.Ranges.{range, tabulate, tabulate_at, tabulate_same}
use Rattle.interleaving.specs.Codes.{code}
use Rattle.interleaving.specs.Interleaving.{code_below}
use Rattle.quadtree.specs.Blocks.{Block, blocks, paint}
use Rattle.quadtree.specs.Raster.{in_code_order, in_rows}
use Rattle.quadtree.specs.Orders.{length_in_rows, code_order_after_rows}
use Rattle.quadtree.specs.BlockLists.{list_of, accepted_covers, length_image}
use Rattle.components.specs.Numbers.{numbers, regions}
use Rattle.grid.specs.Listing.{owners, areas}
use Rattle.grid.specs.Stretches.{length-owners, length-areas}
use Rattle.winding.specs.Tallies.{occurrences}
use Rattle.winding.specs.Totals.{total, areas_of}
use Rattle.winding.specs.RegionAreas.{areas_of_region_add, areas_of_regions_add, all_areas_add}
use Rattle.winding.specs.Sizes.{sizes, size_of_total, sizes_of_region, sizes_of_first, areas_together_fit}
use Rattle.answers.specs.declared.Written.{Written}
use Rattle.painting.specs.Promise.{ToRaster}
use Rattle.painting.specs.Callers.{painted}
use Rattle.regions.specs.Callers.{label_of_pixel}
use Rattle.tracing.specs.Tracing.{Lent, outlines_of, Tracing, Needs}
use Rattle.tracing.specs.declared.Traced.{Traced}
use Rattle.callers.specs.Demand3.{numbers_of, not_refused, small, known, cycles_are, owners_are, areas_are, accepted_at_exit}

-- The region numbers of a raster's pixels, "row by row, north row first" (document 01) as the raster itself, by its colours alone: paths of
-- one colour join pixels (demand 2).
unfoldable pub numbers_in_rows : ℕ → List ℕ → List ℕ
unfolding in_rows numbers in_code_order
numbers_in_rows n raster = in_rows n (numbers n (in_code_order n raster))

-- The same by the labels at exit, for as many places as the raster has: at each the label of the block that holds the pixel.
unfoldable pub labels_in_rows : ℕ → List Block → List ℕ → List ℕ → List ℕ
unfolding tabulate label_of_pixel code
labels_in_rows n bs label_list raster = tabulate (length raster) (λ i. label_of_pixel bs label_list (code n (i % 2 ^ n) (i / 2 ^ n)))

-- Four blocks of 2 by 2, the west ones of one colour and the east ones of another.
halves : (numbers_in_rows 2 (1 ∷ 1 ∷ 2 ∷ 2 ∷ 1 ∷ 1 ∷ 2 ∷ 2 ∷ 1 ∷ 1 ∷ 2 ∷ 2 ∷ 1 ∷ 1 ∷ 2 ∷ 2 ∷ [])
    ≡ 0 ∷ 0 ∷ 1 ∷ 1 ∷ 0 ∷ 0 ∷ 1 ∷ 1 ∷ 0 ∷ 0 ∷ 1 ∷ 1 ∷ 0 ∷ 0 ∷ 1 ∷ 1 ∷ [])
    × (labels_in_rows 2 (blocks (0 ∷ 4 ∷ 8 ∷ 12 ∷ []) (1 ∷ 1 ∷ 1 ∷ 1 ∷ []) (1 ∷ 2 ∷ 1 ∷ 2 ∷ [])) (0 ∷ 1 ∷ 0 ∷ 1 ∷ [])
    (1 ∷ 1 ∷ 2 ∷ 2 ∷ 1 ∷ 1 ∷ 2 ∷ 2 ∷ 1 ∷ 1 ∷ 2 ∷ 2 ∷ 1 ∷ 1 ∷ 2 ∷ 2 ∷ [])
    ≡ 0 ∷ 0 ∷ 1 ∷ 1 ∷ 0 ∷ 0 ∷ 1 ∷ 1 ∷ 0 ∷ 0 ∷ 1 ∷ 1 ∷ 0 ∷ 0 ∷ 1 ∷ 1 ∷ [])
unfolding numbers_in_rows labels_in_rows blocks
halves = (refl, refl)

-- The areas at exit of the first k cycles, and of these the ones whose owner is v.
abbrev pub areas_at : Lent → ℕ → List ℤ
areas_at after k = take k after.area_list

abbrev pub areas_owned : Lent → ℕ → ℕ → List ℤ
areas_owned after k v = areas_of v (take k after.owner_list) (take k after.area_list)

-- What adds up in the lists that the tracing left, for the raster of the same block list.
pub record AreasAddUp (n : ℕ) (cs ls ks raster : List ℕ) (after : Lent) (r : Traced) : Type 0 where
  -- "the areas of a region's cycles must add to its number of pixels, counted from the raster and not from the areas": of the places of the
  -- raster, those with the number v, by its colours and by the labels at exit.
  pub region_adds : (v : ℕ) → total (areas_owned after r.cycles v) ≡ pos (occurrences v (numbers_in_rows n raster))
  pub region_adds_by_labels : (v : ℕ) → total (areas_owned after r.cycles v) ≡ pos (occurrences v (labels_in_rows n (blocks cs ls ks) after.label_list raster))
  -- Both give each place the same number.
  pub one_numbering : labels_in_rows n (blocks cs ls ks) after.label_list raster ≡ numbers_in_rows n raster
  -- "Over all regions they add to 4^n": region after region, and cycle after cycle.
  pub regions-add : total (map (λ v. total (areas_owned after r.cycles v)) (range 0 r.regions)) ≡ pos (4 ^ n)
  pub all_add : total (areas_at after r.cycles) ≡ pos (4 ^ n)
  -- Who adds them in 32 bits, cycle after cycle, may do so: after k cycles the sum of a region and that of all are within.
  pub region_sums_fit : (v k : ℕ) → k ≤ r.cycles → mag (total (areas_owned after k v)) < 2147483648
  pub all_sums_fit : (k : ℕ) → k ≤ r.cycles → mag (total (areas_at after k)) < 2147483648

-- ---- the tracing alone: the pixels are those of the image that the list paints

module _ {n : ℕ} {cs ls ks : List ℕ} {before after : Lent} {r : Traced} (p : Tracing n cs ls ks before after r) (ok : r.number ≡ 0) where
  owners_at_exit : take r.cycles after.owner_list ≡ owners (outlines_of n cs ls ks)
  owners_at_exit =
      ap₂ take (cycles_are p ok ∙ sym (length-owners (outlines_of n cs ls ks))) (owners_are p ok) ∙ take_over (owners (outlines_of n cs ls ks)) before.owner_list

  areas_at_exit : areas_at after r.cycles ≡ areas (outlines_of n cs ls ks)
  areas_at_exit =
      ap₂ take (cycles_are p ok ∙ sym (length-areas (outlines_of n cs ls ks))) (areas_are p ok) ∙ take_over (areas (outlines_of n cs ls ks)) before.area_list

  owned_at_exit : (v : ℕ) → areas_owned after r.cycles v ≡ areas_of v (owners (outlines_of n cs ls ks)) (areas (outlines_of n cs ls ks))
  owned_at_exit v = ap₂ (areas_of v) owners_at_exit areas_at_exit

  pub areas_of_region_at_exit_add : (v : ℕ) → total (areas_owned after r.cycles v) ≡ pos (occurrences v (in_rows n (numbers_of n cs ls ks)))
  unfolding outlines_of
  areas_of_region_at_exit_add v =
      ap total (owned_at_exit v) ∙ areas_of_region_add n (numbers_of n cs ls ks) (small p ok) (regions n (paint (blocks cs ls ks))) (known p ok) v

  pub areas_of_regions_at_exit_add : total (map (λ v. total (areas_owned after r.cycles v)) (range 0 r.regions)) ≡ pos (4 ^ n)
  unfolding outlines_of
  areas_of_regions_at_exit_add =
      (λ i. total (map (λ v. total (owned_at_exit v i)) (range 0 ((accepted_at_exit p ok).region-count i))))
      ∙ areas_of_regions_add n (numbers_of n cs ls ks) (small p ok) (regions n (paint (blocks cs ls ks))) (known p ok)

  pub all_areas_at_exit_add : total (areas_at after r.cycles) ≡ pos (4 ^ n)
  unfolding outlines_of
  all_areas_at_exit_add = ap total areas_at_exit ∙ all_areas_add n (numbers_of n cs ls ks) (small p ok) (regions n (paint (blocks cs ls ks))) (known p ok)

  -- The areas of the first k cycles, some of them or all, add up within 32 bits.
  fits : (k : ℕ) → k ≤ r.cycles → (zs : List ℤ) → sizes zs ≤ sizes (areas_at after k) → mag (total zs) < 2147483648
  unfolding outlines_of
  fits k h zs some =
      let most = areas_together_fit n (numbers_of n cs ls ks) (small p ok) (regions n (paint (blocks cs ls ks))) in
      within (mag_within_size (total zs)) (size_of_total zs) some (sizes_of_first k r.cycles after.area_list h) (ap sizes areas_at_exit) most
    where
      within : {a b c d e f : ℕ} → a ≤ b → b ≤ c → c ≤ d → d ≤ e → e ≡ f → f < 2147483648 → a < 2147483648
      within ab bc cd de ef most = omega arith

  -- Row by row, the labels at exit are the region numbers.
  labels_are_numbers : (raster : List ℕ) → length raster ≡ 4 ^ n → labels_in_rows n (blocks cs ls ks) after.label_list raster ≡ in_rows n (numbers_of n cs ls ks)
  unfolding labels_in_rows in_rows
  labels_are_numbers raster whole =
      ap (λ (k : ℕ). tabulate k (λ i. label_of_pixel (blocks cs ls ks) after.label_list (code n (i % 2 ^ n) (i / 2 ^ n)))) whole
      ∙ tabulate_same (4 ^ n) _ (λ i. get_or (numbers_of n cs ls ks) (code n (i % 2 ^ n) (i / 2 ^ n)) 0) (λ i h. at (code n (i % 2 ^ n) (i / 2 ^ n)) (code_below n (i % 2 ^ n) (i / 2 ^ n)))
    where
      at : (c : ℕ) → c < 4 ^ n → label_of_pixel (blocks cs ls ks) after.label_list c ≡ get_or (numbers_of n cs ls ks) c 0
      at c h =
          sym (tabulate_at (4 ^ n) (label_of_pixel (blocks cs ls ks) after.label_list) c h)
          ∙ ap (λ (l : List ℕ). get_or l c 0) (accepted_at_exit p ok).numbers_by_labels

-- ---- both calls

-- Row by row, the numbers by the colours of an image's raster are those of the image.
numbers_of_raster : (n : ℕ) (raster px : List ℕ) → raster ≡ in_rows n px → length px ≡ 4 ^ n → numbers_in_rows n raster ≡ in_rows n (numbers n px)
unfolding numbers_in_rows
numbers_of_raster n raster px e whole = ap (λ (l : List ℕ). in_rows n (numbers n l)) (ap (in_code_order n) e ∙ code_order_after_rows n px whole)

-- For every accepted list, and lent lists of at least the stated lengths, whatever stood in them: both calls answer 0, the raster has 4^n
-- pixels, and the areas add up.
pub areas-add-up : {n : ℕ} {cs ls ks : List ℕ} {before after : Lent} {r : Traced} → Needs n cs ls ks before → Tracing n cs ls ks before after r
    → {old raster : List ℕ} {s : Written} → 4 ^ n ≤ length old → ToRaster n cs ls ks old raster s
    → (r.number ≡ 0) × (s.number ≡ 0) × (s.count ≡ 4 ^ n) × AreasAddUp n cs ls ks (take s.count raster) after r
areas-add-up {n} {cs} {ls} {ks} {before} {after} {r} met p {old} {raster} {s} room q =
    let ok : r.number ≡ 0 = not_refused p met in
    let px : List ℕ = paint (blocks cs ls ks) in
    let done = painted met.accepted room q in
    let pixels : List ℕ = take s.count raster in
    let whole : length pixels ≡ 4 ^ n = ap length done.2 ∙ length_in_rows n px in
    let by_labels : labels_in_rows n (blocks cs ls ks) after.label_list pixels ≡ in_rows n (numbers_of n cs ls ks) = labels_are_numbers p ok pixels whole in
    let by_colours : numbers_in_rows n pixels ≡ in_rows n (numbers_of n cs ls ks) =
    numbers_of_raster n pixels px done.2 (length_image n (list_of cs ls ks) (accepted_covers n (list_of cs ls ks) met.accepted)) in (
      ok,
      done.0,
      done.1,
      record {
        region_adds = λ v. areas_of_region_at_exit_add p ok v ∙ ap (λ (l : List ℕ). pos (occurrences v l)) (sym by_colours);
        region_adds_by_labels = λ v. areas_of_region_at_exit_add p ok v ∙ ap (λ (l : List ℕ). pos (occurrences v l)) (sym by_labels);
        one_numbering = by_labels ∙ sym by_colours;
        regions-add = areas_of_regions_at_exit_add p ok;
        all_add = all_areas_at_exit_add p ok;
        region_sums_fit = λ v k h. fits p ok k h (areas_owned after k v) (sizes_of_region v (take k after.owner_list) (take k after.area_list));
        all_sums_fit = λ k h. fits p ok k h (areas_at after k) (omega arith);
      },
    )
