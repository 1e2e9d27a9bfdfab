-- "The dial from its outlines" (document 02, request f), where a caller stands who traces too: the list that is given back has the given
-- outlines when it is traced, and outlines that were traced give the traced list back.
use Rattle.std.specs.Prelude.{◌≡◌, List, take}
use Rattle.std.proofs.Math.Path.{sym, ap}
use Rattle.std.proofs.Common.{ap₂, ◌∙◌, arith, length-take-le}
use Prim.Native.Nat.{ℕ, suc, ◌^◌, ◌≤◌, ◌<◌}
use Rattle.std.proofs.Math.ListN.{length, get_or}
use Rattle.std.proofs.Math.Seq.{get_or-take, ext_get_or}
use Rattle.sequences.specs.Cases.{written_accepted}
use Rattle.sequences.specs.Over.{over, over_inside, take_over}
use Rattle.answers.specs.declared.Written.{Written}
use Rattle.quadtree.specs.Blocks.{Block, blocks, paint, pixels}
use Rattle.quadtree.specs.Number.{number}
use Rattle.quadtree.specs.Accepted.{Passes, number-zero}
use Rattle.quadtree.specs.BlockLists.{BlockList, list_of, accepted_covers, length_image}
use Rattle.block_answers.specs.BlockWriters.{result_of, result_counted}
use Rattle.components.specs.Numbers.{numbers, labels}
use Rattle.components.proofs.Numbered.{length-numbers, number-below-regions}
use Rattle.components.specs.Holders.{HoldsAt, holder, held_colour, pixel_held, first_pixel_held, first_pixels_in_image}
use Rattle.components.proofs.Labels.{length-labels, label_of_held}
use Rattle.components.specs.Walk.{block-count}
use Rattle.grid.specs.Listing.{Cycle, owners, ends, all_corners, cycle_count, corner_count}
use Rattle.grid.specs.Stretches.{length-owners, length-ends}
use Rattle.links.specs.Image.{image_outlines}
use Rattle.links.specs.Relabelled.{colour_as}
use Rattle.tracing.specs.Tracing.{Lent, tracing_number, cycles_written, labels_left, Tracing}
use Rattle.tracing.specs.Tracing as tracing
use Rattle.tracing.specs.declared.Traced.{Traced}
use Rattle.given_outlines.specs.Given.{outline_lists, Given, given_as, up_to_counts, HasOutlines, ListHasGiven, coloured, coloured_at, length-coloured}
use Rattle.given_outlines.specs.Given.{cycles_of, cycles_are_outlines}
use Rattle.given_outlines.specs.Own.{region_colours, length-region-colours, colour_of_region}
use Rattle.restoring.specs.Promise.{Restoring}
use Rattle.restoring.specs.Lengths.{NeedsMet}
use Rattle.restoring.specs.Callers.{zero_exactly_when_an_accepted_list_has_it, result_has_given, no_other_has_given}
use Rattle.callers.specs.Demand3.{held_at, LongEnough, AtExit, needs_of, not_refused, accepted_only, accepted_at_exit}

-- The answer of a tracing of the list a, and what its lists hold, are as given, up to the counts; and each block has the colour given for the
-- region number that it has in the label list.
pub record TracedAsGiven (g : Given) (a : BlockList) (after : Lent) (t : Traced) : Type 0 where
  pub region-count : t.regions ≡ g.region_total
  pub cycle-count : t.cycles ≡ g.cycle_total
  pub corner-count : t.corners ≡ g.corner_total
  pub owners-alike : take t.cycles after.owner_list ≡ (up_to_counts g).owner_list
  pub ends-alike : take t.cycles after.end_list ≡ (up_to_counts g).end_list
  pub corners-alike : take t.corners after.corner_list ≡ (up_to_counts g).corner_list
  pub same_cycles : held_at after t ≡ cycles_of (up_to_counts g)
  pub colours_by_labels : (i : ℕ) → i < length a.codes → get_or a.colours i 0 ≡ get_or g.lists.colour_list (get_or after.label_list i 0) 0

-- What a tracing answered and wrote, with a colour for each region.
abbrev pub outlines_traced : Lent → Traced → List ℕ → Given
outlines_traced after t region_colours =
    given_as t.regions t.cycles t.corners (outline_lists after.owner_list after.end_list after.corner_list region_colours)

-- The list has a colour for each region: at the number that a block has in the label list, the colour of the block.
pub record ColourEach (ks label_list : List ℕ) (region_count : ℕ) (region_colours : List ℕ) : Type 0 where
  pub enough : region_count ≤ length region_colours
  pub each : (i : ℕ) → i < length ks → get_or ks i 0 ≡ get_or region_colours (get_or label_list i 0) 0

module _ {n : ℕ} {cs ls ks : List ℕ} {before after : Lent} {t : Traced} (q : Tracing n cs ls ks before after t) (ok : t.number ≡ 0) where
  bs : List Block
  bs = blocks cs ls ks

  px : List ℕ
  px = paint (blocks cs ls ks)

  l : List Cycle
  l = image_outlines n (paint (blocks cs ls ks))

  exit : AtExit n cs ls ks before after t
  exit = accepted_at_exit q ok

  accepted : number n cs ls ks ≡ 0
  accepted = (accepted_only q ok).accepted

  covers : Passes n cs ls ks
  covers = number-zero n cs ls ks accepted

  none : tracing_number n cs ls ks before ≡ 0
  none = sym (ap (λ (a : Traced). a.number) q.answer) ∙ ok

  written : cycles_written n cs ls ks before ≡ l
  unfolding l cycles_written tracing.outlines_of
  written = written_accepted (tracing_number n cs ls ks before) l none

  cycles_are : t.cycles ≡ length l
  unfolding cycle_count
  cycles_are = ap (λ (a : Traced). a.cycles) q.answer ∙ ap length written

  corners_are : t.corners ≡ corner_count l
  corners_are = ap (λ (a : Traced). a.corners) q.answer ∙ ap corner_count written

  front : (new old list : List ℕ) (k : ℕ) → list ≡ over new old → length new ≡ k → take k list ≡ new
  front new old list k e h = ap₂ (λ (i : ℕ) (s : List ℕ). take i s) (sym h) e ∙ take_over new old

  owners-front : take t.cycles after.owner_list ≡ owners l
  owners-front = front (owners l) before.owner_list after.owner_list t.cycles
      (q.in_owners ∙ ap (λ c. over (owners c) before.owner_list) written) (length-owners l ∙ sym cycles_are)

  ends-front : take t.cycles after.end_list ≡ ends l
  ends-front = front (ends l) before.end_list after.end_list t.cycles
      (q.in_ends ∙ ap (λ c. over (ends c) before.end_list) written) (length-ends l ∙ sym cycles_are)

  corners-front : take t.corners after.corner_list ≡ all_corners l
  unfolding corner_count
  corners-front = front (all_corners l) before.corner_list after.corner_list t.corners
      (q.in_corners ∙ ap (λ c. over (all_corners c) before.corner_list) written) (sym corners_are)

  -- A block has in the label list the region number of each pixel that it holds, and these have its colour.
  label_is_number : (i c : ℕ) → HoldsAt bs i c → get_or after.label_list i 0 ≡ get_or (numbers n px) c 0
  unfolding bs px labels_left
  label_is_number i c h =
      ap (λ s. get_or s i 0) (q.in_labels ∙ ap (λ s. over s before.label_list) (written_accepted (tracing_number n cs ls ks before) (labels n bs) none))
      ∙ over_inside (labels n bs) before.label_list i (omega (arith, length-labels n bs, h.place))
      ∙ label_of_held n bs covers.covering i c h

  colour_of_block : (i c : ℕ) → HoldsAt bs i c → get_or px c 0 ≡ get_or ks i 0
  unfolding bs px
  colour_of_block i c h =
      held_colour bs i c h
      ∙ colour_as cs ls ks covers.equal_levels (omega (arith, covers.equal_levels, covers.equal_colours)) i (omega (arith, h.place, block-count covers))

  -- A list that has what is given is traced as given.
  traced_as_given : {g : Given} → ListHasGiven n g (list_of cs ls ks) → TracedAsGiven g (list_of cs ls ks) after t
  unfolding bs px l tracing.outlines_of
  traced_as_given {g} h =
      let o : HasOutlines n (up_to_counts g) (paint (blocks cs ls ks)) = h.has.same_up_to_counts in
      record {
        region-count = exit.region-count ∙ h.has.region-count;
        cycle-count = cycles_are ∙ h.has.cycle-count;
        corner-count = corners_are ∙ h.has.corner-count;
        owners-alike = owners-front ∙ o.owners_are;
        ends-alike = ends-front ∙ o.ends_are;
        corners-alike = corners-front ∙ o.corners_are;
        same_cycles = exit.lists ∙ sym (cycles_are_outlines o);
        colours_by_labels = λ i b.
            let held = first_pixel_held n bs covers.covering i (omega (arith, block-count covers)) in
            let c : ℕ = pixels (take i bs) in
            let inside : c < 4 ^ n = omega (arith, held.before, first_pixels_in_image n bs covers.covering (suc i)) in
            sym (colour_of_block i c held)
            ∙ ap (λ s. get_or s c 0) o.colours_are
            ∙ coloured_at (up_to_counts g).colour_list (numbers n px) c (omega (arith, length-numbers n px))
            ∙ get_or-take g.region_total g.lists.colour_list (get_or (numbers n px) c 0) 0 (omega (arith, number-below-regions n px c inside, h.has.region-count))
            ∙ ap (λ v. get_or g.lists.colour_list v 0) (sym (label_is_number i c held));
      }

  traced_has : (region_colours : List ℕ) → ColourEach ks after.label_list t.regions region_colours
      → ListHasGiven n (outlines_traced after t region_colours) (list_of cs ls ks)
  unfolding bs px l
  traced_has region_colours shade = record {
    accepted = accepted;
    has = record {
      region-count = sym exit.region-count;
      cycle-count = sym cycles_are;
      corner-count = sym corners_are;
      same_up_to_counts = record {
        owners_are = sym owners-front;
        ends_are = sym ends-front;
        corners_are = sym corners-front;
        a_colour_each_lem = sym (length-take-le t.regions region_colours shade.enough ∙ exit.region-count);
        colours_are =
            ext_get_or 0 px (coloured (take t.regions region_colours) (numbers n px))
            (whole ∙ sym (length-coloured (take t.regions region_colours) (numbers n px) ∙ length-numbers n px))
            (λ c b.
            let inside : c < 4 ^ n = omega (arith, whole) in
            let i : ℕ = holder bs c in
            let held : HoldsAt bs i c = pixel_held n bs covers.covering c inside in
            colour_of_block i c held
            ∙ shade.each i (omega (arith, held.place, block-count covers, covers.equal_levels, covers.equal_colours))
            ∙ ap (λ v. get_or region_colours v 0) (label_is_number i c held)
            ∙ sym (get_or-take t.regions region_colours (get_or (numbers n px) c 0) 0 (omega (arith, number-below-regions n px c inside, exit.region-count)))
            ∙ sym (coloured_at (take t.regions region_colours) (numbers n px) c (omega (arith, length-numbers n px))));
      };
    };
  }
    where
      whole : length (paint (blocks cs ls ks)) ≡ 4 ^ n
      whole = length_image n (list_of cs ls ks) (accepted_covers n (list_of cs ls ks) accepted)

  -- Conversely, for every accepted list: its own outlines, as the tracing wrote them, and its colours give that very list back.
  pub traced_is_given_back : (region_colours : List ℕ) → ColourEach ks after.label_list t.regions region_colours
      → {lent back : BlockList} {work₀ work₁ : List ℕ} {r : Written} → NeedsMet n lent work₀
      → Restoring n (outlines_traced after t region_colours) lent work₀ back work₁ r → (r.number ≡ 0) × (result_of back r ≡ list_of cs ls ks)
  traced_is_given_back region_colours shade met p =
      let z = (zero_exactly_when_an_accepted_list_has_it p covers.small met).1 (list_of cs ls ks, traced_has region_colours shade) in
      (z, no_other_has_given p z (list_of cs ls ks) (traced_has region_colours shade))

  -- There is such a list of colours.
  pub some_colours : (region_colours : List ℕ) × ColourEach ks after.label_list t.regions region_colours
  unfolding bs px
  some_colours = (
    region_colours n px,
    record {
      enough = omega (arith, length-region-colours n px, exit.region-count);
      each = λ i b.
          let held = first_pixel_held n bs covers.covering i (omega (arith, block-count covers, covers.equal_levels, covers.equal_colours)) in
          let c : ℕ = pixels (take i bs) in
          sym (colour_of_block i c held)
          ∙ colour_of_region n px c (omega (arith, held.before, first_pixels_in_image n bs covers.covering (suc i)))
          ∙ ap (λ v. get_or (region_colours n px) v 0) (sym (label_is_number i c held));
    },
  )

-- "When it is given back, tracing it yields the same cycles": with lent lists of at least the stated lengths, the tracing of the result answers
-- 0, with the given counts, owners, ends, corners and region colours.
pub tracing_yields_the_same : {n : ℕ} {g : Given} {before after : BlockList} {work₀ work₁ : List ℕ} {r : Written} → Restoring n g before work₀ after work₁ r
    → r.number ≡ 0 → {lent left : Lent} {t : Traced} → LongEnough n r.count lent
    → Tracing n (result_of after r).codes (result_of after r).levels (result_of after r).colours lent left t
    → (t.number ≡ 0) × TracedAsGiven g (result_of after r) left t
tracing_yields_the_same {after = after} {r = r} p ok long q =
    let h = result_has_given p ok in
    let z = not_refused q (needs_of h.accepted (omega (arith, result_counted p.writes ok)) long) in
    (z, traced_as_given q z h)
