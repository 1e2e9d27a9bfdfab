-- From the labels of the blocks to all outlines: the links, the map, the listing, and the work list cleared.
use Rattle.std.specs.Prelude.{◌≡◌, refl, ℤ}
use Rattle.std.proofs.Math.Path.{sym, ap}
use Rattle.std.proofs.Common.{◌∙◌, arith, ext_get_or}
use mathlib.Core.List.{List, [], ◌∷◌}
use Prim.Native.Nat.{ℕ, ◌+◌, ◌*◌, ◌^◌, ◌≤◌, ◌<◌}
use Rattle.std.proofs.Math.Decide.{dec_lt}
use Rattle.std.proofs.Math.ListN.{length, get_or, replicate}
use Rattle.std.proofs.lemmas.List.{length-replicate, get_or-replicate}
use Rattle.sequences.specs.Fill.{fill, length-fill, fill-inside, fill-beyond}
use Rattle.sequences.specs.Over.{over, over_none, length_over, over_inside, over_beyond}
use Rattle.sequences.specs.Powers.{pow4_pos, pow4_mono}
use Rattle.location.specs.Levels.{pixels_of, pixels_are_power}
use Rattle.quadtree.specs.Blocks.{Block, blocks, pixels, paint}
use Rattle.quadtree.specs.Raster.{in_rows}
use Rattle.staircase.specs.FirstBlocks.{all_pixels}
use Rattle.grid.specs.Listing.{Cycle, listing, owners, ends, all_corners, areas, cycle_count, corner_count}
use Rattle.links.specs.Linking.{Linkable, PlacesLinked}
use Rattle.links.specs.Ahead.{marks_none}
use Rattle.links.specs.FirstCycles.{first_cycles, length-first}
use Rattle.links.specs.Forward.{Labelled}
use Rattle.links.specs.Relabelled.{length_as, colour_as}
use Rattle.cycles.specs.Mapped.{Marked}
use Rattle.mapping.specs.Filling.{raised, Fillable, MapFilled, map-filled}
use Rattle.starts.specs.Progress.{State, state, none_counted, CycleRoom, none_between}
use Rattle.listing.specs.MapAndLinks.{MapAndLinks}
use Rattle.listing.specs.Regions.{AllListed}
use Rattle.starts.specs.declared.Counts.{Counts}

-- A list of blocks with labels, a work list whose first 2 times 4^n entries are 0, and room for all cycles.
pub record Outlinable (n : ℕ) (codes levels labels : List ℕ) (s : State) : Type 0 where
  pub labelled : Labelled n (blocks codes levels labels)
  pub equal : length codes ≡ length levels
  pub enough : length codes ≤ length labels
  pub zeros : (j : ℕ) → j < 2 * 4 ^ n → get_or s.work j 0 ≡ 0
  pub for_work : 2 * 4 ^ n ≤ length s.work
  pub room : CycleRoom n s

-- All cycles of the image that a list of blocks paints stand in the lists and are counted, and the work list is cleared.
pub record Outlined (n : ℕ) (bs : List Block) (s₀ s : State) : Type 0 where
  pub in_owners : s.owned ≡ over (owners (listing n (paint bs) (4 ^ n))) s₀.owned
  pub in_ends : s.ended ≡ over (ends (listing n (paint bs) (4 ^ n))) s₀.ended
  pub in_corners : s.points ≡ over (all_corners (listing n (paint bs) (4 ^ n))) s₀.points
  pub in_areas : s.sums ≡ over (areas (listing n (paint bs) (4 ^ n))) s₀.sums
  pub in_work : s.work ≡ over (replicate (2 * 4 ^ n) 0) s₀.work
  pub cycle-count : s.cycles ≡ cycle_count (listing n (paint bs) (4 ^ n))
  pub corner-count : s.corners ≡ corner_count (listing n (paint bs) (4 ^ n))

blocks_at_most_pixels : (bs : List Block) → length bs ≤ pixels bs
unfolding pixels
blocks_at_most_pixels [] = omega arith
blocks_at_most_pixels (b ∷ bs) = omega (arith, blocks_at_most_pixels bs, pow4_pos b.level)

module _ {n : ℕ} {codes levels labels work owned ended points : List ℕ} {sums : List ℤ}
    (ok : Outlinable n codes levels labels (state work owned ended points sums none_counted)) where
  abbrev bs : List Block
  bs = blocks codes levels labels

  abbrev nums : List ℕ
  nums = paint (blocks codes levels labels)

  long : length (blocks codes levels labels) ≡ length codes
  long = length_as codes levels labels ok.equal ok.enough

  few : length codes ≤ 4 ^ n
  few = omega (arith, long, blocks_at_most_pixels bs, all_pixels n bs ok.labelled.covering)

  whole_small : 4 ^ n ≤ 65536
  whole_small = pow4_mono ok.labelled.small

  module _ {whole : ℕ} (size : whole ≡ pixels_of n) where
    whole_is : whole ≡ 4 ^ n
    whole_is = size ∙ pixels_are_power n (omega (arith, ok.labelled.small))

    pub used_low : whole + length codes ≤ 131072
    used_low = omega (arith, whole_is, whole_small, few)

    pub linkable : Linkable whole (length codes) labels work
    linkable = record {
      small = omega (arith, whole_is, whole_small);
      few = omega (arith, whole_is, few);
      labels = ok.enough;
      long = omega (arith, whole_is, ok.for_work);
      known = λ i h. omega (arith, whole_is, colour_as codes levels labels ok.equal ok.enough i h, ok.labelled.known i (omega (arith, long)));
      blank = λ r h. ok.zeros r (omega (arith, whole_is));
    }

    module _ {linked : List ℕ} (l : PlacesLinked whole (length codes) labels work linked) where
      pub fillable : Fillable n codes levels labels linked
      fillable = record {
        levels_too = ok.equal;
        labels_too = ok.enough;
        labelled = ok.labelled;
        enough = omega (arith, l.long, ok.for_work);
      }

      module _ {mapped : List ℕ} (e : mapped ≡ over (in_rows n (raised (paint (blocks codes levels labels)))) linked) where
        filled : MapFilled n (paint (blocks codes levels labels)) linked mapped
        filled = map-filled fillable e

        pub map_and_links : MapAndLinks n codes levels labels (state mapped owned ended points sums none_counted)
        unfolding owners ends all_corners areas corner_count first_cycles
        map_and_links = record {
          labelled = ok.labelled;
          equal = ok.equal;
          enough = ok.enough;
          few = few;
          long = omega (arith, filled.same_length, l.long, ok.for_work);
          links = λ i h.
              filled.beyond (4 ^ n + i) (omega arith)
              ∙ ap (λ (w : ℕ). get_or linked (w + i) 0) (sym whole_is) ∙ l.nexts i h;
          room = record {
            small = ok.labelled.small;
            for_owners = ok.room.for_owners;
            for_ends = ok.room.for_ends;
            for_corners = ok.room.for_corners;
            for_areas = ok.room.for_areas;
          };
          listed = record {
            few = omega arith;
            in_owners = sym (over_none owned);
            in_ends = sym (over_none ended);
            in_corners = sym (over_none points);
            in_areas = sym (over_none sums);
            corners_so_far = refl;
            in_work = none_between n nums 0 mapped;
            mapped = filled.mapped;
            numbers = filled.numbers;
            marks = marks_none n nums (Marked n mapped) filled.unmarked;
            long = refl;
            beyond = λ j h. refl;
          };
        }

        module _ {work' owned' ended' points' : List ℕ} {sums' : List ℤ} {counts : Counts}
            (t : AllListed n (blocks codes levels labels) (state mapped owned ended points sums none_counted) (state work' owned' ended' points' sums' counts)) where
          pub clear_room : 0 + (whole + length codes) ≤ length work'
          clear_room = omega (arith, whole_is, few, t.listed.long, filled.same_length, l.long, ok.for_work)

          pub outlined : {cleared : List ℕ} → cleared ≡ fill work' 0 (whole + length codes) 0
              → Outlined n (blocks codes levels labels) (state work owned ended points sums none_counted) (state cleared owned' ended' points' sums' counts)
          unfolding cycle_count corner_count
          outlined {cleared} e = record {
            in_owners = t.listed.in_owners ∙ ap (λ (c : List Cycle). over (owners c) owned) t.all;
            in_ends = t.listed.in_ends ∙ ap (λ (c : List Cycle). over (ends c) ended) t.all;
            in_corners = t.listed.in_corners ∙ ap (λ (c : List Cycle). over (all_corners c) points) t.all;
            in_areas = t.listed.in_areas ∙ ap (λ (c : List Cycle). over (areas c) sums) t.all;
            in_work = same;
            cycle-count = sym (length-first n nums counts.cycles t.listed.few) ∙ ap length t.all;
            corner-count = t.listed.corners_so_far ∙ ap (λ (c : List Cycle). length (all_corners c)) t.all;
          }
            where
              zeros : List ℕ
              zeros = replicate (2 * 4 ^ n) 0

              zeros_long : length zeros ≡ 2 * 4 ^ n
              zeros_long = length-replicate (2 * 4 ^ n) 0

              -- what lies behind the map and the links is as it was
              kept : (j : ℕ) → whole + length codes ≤ j → get_or cleared j 0 ≡ get_or work j 0
              kept j h =
                  ap (λ (w : List ℕ). get_or w j 0) e
                  ∙ fill-beyond work' 0 (whole + length codes) 0 j (omega arith)
                  ∙ t.listed.beyond j (omega (arith, whole_is))
                  ∙ filled.beyond j (omega (arith, whole_is))
                  ∙ l.beyond j h

              blank : (j : ℕ) → j < 2 * 4 ^ n → Dec (j < whole + length codes) → get_or cleared j 0 ≡ 0
              blank j h (yes k) =
                  ap (λ (w : List ℕ). get_or w j 0) e ∙ fill-inside work' 0 (whole + length codes) 0 j clear_room (omega arith) (omega arith)
              blank j h (no k) = kept j (omega arith) ∙ ok.zeros j h

              at_place : (j : ℕ) → Dec (j < 2 * 4 ^ n) → get_or cleared j 0 ≡ get_or (over zeros work) j 0
              at_place j (yes h) =
                  blank j h (dec_lt j (whole + length codes))
                  ∙ sym (over_inside zeros work j (omega (arith, zeros_long)) ∙ get_or-replicate (2 * 4 ^ n) j 0 0 h)
              at_place j (no h) = kept j (omega (arith, whole_is, few)) ∙ sym (over_beyond zeros work j (omega (arith, zeros_long)))

              same : cleared ≡ over zeros work
              same =
                  ext_get_or 0 cleared (over zeros work)
                  (ap length e ∙ length-fill work' 0 (whole + length codes) 0 ∙ t.listed.long ∙ filled.same_length ∙ l.long ∙ sym (length_over zeros work (omega (arith, zeros_long, ok.for_work))))
                  (λ j h. at_place j (dec_lt j (2 * 4 ^ n)))
