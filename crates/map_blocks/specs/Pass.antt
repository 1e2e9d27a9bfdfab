-- The pass over the map in code order: what holds at the head of its loop.
use Rattle.std.specs.Prelude.{◌≡◌, refl, List, [], ℕ, zero, suc, ◌+◌, ◌-◌, ◌%◌, ◌^◌, ◌≤◌, ◌<◌, length, get_or}
use Rattle.std.proofs.Common.{sym, ap, ◌∙◌, arith}
use Rattle.std.proofs.Math.Decide.{dec_lt}
use Rattle.sequences.specs.Powers.{pow4_pos, pow4_mono}
use Rattle.location.specs.Levels.{pixels_of, pixels_are_power}
use Rattle.quadtree.specs.Raster.{place}
use Rattle.quadtree.specs.Orders.{place_in}
use Rattle.quadtree.specs.Merged.{merged_is_quadtree}
use Rattle.quadtree.specs.BlockLists.{BlockList}
use Rattle.runs.specs.Stored.{stored_none}
use Rattle.cycles.specs.Mapped.{nums_of}
use Rattle.given_outlines.specs.Given.{coloured}
use Rattle.appending.specs.declared.Pending.{Pending}
use Rattle.appending.specs.Appended.{pending_at, RunWritten}
use Rattle.appending.specs.Progress.{Progress, AllWritten, progress_done}
use Rattle.map_blocks.specs.Fours.{HasFour}
use Rattle.map_blocks.specs.Appended.{FourNext, FourAppended}
use Rattle.map_blocks.specs.Painting.{Paintable, FourPainted, HasColour, entry_colour, pixel_colour}

-- At the loop's head: the pixels before the end of the pending run are done, and the others come by fours.
pub record Passing (n : ℕ) (map colours : List ℕ) (before now : BlockList) (p : Pending) : Type 0 where
  pub progress : Progress n (coloured colours (nums_of n map)) before now p
  pub fours : (4 ^ n - p.to) % 4 ≡ 0

-- All pixels of an image of more than one pixel come by fours.
by_fours : (n : ℕ) → 1 < 4 ^ n → 4 ^ n % 4 ≡ 0
by_fours zero h = absurd (omega arith)
by_fours (suc n) h = omega arith

module _ {n : ℕ} {map colours : List ℕ} {before : BlockList} (o : Paintable n map colours before) where
  -- The map has a first entry, with a colour.
  pub first_read : 0 < length map
  first_read = omega (arith, o.mapped.long, pow4_pos n)

  pub first_colour : HasColour map colours 0
  first_colour = let h : 0 < 4 ^ n = pow4_pos n in (o.mapped.numbered 0 h, o.below 0 h)

  module _ {whole : ℕ} (w : whole ≡ pixels_of n) where
    all : whole ≡ 4 ^ n
    all = w ∙ pixels_are_power n (omega (arith, o.small))

    pub passing_none : {colour : ℕ} → colour ≡ entry_colour map colours 0 → Passing n map colours before before (pending_at 0 (whole % 4) colour 0)
    passing_none {colour} e = record {
      progress = record {
        writable = record { small = o.small; ordered = omega arith; inside = omega (arith, all); few = omega arith; room = o.room };
        same = record { for_codes = refl; for_levels = refl; for_colours = refl };
        coloured = first;
        done = [];
        counted = refl;
        lists = sym (stored_none 0 before);
        sum = merged_is_quadtree n (coloured colours (nums_of n map)) o.small;
      };
      fours = omega (arith, all);
    }
      where
        first : (i : ℕ) → 0 ≤ i → i < whole % 4 → get_or (coloured colours (nums_of n map)) i 0 ≡ colour
        first i low high = pick (dec_lt 1 (4 ^ n))
          where
            pick : Dec (1 < 4 ^ n) → get_or (coloured colours (nums_of n map)) i 0 ≡ colour
            pick (yes h) = absurd (omega (arith, all, by_fours n h))
            pick (no h) =
                let same : i ≡ 0 = omega (arith, all) in
                let here : place n 0 ≡ 0 = omega (arith, place_in n 0) in
                ap (λ (j : ℕ). get_or (coloured colours (nums_of n map)) j 0) same
                ∙ pixel_colour n map colours 0 (pow4_pos n)
                ∙ ap (entry_colour map colours) here
                ∙ sym e

    module _ {now : BlockList} {p : Pending} (m : Passing n map colours before now p) where
      module _ (more : p.to < whole) where
        four_inside : (p.to % 4 ≡ 0) × (p.to + 4 ≤ 4 ^ n)
        four_inside = let h : p.to + 4 ≤ 4 ^ n = omega (arith, all, m.fours) in (omega (arith, m.fours, by_fours n (omega arith)), h)

        pub code_small : p.to < 65536
        code_small = omega (arith, all, pow4_mono o.small)

        pub four_painted : FourPainted n map colours p.to
        four_painted = record { small = o.small; multiple = four_inside.0; inside = four_inside.1; mapped = o.mapped; below = o.below }

        pub four_next : FourNext n p now
        four_next = record { writable = m.progress.writable; multiple = four_inside.0; inside = four_inside.1 }

        pub passing_more : {four : List ℕ} {after : BlockList} {q : Pending} → HasFour (coloured colours (nums_of n map)) p.to four → FourAppended n p four now after q
            → Passing n map colours before after q
        passing_more has w = record { progress = w.progress has m.progress; fours = omega (arith, w.end, m.fours, four_inside) }

      pub passed : {after : BlockList} {count : ℕ} → whole ≤ p.to → RunWritten n p now after count → AllWritten n (coloured colours (nums_of n map)) before after count
      passed end w = progress_done m.progress (omega (arith, m.progress.writable.inside, all)) w
