-- Four pixels appended to a pending run: what that needs, and what it leaves of every image that has their colours there.
use Rattle.std.specs.Prelude.{◌≡◌, refl, Bool, true, false, List, ◌++◌, ℕ, ◌+◌, ◌-◌, ◌%◌, ◌^◌, ◌≤◌, length, get_or}
use Rattle.std.proofs.Common.{sym, ap, ◌∙◌, append_assoc, arith, length-append}
use Rattle.sequences.specs.Powers.{pow4_mono}
use Rattle.quadtree.specs.Blocks.{Block}
use Rattle.quadtree.specs.Merging.{merged_from}
use Rattle.quadtree.specs.BlockLists.{BlockList, SameLengths, same_again, room_again, room_for_fewer}
use Rattle.runs.specs.Squares.{length-squares}
use Rattle.runs.specs.Runs.{piece, squares_of}
use Rattle.runs.specs.Maximal.{merged_over_apart}
use Rattle.runs.specs.MergedRuns.{PieceColoured}
use Rattle.runs.specs.Stored.{stored, stored_more, length-stored}
use Rattle.appending.specs.declared.Pending.{Pending}
use Rattle.appending.specs.Appended.{run_of, pending_at, Writable, RunWritten, same_lengths, Appendable, Appended}
use Rattle.appending.specs.Progress.{appended_end, Progress, progress_more}
use Rattle.map_blocks.specs.Fours.{HasFour, one_colour, pixel_blocks, length_pixel_blocks, same_colour, alike_by_colours, merged_pixels, run_apart}
use Rattle.map_blocks.specs.Pixels.{PixelsFit}

-- The pending run ends at a multiple of 4, and the image has four pixels more.
pub record FourNext (n : ℕ) (p : Pending) (lists : BlockList) : Type 0 where
  pub writable : Writable n p lists
  pub multiple : p.to % 4 ≡ 0
  pub inside : p.to + 4 ≤ 4 ^ n

-- The pass over any image that has the four colours after the run has gone on by these four pixels.
pub record FourAppended (n : ℕ) (p : Pending) (four : List ℕ) (now after : BlockList) (q : Pending) : Type 0 where
  pub end : q.to ≡ p.to + 4
  pub progress : {px : List ℕ} {before : BlockList} → HasFour px p.to four → Progress n px before now p → Progress n px before after q

-- Blocks that merging gives from the pending run on are stored, and nothing is pending after them.
progress_stored : {n : ℕ} {px : List ℕ} {before now after : BlockList} {p : Pending} (bs : List Block) (c v count : ℕ) → Progress n px before now p
    → after ≡ stored p.count bs now → bs ++ merged_from n px c ≡ merged_from n px p.from → count ≡ p.count + length bs → count ≤ c → c ≤ 4 ^ n
    → Progress n px before after (pending_at c c v count)
progress_stored {n} {px} {before} {now} {after} {p} bs c v count i w e counted few inside =
    let same : SameLengths after now = length-stored p.count bs now after w (room_for_fewer (omega arith) i.writable.room) in
    record {
      writable = record { small = i.writable.small; ordered = omega arith; inside = inside; few = few; room = room_again same i.writable.room };
      same = same_again same i.same;
      coloured = λ j low high. absurd (omega arith);
      done = i.done ++ bs;
      counted = omega (arith, length-append i.done bs, i.counted);
      lists = w ∙ stored_more i.done bs before now p.count i.counted i.lists;
      sum = append_assoc i.done bs (merged_from n px c) ∙ ap (λ (l : List Block). i.done ++ l) e ∙ i.sum;
    }

module _ {n : ℕ} {p : Pending} {now : BlockList} (f : FourNext n p now) where
  -- Four pixels of one colour are a piece.
  pub piece_appendable : Appendable n p 4 now
  piece_appendable = record { writable = f.writable; some = omega arith; inside = f.inside }

  pub piece_appended : {four : List ℕ} {after : BlockList} {q : Pending} {r : Bool} → r ≡ one_colour four → r ≡ true
      → Appended n p (piece 4 (get_or four 0 0)) now after q → FourAppended n p four now after q
  piece_appended {four} e h w = record { end = appended_end w; progress = λ {px} {before} has i. progress_more i piece_appendable (here has) w }
    where
      here : {px : List ℕ} → HasFour px p.to four → PieceColoured px (run_of p) (piece 4 (get_or four 0 0))
      here {px} has i low high =
          let at : i ≡ p.to + (i - p.to) = omega arith in
          ap (λ (j : ℕ). get_or px j 0) at ∙ has.each (i - p.to) (omega arith) ∙ same_colour four (sym e ∙ h) (i - p.to) (omega arith)

  -- Before any other four the run is written.
  module _ {between : BlockList} {count : ℕ} (w : RunWritten n p now between count) where
    few : count ≤ p.to
    few = omega (arith, w.answer, length-squares n p.from p.to p.colour, f.writable.few, f.writable.ordered)

    pub pixels_fit : PixelsFit p.to count between
    pixels_fit =
        let small = pow4_mono f.writable.small in
        record {
          small = omega (arith, f.inside);
          low = omega (arith, few, f.inside);
          room = room_for_fewer (omega (arith, few, f.inside)) (room_again (same_lengths f.writable w) f.writable.room);
        }

    pub pixels_appended : {four : List ℕ} {after : BlockList} {r : Bool} → r ≡ one_colour four → r ≡ false → after ≡ stored count (pixel_blocks four p.to 4) between
        → FourAppended n p four now after (pending_at (p.to + 4) (p.to + 4) (get_or four 3 0) (count + 4))
    pixels_appended {four} {after} e h s = record { end = omega arith; progress = λ {px} {before} has i. both has i }
      where
        both : {px : List ℕ} {before : BlockList} → HasFour px p.to four → Progress n px before now p
            → Progress n px before after (pending_at (p.to + 4) (p.to + 4) (get_or four 3 0) (count + 4))
        both {px} has i =
            let unlike = sym (alike_by_colours has) ∙ sym e ∙ h in
            let run = merged_over_apart n px p.from p.to p.colour f.writable.ordered (run_apart n px p.to f.multiple f.inside unlike (run_of p) i.coloured refl) in
            let cut = progress_stored (squares_of n (run_of p)) p.to p.colour count i w.lists (sym run) w.answer few (omega (arith, f.inside)) in
            progress_stored (pixel_blocks four p.to 4) (p.to + 4) (get_or four 3 0) (count + 4) cut s
            (merged_pixels n px p.to f.multiple f.inside unlike has 4 (omega arith))
            (omega (arith, length_pixel_blocks four p.to 4)) (omega (arith, few)) f.inside
