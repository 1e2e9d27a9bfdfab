-- A caller's loop over the pieces of an image: what is written, and what merging the image still gives from the pending run on, make its
-- quadtree.
use Rattle.std.specs.Prelude.{◌≡◌, refl, List, [], ◌++◌, ℕ, ◌+◌, ◌^◌, ◌≤◌, length}
use Rattle.std.proofs.Common.{sym, ap, ◌∙◌, subst, append_assoc, arith, length-append}
use Rattle.quadtree.specs.Blocks.{Block}
use Rattle.quadtree.specs.Quadtree.{quadtree}
use Rattle.quadtree.specs.Merging.{merged_from}
use Rattle.quadtree.specs.Merged.{merged_is_quadtree}
use Rattle.quadtree.specs.BlockLists.{BlockList, RoomFor, SameLengths, same_again, room_again, room_for_fewer}
use Rattle.runs.specs.Squares.{length-squares}
use Rattle.runs.specs.Runs.{piece, squares_of, ended, next, next_end, next_room}
use Rattle.runs.specs.MergedRuns.{RunColoured, PieceColoured, next-coloured, merged_next, merged_last}
use Rattle.runs.specs.Stored.{stored, stored_none, stored_more, length-stored}
use Rattle.appending.specs.declared.Pending.{Pending}
use Rattle.appending.specs.Appended.{run_of, pending_at, Writable, RunWritten, same_lengths, Appendable, Appended}

-- A piece that was appended ends where the run does.
pub appended_end : {n size colour : ℕ} {p q : Pending} {now after : BlockList} → Appended n p (piece size colour) now after q → q.to ≡ p.to + size
appended_end {n} {size} {colour} {p} w = ap (λ (r : Pending). r.to) w.answer ∙ next_end n (run_of p) (piece size colour)

-- At the loop's head, for the image px; the lists were lent as `before`.
pub record Progress (n : ℕ) (px : List ℕ) (before now : BlockList) (p : Pending) : Type 0 where
  pub writable : Writable n p now
  pub same : SameLengths now before
  pub coloured : RunColoured px (run_of p)
  pub done : List Block
  pub counted : p.count ≡ length done
  pub lists : now ≡ stored 0 done before
  pub sum : done ++ merged_from n px p.from ≡ quadtree n px

-- The quadtree of px is counted and stands in the lists, with no more blocks than the image has pixels.
pub record AllWritten (n : ℕ) (px : List ℕ) (before after : BlockList) (count : ℕ) : Type 0 where
  pub answer : count ≡ length (quadtree n px)
  pub lists : after ≡ stored 0 (quadtree n px) before
  pub few : count ≤ 4 ^ n
  pub same : SameLengths after before

-- Before the first piece.
pub progress_none : {n : ℕ} {px : List ℕ} {before : BlockList} → n ≤ 8 → RoomFor (4 ^ n) before → Progress n px before before (pending_at 0 0 0 0)
progress_none {n} {px} {before} small room = record {
  writable = record { small = small; ordered = omega arith; inside = omega arith; few = omega arith; room = room };
  same = record { for_codes = refl; for_levels = refl; for_colours = refl };
  coloured = λ i low high. absurd (omega arith);
  done = [];
  counted = refl;
  lists = sym (stored_none 0 before);
  sum = merged_is_quadtree n px small;
}

module _ {n : ℕ} {px : List ℕ} {before now : BlockList} {p : Pending} (i : Progress n px before now p) where
  -- One piece more, of the image's colours.
  pub progress_more : {size colour : ℕ} {after : BlockList} {q : Pending} → Appendable n p size now → PieceColoured px (run_of p) (piece size colour)
      → Appended n p (piece size colour) now after q → Progress n px before after q
  progress_more {size} {colour} {after} {q} f here w =
      let a = piece size colour in
      let fits = next_room n (run_of p) a p.count i.writable.ordered i.writable.few in
      let inside : (next (run_of p) a).to ≤ 4 ^ n = omega (arith, next_end n (run_of p) a, f.inside) in
      let same : SameLengths after now =
      length-stored p.count (ended n (run_of p) a) now after w.lists (room_for_fewer (omega (arith, fits)) i.writable.room) in
      subst (λ (r : Pending). Progress n px before after r) (sym w.answer) (record {
        writable = record {
          small = i.writable.small;
          ordered = fits.1;
          inside = inside;
          few = fits.0;
          room = room_again same i.writable.room;
        };
        same = same_again same i.same;
        coloured = next-coloured n px (run_of p) a i.coloured here;
        done = i.done ++ ended n (run_of p) a;
        counted = omega (arith, length-append i.done (ended n (run_of p) a), i.counted);
        lists = w.lists ∙ stored_more i.done (ended n (run_of p) a) before now p.count i.counted i.lists;
        sum =
            append_assoc i.done (ended n (run_of p) a) (merged_from n px (next (run_of p) a).from)
            ∙ ap (λ (l : List Block). i.done ++ l) (merged_next n px (run_of p) a i.coloured here i.writable.ordered f.some f.inside)
            ∙ i.sum;
      })

  -- After the last piece the last run is written.
  pub progress_done : {after : BlockList} {count : ℕ} → p.to ≡ 4 ^ n → RunWritten n p now after count → AllWritten n px before after count
  progress_done {after} {count} end w =
      let all : i.done ++ squares_of n (run_of p) ≡ quadtree n px =
      ap (λ (l : List Block). i.done ++ l) (merged_last n px (run_of p) i.coloured i.writable.ordered end) ∙ i.sum in
      record {
        answer = w.answer ∙ ap (λ (k : ℕ). k + length (squares_of n (run_of p))) i.counted ∙ sym (length-append i.done (squares_of n (run_of p))) ∙ ap length all;
        lists = w.lists ∙ stored_more i.done (squares_of n (run_of p)) before now p.count i.counted i.lists ∙ ap (λ (bs : List Block). stored 0 bs before) all;
        few = omega (arith, w.answer, length-squares n p.from p.to p.colour, i.writable.few, i.writable.ordered, i.writable.inside);
        same = same_again (same_lengths i.writable w) i.same;
      }
