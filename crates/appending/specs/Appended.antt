-- What writing a run and appending a piece need and promise.
use Rattle.std.specs.Prelude.{◌≡◌, ◌≢◌, List, [], ℕ, ◌+◌, ◌-◌, ◌^◌, ◌≤◌, ◌<◌, length}
use Rattle.std.proofs.Common.{sym, ap, ap₂, ◌∙◌, arith}
use Rattle.sequences.specs.Powers.{pow4_mono}
use Rattle.quadtree.specs.Blocks.{Block}
use Rattle.runs.specs.Squares.{length-squares}
use Rattle.runs.specs.Runs.{Piece, piece, Run, run, squares_of, ended, next, nothing-ended, squares-ended, run_longer, run_anew}
use Rattle.quadtree.specs.BlockLists.{BlockList, RoomFor, SameLengths, room_for_fewer}
use Rattle.runs.specs.Stored.{stored, stored_none, length-stored}
use Rattle.appending.specs.declared.Pending.{Pending}

-- The run that is pending.
abbrev pub run_of : Pending → Run
run_of p = run p.from p.to p.colour

abbrev pub pending_at : ℕ → ℕ → ℕ → ℕ → Pending
pending_at from to v count = record { from = from; to = to; colour = v; count = count }

-- A run of the image, and lists of 4^n entries: no more blocks are written than pixels lie before the run, so that its squares have room.
pub record Writable (n : ℕ) (p : Pending) (lists : BlockList) : Type 0 where
  pub small : n ≤ 8
  pub ordered : p.from ≤ p.to
  pub inside : p.to ≤ 4 ^ n
  pub few : p.count ≤ p.from
  pub room : RoomFor (4 ^ n) lists

-- The run's squares stand after the blocks that were written, and are counted.
pub record RunWritten (n : ℕ) (p : Pending) (before after : BlockList) (count : ℕ) : Type 0 where
  pub answer : count ≡ p.count + length (squares_of n (run_of p))
  pub lists : after ≡ stored p.count (squares_of n (run_of p)) before

-- Besides, a piece with pixels, which the image still holds.
pub record Appendable (n : ℕ) (p : Pending) (size : ℕ) (lists : BlockList) : Type 0 where
  pub writable : Writable n p lists
  pub some : 0 < size
  pub inside : p.to + size ≤ 4 ^ n

-- What is pending once a piece has come.
abbrev pub pending_after : ℕ → Pending → Piece → Pending
pending_after n p a = record {
  from = (next (run_of p) a).from;
  to = (next (run_of p) a).to;
  colour = (next (run_of p) a).colour;
  count = p.count + length (ended n (run_of p) a);
}

-- The squares of the run that the piece ends stand after the blocks that were written; none where the run goes on.
pub record Appended (n : ℕ) (p : Pending) (a : Piece) (before after : BlockList) (q : Pending) : Type 0 where
  pub answer : q ≡ pending_after n p a
  pub lists : after ≡ stored p.count (ended n (run_of p) a) before

pub same_lengths : {n : ℕ} {p : Pending} {before after : BlockList} {count : ℕ} → Writable n p before → RunWritten n p before after count → SameLengths after before
same_lengths {n} {p} {before} {after} {count} h w =
    let few : length (squares_of n (run_of p)) ≤ p.to - p.from = length-squares n p.from p.to p.colour in
    length-stored p.count (squares_of n (run_of p)) before after w.lists (room_for_fewer (omega (arith, h.few, h.ordered, h.inside)) h.room)

-- ---- appending a piece, case by case

module _ {n size : ℕ} {p : Pending} {lists : BlockList} (f : Appendable n p size lists) where
  -- An image has at most 65,536 pixels.
  pub end_small : p.to + size ≤ 65536
  end_small = omega (arith, f.inside, pow4_mono f.writable.small)

  -- The run goes on, longer by the piece.
  pub appended_same : {colour : ℕ} → colour ≡ p.colour → Appended n p (piece size colour) lists lists (pending_at p.from (p.to + size) p.colour p.count)
  appended_same {colour} e =
      let none : ended n (run_of p) (piece size colour) ≡ [] = nothing-ended n (run_of p) (piece size colour) e in
      let longer = run_longer n (run_of p) (piece size colour) e in
      let same : p.count ≡ p.count + length (ended n (run_of p) (piece size colour)) = omega (arith, ap length none) in
      record {
        answer = ap₂ (λ (r : Run) (k : ℕ). pending_at r.from r.to r.colour k) (sym longer) same;
        lists = sym (ap (λ (bs : List Block). stored p.count bs lists) none ∙ stored_none p.count lists);
      }

  -- The run is written, and the piece begins another.
  pub appended_other : {colour count : ℕ} {after : BlockList} → colour ≢ p.colour → RunWritten n p lists after count
      → Appended n p (piece size colour) lists after (pending_at p.to (p.to + size) colour count)
  appended_other {colour} {count} {after} other w =
      let all : ended n (run_of p) (piece size colour) ≡ squares_of n (run_of p) = squares-ended n (run_of p) (piece size colour) other in
      let anew = run_anew n (run_of p) (piece size colour) other in
      record {
        answer =
            ap₂ (λ (r : Run) (k : ℕ). pending_at r.from r.to r.colour k) (sym anew)
            (w.answer ∙ ap (λ (bs : List Block). p.count + length bs) (sym all));
        lists = w.lists ∙ ap (λ (bs : List Block). stored p.count bs lists) (sym all);
      }
