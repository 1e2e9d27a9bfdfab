-- The pass over both lists: what it needs, and what holds at the head of its loop.
use Rattle.std.specs.Prelude.{◌≡◌, ℕ, ◌+◌, ◌-◌, ◌^◌, ◌≤◌, ◌<◌, max, min, length, get_or}
use Rattle.std.proofs.Common.{sym, ap₂, ◌∙◌, subst, arith}
use Rattle.quadtree.specs.Accepted.{number-zero}
use Rattle.quadtree.specs.BlockLists.{BlockList, image_of, number_of, RoomFor}
use Rattle.runs.specs.Runs.{piece}
use Rattle.cursors.specs.Cursors.{end_at, next_place, BlockThere, At, block_there, at_start, at_onward, not_past}
use Rattle.appending.specs.declared.Pending.{Pending}
use Rattle.appending.specs.Appended.{pending_at, RunWritten, Appendable, Appended}
use Rattle.appending.specs.Progress.{appended_end, Progress, AllWritten, progress_none, progress_more, progress_done}
use Rattle.overlaying.specs.Larger.{larger, larger_at, same_size}

-- Two accepted lists of one n, and three lists with room for what is written.
pub record Overlayable (n : ℕ) (a b lent : BlockList) : Type 0 where
  pub first : number_of n a ≡ 0
  pub second : number_of n b ≡ 0
  pub room : RoomFor (4 ^ n) lent

-- At the loop's head: the cursors stand at the blocks i and j, both at the end of the pending run.
pub record Passing (n : ℕ) (a b before now : BlockList) (p : Pending) (i j : ℕ) : Type 0 where
  pub first : At n a p.to i
  pub second : At n b p.to j
  pub progress : Progress n (larger (image_of a) (image_of b)) before now p

module _ {n : ℕ} {a b before : BlockList} (o : Overlayable n a b before) where
  pub passing_none : Passing n a b before before (pending_at 0 0 0 0) 0 0
  passing_none = record { first = at_start n a o.first; second = at_start n b o.second; progress = progress_none (number-zero n a.codes a.levels a.colours o.first).small o.room }

  module _ {now : BlockList} {p : Pending} {i j : ℕ} (m : Passing n a b before now p i j) where
    module _ (more : i < length a.codes) where
      pub first_there : BlockThere n a i
      first_there = block_there n a o.first i more

      -- The second list does not end before the first.
      pub in_second : j < length b.codes
      in_second = not_past n b o.second p.to j m.second (omega (arith, m.first.within more, first_there.in_image))

      pub second_there : BlockThere n b j
      second_there = block_there n b o.second j in_second

      -- What the code works out: the ends of both blocks, and the nearer of them.
      module _ {end₁ end₂ done : ℕ} (e : end₁ ≡ end_at a i) (f : end₂ ≡ end_at b j) (g : done ≡ min end₁ end₂) where
        pub done_on : (p.to < done) × (done ≤ end_at a i) × (done ≤ end_at b j) × (done ≤ 4 ^ n)
        done_on =
            let one = m.first.within more in
            let two = m.second.within in_second in
            (omega arith, omega arith, omega arith, omega (arith, first_there.in_image))

        pub piece_appendable : Appendable n p (done - p.to) now
        piece_appendable = record { writable = m.progress.writable; some = omega (arith, done_on); inside = omega (arith, done_on) }

        -- The piece appended, with the larger colour.
        module _ {colour : ℕ} {after : BlockList} {q : Pending} (w : Appended n p (piece (done - p.to) colour) now after q) where
          pub end_on : q.to ≡ done
          end_on = omega (arith, appended_end w, done_on)

          module _ (k : colour ≡ max (get_or a.colours i 0) (get_or b.colours j 0)) where
            piece-coloured : (c : ℕ) → p.to ≤ c → c < p.to + (done - p.to) → get_or (larger (image_of a) (image_of b)) c 0 ≡ colour
            piece-coloured c low high =
                larger_at (image_of a) (image_of b) c (same_size n a b o.first o.second)
                ∙ ap₂ (λ (x y : ℕ). max x y)
                (first_there.coloured c (omega (arith, m.first.from more)) (omega (arith, done_on)))
                (second_there.coloured c (omega (arith, m.second.from in_second)) (omega (arith, done_on)))
                ∙ sym k

            pub passing_more : {i' j' : ℕ} → i' ≡ next_place i end₁ done → j' ≡ next_place j end₂ done → Passing n a b before after q i' j'
            passing_more {i'} {j'} ei ej = record {
              first = subst (λ (c : ℕ). At n a c i') (sym end_on) (at_onward n a o.first m.first more e (omega (arith, done_on)) (omega arith) ei);
              second = subst (λ (c : ℕ). At n b c j') (sym end_on) (at_onward n b o.second m.second in_second f (omega (arith, done_on)) (omega arith) ej);
              progress = progress_more m.progress piece_appendable piece-coloured w;
            }

    -- The first list's end is the image's end.
    pub passed : {after : BlockList} {count : ℕ} → length a.codes ≤ i → RunWritten n p now after count → AllWritten n (larger (image_of a) (image_of b)) before after count
    passed end w = progress_done m.progress (m.first.past end) w
