-- The pass over the list: what it needs, and what holds at the head of its loop.
use Rattle.std.specs.Prelude.{◌≡◌, ℕ, ◌+◌, ◌-◌, ◌^◌, ◌≤◌, ◌<◌, get_or, set}
use Rattle.std.proofs.Common.{sym, ap, ◌∙◌, subst, arith, get_or-set_same, get_or-set_other}
use Rattle.std.proofs.Math.Decide.{ℕ_discrete}
use Rattle.std.proofs.Math.ListN.{length}
use Rattle.quadtree.specs.Accepted.{number-zero}
use Rattle.quadtree.specs.BlockLists.{BlockList, image_of, number_of, accepted_covers, length_image, RoomFor}
use Rattle.runs.specs.Runs.{piece}
use Rattle.cursors.specs.Cursors.{end_at, next_place, BlockThere, At, block_there, at_start, at_onward}
use Rattle.appending.specs.declared.Pending.{Pending}
use Rattle.appending.specs.Appended.{pending_at, RunWritten, Appendable, Appended}
use Rattle.appending.specs.Progress.{appended_end, Progress, AllWritten, progress_none, progress_more, progress_done}
use Rattle.touching_up.specs.Promise.{repainted}
use Rattle.touching_up.specs.Pieces.{piece_end, piece_colour, colour_of_pixel, colour_of_block, Parted, parted}

-- An accepted list, a pixel of its image, and three lists with room for what is written.
pub record Repaintable (n : ℕ) (a : BlockList) (c : ℕ) (lent : BlockList) : Type 0 where
  pub accepted : number_of n a ≡ 0
  pub in_image : c < 4 ^ n
  pub room : RoomFor (4 ^ n) lent

-- At the loop's head: the cursor stands at the block i, at the end of the pending run.
pub record Passing (n : ℕ) (a : BlockList) (c v : ℕ) (before now : BlockList) (p : Pending) (i : ℕ) : Type 0 where
  pub at : At n a p.to i
  pub progress : Progress n (repainted (image_of a) c v) before now p

module _ {n : ℕ} {a : BlockList} {c v : ℕ} {before : BlockList} (o : Repaintable n a c before) where
  pub passing_none : Passing n a c v before before (pending_at 0 0 0 0) 0
  passing_none = record {
    at = at_start n a o.accepted;
    progress = progress_none (number-zero n a.codes a.levels a.colours o.accepted).small o.room;
  }

  module _ {now : BlockList} {p : Pending} {i : ℕ} (m : Passing n a c v before now p i) where
    module _ (more : i < length a.codes) where
      pub there : BlockThere n a i
      there = block_there n a o.accepted i more

      -- What the code works out: the end of the block, and that of the piece.
      module _ {ending : ℕ} (e : ending ≡ end_at a i) where
        pub on : p.to < ending
        on = omega (arith, m.at.within more)

        module _ {done : ℕ} (f : done ≡ piece_end p.to c ending) where
          cut : Parted p.to c ending done
          cut = subst (Parted p.to c ending) (sym f) (parted p.to c ending on)

          pub done_on : (p.to < done) × (done ≤ 4 ^ n)
          done_on = (cut.some, omega (arith, cut.fits, there.in_image))

          pub piece_appendable : Appendable n p (done - p.to) now
          piece_appendable = record { writable = m.progress.writable; some = omega (arith, done_on); inside = omega (arith, done_on) }

          -- The piece appended, with its colour.
          module _ {colour : ℕ} {after : BlockList} {q : Pending} (w : Appended n p (piece (done - p.to) colour) now after q) where
            pub end_on : q.to ≡ done
            end_on = omega (arith, appended_end w, done_on)

            module _ (g : colour ≡ piece_colour p.to c (get_or a.colours i 0) v) where
              piece-coloured : (k : ℕ) → p.to ≤ k → k < p.to + (done - p.to) → get_or (repainted (image_of a) c v) k 0 ≡ colour
              unfolding repainted
              piece-coloured k low high = pick (ℕ_discrete p.to c)
                where
                  size : length (image_of a) ≡ 4 ^ n
                  size = length_image n a (accepted_covers n a o.accepted)

                  pick : Dec (p.to ≡ c) → get_or (set (image_of a) c v) k 0 ≡ colour
                  pick (yes d) =
                      let here : k ≡ c = omega (arith, cut.alone d) in
                      ap (λ (j : ℕ). get_or (set (image_of a) c v) j 0) here
                      ∙ get_or-set_same (image_of a) c v 0 (omega (arith, size, o.in_image))
                      ∙ sym (g ∙ colour_of_pixel p.to c (get_or a.colours i 0) v d)
                  pick (no d) =
                      get_or-set_other (image_of a) c k v 0 (cut.without d k low (omega (arith, done_on)))
                      ∙ there.coloured k (omega (arith, m.at.from more)) (omega (arith, cut.fits, done_on))
                      ∙ sym (g ∙ colour_of_block p.to c (get_or a.colours i 0) v d)

              pub passing_more : {i' : ℕ} → i' ≡ next_place i ending done → Passing n a c v before after q i'
              passing_more {i'} ei = record {
                at = subst (λ (k : ℕ). At n a k i') (sym end_on) (at_onward n a o.accepted m.at more e (omega (arith, done_on)) cut.fits ei);
                progress = progress_more m.progress piece_appendable piece-coloured w;
              }

    -- The list's end is the image's end.
    pub passed : {after : BlockList} {count : ℕ} → length a.codes ≤ i → RunWritten n p now after count → AllWritten n (repainted (image_of a) c v) before after count
    passed end w = progress_done m.progress (m.at.past end) w
