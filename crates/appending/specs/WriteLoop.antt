-- The loop that writes a run: what holds at its head.
use Rattle.std.specs.Prelude.{◌≡◌, refl, List, [], ◌∷◌, ◌++◌, ℕ, ◌+◌, ◌^◌, ◌≤◌, ◌<◌, length, set}
use Rattle.std.proofs.Common.{sym, ap, ap₂, ◌∙◌, append_assoc, append-nil, arith, length-append, length-set}
use Rattle.sequences.specs.Powers.{pow4_pos, pow4_mono}
use Rattle.location.specs.Levels.{pixels_of, pixels_are_power}
use Rattle.quadtree.specs.Blocks.{Block}
use Rattle.quadtree.specs.Painting.{block}
use Rattle.runs.specs.Squares.{level_in, squares, level_ends, level_in_image, squares_end, squares-more}
use Rattle.runs.specs.Runs.{squares_of}
use Rattle.quadtree.specs.BlockLists.{BlockList, list_of, SameLengths, room_for_fewer, room_again, RoomFor}
use Rattle.runs.specs.Stored.{stored, stored_none, stored_one}
use Rattle.appending.specs.declared.Pending.{Pending}
use Rattle.appending.specs.Levels.{RunIn}
use Rattle.appending.specs.Appended.{run_of, Writable, RunWritten}

-- The squares written and those from the code q on are all of the run's; `at` blocks are written in all.
pub record Writing (n : ℕ) (p : Pending) (before now : BlockList) (at q : ℕ) : Type 0 where
  pub ordered : q ≤ p.to
  pub few : at ≤ q
  pub same : SameLengths now before
  pub done : List Block
  pub counted : at ≡ p.count + length done
  pub sum : done ++ squares n q p.to p.colour ≡ squares_of n (run_of p)
  pub lists : now ≡ stored p.count done before

-- The numbers of one turn.
pub record Turn (p : Pending) (now : BlockList) (at q l w : ℕ) : Type 0 where
  pub low : l ≤ 8
  pub worth : w ≡ 4 ^ l
  pub fits : q + w ≤ p.to
  pub grows : 0 < w
  pub small : p.to ≤ 65536
  pub room : RoomFor p.to now

module _ {n : ℕ} {p : Pending} {before : BlockList} (h : Writable n p before) where
  pub writing_none : Writing n p before before p.count p.from
  writing_none = record {
    ordered = h.ordered;
    few = h.few;
    same = record { for_codes = refl; for_levels = refl; for_colours = refl };
    done = [];
    counted = omega arith;
    sum = refl;
    lists = sym (stored_none p.count before);
  }

  module _ {now : BlockList} {at q : ℕ} (i : Writing n p before now at q) where
    module _ (more : q < p.to) where
      pub square_in_run : RunIn n q p.to
      square_in_run = record { small = h.small; some = more; inside = h.inside }

      pub turn : {l w : ℕ} → l ≡ level_in n q p.to → w ≡ pixels_of l → Turn p now at q l w
      turn {l} {w} e f =
          let low : l ≤ 8 = omega (arith, e, level_in_image n q p.to more h.inside, h.small) in
          let worth : w ≡ 4 ^ l = f ∙ pixels_are_power l (omega arith) in
          record {
            low = low;
            worth = worth;
            fits = omega (arith, worth, ap (λ (k : ℕ). 4 ^ k) e, level_ends n q p.to more);
            grows = omega (arith, worth, pow4_pos l);
            small = omega (arith, h.inside, pow4_mono h.small);
            room = room_for_fewer h.inside (room_again i.same h.room);
          }

      pub writing_more : {l w : ℕ} → l ≡ level_in n q p.to → w ≡ pixels_of l
          → Writing n p before (list_of (set now.codes at q) (set now.levels at l) (set now.colours at p.colour)) (at + 1) (q + w)
      writing_more {l} {w} e f =
          let t = turn e f in
          let v : ℕ = p.colour in
          let d : ℕ = level_in n q p.to in
          let next : q + w ≡ q + 4 ^ d = omega (arith, t.worth, ap (λ (k : ℕ). 4 ^ k) e) in
          record {
            ordered = t.fits;
            few = omega (arith, i.few, t.grows);
            same = record {
              for_codes = length-set now.codes at q ∙ i.same.for_codes;
              for_levels = length-set now.levels at l ∙ i.same.for_levels;
              for_colours = length-set now.colours at v ∙ i.same.for_colours;
            };
            done = i.done ++ block q l v ∷ [];
            counted = omega (arith, length-append i.done (block q l v ∷ []), i.counted);
            sum =
                append_assoc i.done (block q l v ∷ []) (squares n (q + w) p.to v)
                ∙ ap₂ (λ (x y : ℕ). i.done ++ block q x v ∷ squares n y p.to v) e next
                ∙ ap (λ (s : List Block). i.done ++ s) (sym (squares-more n q p.to v more))
                ∙ i.sum;
            lists =
                stored_one p.count i.done before now at q l v i.lists i.counted (room_for_fewer (omega (arith, i.few, h.inside)) h.room);
          }

    pub run_written : p.to ≤ q → RunWritten n p before now at
    run_written end =
        let all : i.done ≡ squares_of n (run_of p) =
        sym (append-nil i.done) ∙ ap (λ (s : List Block). i.done ++ s) (sym (squares_end n q p.to p.colour end)) ∙ i.sum in
        record {
          answer = i.counted ∙ ap (λ (bs : List Block). p.count + length bs) all;
          lists = i.lists ∙ ap (λ (bs : List Block). stored p.count bs before) all;
        }
