-- What a caller knows, from the promise, about the answer and the lists at exit. What holds of every writer of a block list, by `writes`,
-- stands in `block_answers`: a refusal leaves all, the blocks are counted, the lists hold them, what lies beyond is unchanged.
use Rattle.std.specs.Prelude.{◌≡◌, List, ℕ, ◌^◌, ◌≤◌, ◌<◌, max, length, get_or}
use Rattle.std.proofs.Math.Path.{sym}
use Rattle.std.proofs.Common.{ap, ◌∙◌, arith}
use Rattle.sequences.specs.Cases.{first, when, first-zero}
use Rattle.answers.specs.declared.Written.{Written}
use Rattle.quadtree.specs.Number.{number_with}
use Rattle.quadtree.specs.Accepted.{number-zero}
use Rattle.quadtree.specs.BlockLists.{BlockList, image_of, number_of, RoomFor, is_too_short}
use Rattle.blocks.specs.Checking.{number_large}
use Rattle.block_answers.specs.BlockWriters.{result_of, none_short, room_unless_short, short_unless_room, merged_accepted, merged_paints, no_other_list as one_list}
use Rattle.block_answers.specs.BlockWriters as writers
use Rattle.overlaying.specs.Larger.{larger, larger_at, same_size, length_of_larger}
use Rattle.overlaying.specs.Promise.{overlaid, overlay_number, Overlay, number_of_first, number_of_second, number_of_lent}

module _ {n : ℕ} {a b before after : BlockList} {r : Written} (p : Overlay n a b before after r) where
  number_answered : r.number ≡ overlay_number n a b before
  number_answered = writers.number_answered p.writes

  -- ---- "Checks: 1, then 2 to 7 on the first list, 2 to 7 on the second, then 8 for three lists of 4^n"

  pub one_comes_first : 8 < n → r.number ≡ 1
  one_comes_first h =
      let one : number_of n a ≡ 1 = sym (number_large n a.codes a.levels a.colours h) in
      number_answered ∙ number_of_first n a b before (omega (arith, one)) ∙ one

  pub first-list-next : 0 < number_of n a → r.number ≡ number_of n a
  first-list-next h = number_answered ∙ number_of_first n a b before h

  pub second_list_then : number_of n a ≡ 0 → 0 < number_of n b → r.number ≡ number_of n b
  second_list_then e h = number_answered ∙ number_of_second n a b before e h

  pub eight_comes_last : number_of n a ≡ 0 → number_of n b ≡ 0 → (RoomFor (4 ^ n) before → ⊥) → r.number ≡ 8
  eight_comes_last e f short = number_answered ∙ number_of_lent n a b before e f ∙ short_unless_room (4 ^ n) before short

  -- Two accepted lists with room for the result are never refused, and nothing else is accepted.
  pub not_refused : number_of n a ≡ 0 → number_of n b ≡ 0 → RoomFor (4 ^ n) before → r.number ≡ 0
  not_refused e f room = number_answered ∙ number_of_lent n a b before e f ∙ none_short (4 ^ n) before room

  pub accepted_only : r.number ≡ 0 → (number_of n a ≡ 0) × (number_of n b ≡ 0) × RoomFor (4 ^ n) before
  unfolding overlay_number number_with
  accepted_only ok =
      let e : overlay_number n a b before ≡ 0 = sym number_answered ∙ ok in
      let one = first-zero (number_of n a) (first (number_of n b) (when (is_too_short (4 ^ n) before) 8)) e in
      let two = first-zero (number_of n b) (when (is_too_short (4 ^ n) before) 8) one.1 in
      (one.0, two.0, room_unless_short (4 ^ n) before two.1)

  -- ---- the result

  module _ (ok : r.number ≡ 0) where
    small : n ≤ 8
    small = (number-zero n a.codes a.levels a.colours (accepted_only ok).0).small

    whole : length (larger (image_of a) (image_of b)) ≡ 4 ^ n
    whole = length_of_larger n a b (accepted_only ok).0 (accepted_only ok).1

    -- "The result is an accepted list".
    pub result_accepted : number_of n (result_of after r) ≡ 0
    unfolding overlaid
    result_accepted = merged_accepted n (larger (image_of a) (image_of b)) p.writes ok small

    -- "every pixel has the larger of the two colours".
    pub result_paints_larger : image_of (result_of after r) ≡ larger (image_of a) (image_of b)
    unfolding overlaid
    result_paints_larger = merged_paints n (larger (image_of a) (image_of b)) p.writes ok whole

    pub each_pixel_larger : (c : ℕ) → get_or (image_of (result_of after r)) c 0 ≡ max (get_or (image_of a) c 0) (get_or (image_of b) c 0)
    each_pixel_larger c =
        ap (λ (px : List ℕ). get_or px c 0) result_paints_larger ∙ larger_at (image_of a) (image_of b) c (same_size n a b (accepted_only ok).0 (accepted_only ok).1)

    -- "the merged list": no other accepted list has the larger colours.
    pub no_other_list : (other : BlockList) → number_of n other ≡ 0 → image_of other ≡ larger (image_of a) (image_of b) → result_of after r ≡ other
    unfolding overlaid
    no_other_list other accepted same = one_list n (larger (image_of a) (image_of b)) p.writes ok small whole other accepted same
