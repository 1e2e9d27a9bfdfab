-- What a caller knows, from the promise, about the answer and the lists at exit. What holds of every writer of a block list, by `writes`,
-- stands in `block_answers`: a refusal leaves all, the blocks are counted, the lists hold them, what lies beyond is unchanged.
use Rattle.std.specs.Prelude.{◌≡◌, ◌≢◌, ◌⊎◌, ℕ, ◌^◌, ◌≤◌, ◌<◌, length, set}
use Rattle.std.proofs.Math.Path.{sym, ap}
use Rattle.std.proofs.Common.{◌∙◌, arith}
use mathlib.Core.List.{List}
use Rattle.std.proofs.Math.ListN.{get_or, length-set}
use Rattle.std.proofs.Math.Seq.{get_or-set_same, get_or-set_other}
use Rattle.std.proofs.lemmas.List.{set-get_or}
use Rattle.sequences.specs.Cases.{first, when, first-zero, when_zero}
use Rattle.answers.specs.declared.Written.{Written}
use Rattle.interleaving.specs.Codes.{code}
use Rattle.interleaving.specs.Interleaving.{code_below}
use Rattle.quadtree.specs.Accepted.{number-zero}
use Rattle.quadtree.specs.BlockLists.{BlockList, image_of, number_of, accepted_covers, length_image, RoomFor, is_too_short}
use Rattle.blocks.specs.Checking.{number_large}
use Rattle.block_answers.specs.BlockWriters.{result_of, none_short, room_unless_short, short_unless_room, merged_accepted, merged_paints}
use Rattle.block_answers.specs.BlockWriters as writers
use Rattle.touching_up.specs.Promise.{repainted, touched_up, outside, one_beyond, both_below, not_outside, touch_up_number, TouchUp, number_of_list, number-outside, number_of_lent}

-- The pixel of a list's image with the colour that it has is no change.
same_colour : (px : List ℕ) (c v : ℕ) → get_or px c 0 ≡ v → repainted px c v ≡ px
unfolding repainted
same_colour px c v e = ap (set px c) (sym e) ∙ set-get_or px c 0

module _ {n : ℕ} {a : BlockList} {x y v : ℕ} {before after : BlockList} {r : Written} (p : TouchUp n a x y v before after r) where
  number_answered : r.number ≡ touch_up_number n a x y before
  number_answered = writers.number_answered p.writes

  -- ---- "Checks: 1 to 7, then new 21 (x or y not below 2^n), then 8 for output lists of 4^n"

  pub one_comes_first : 8 < n → r.number ≡ 1
  one_comes_first h =
      let one : number_of n a ≡ 1 = sym (number_large n a.codes a.levels a.colours h) in
      number_answered ∙ number_of_list n a x y v before (omega (arith, one)) ∙ one

  pub list-next : 0 < number_of n a → r.number ≡ number_of n a
  list-next h = number_answered ∙ number_of_list n a x y v before h

  pub twenty_one_then : number_of n a ≡ 0 → (2 ^ n ≤ x) ⊎ (2 ^ n ≤ y) → r.number ≡ 21
  twenty_one_then e h = number_answered ∙ number-outside n a x y v before e (one_beyond (2 ^ n) x y h)

  pub eight_comes_last : number_of n a ≡ 0 → x < 2 ^ n → y < 2 ^ n → (RoomFor (4 ^ n) before → ⊥) → r.number ≡ 8
  eight_comes_last e g h short = number_answered ∙ number_of_lent n a x y v before e (both_below (2 ^ n) x y g h) ∙ short_unless_room (4 ^ n) before short

  -- An accepted list, a pixel of its image and room for the result are never refused, and nothing else is accepted.
  pub not_refused : number_of n a ≡ 0 → x < 2 ^ n → y < 2 ^ n → RoomFor (4 ^ n) before → r.number ≡ 0
  not_refused e g h room = number_answered ∙ number_of_lent n a x y v before e (both_below (2 ^ n) x y g h) ∙ none_short (4 ^ n) before room

  pub accepted_only : r.number ≡ 0 → (number_of n a ≡ 0) × (x < 2 ^ n) × (y < 2 ^ n) × RoomFor (4 ^ n) before
  unfolding touch_up_number
  accepted_only ok =
      let none : touch_up_number n a x y before ≡ 0 = sym number_answered ∙ ok in
      let one = first-zero (number_of n a) (first (when (outside (2 ^ n) x y) 21) (when (is_too_short (4 ^ n) before) 8)) none in
      let two = first-zero (when (outside (2 ^ n) x y) 21) (when (is_too_short (4 ^ n) before) 8) one.1 in
      let pixel = not_outside (2 ^ n) x y (when_zero (outside (2 ^ n) x y) 21 (omega arith) two.0) in
      (one.0, pixel.0, pixel.1, room_unless_short (4 ^ n) before two.1)

  -- ---- the result

  module _ (ok : r.number ≡ 0) where
    small : n ≤ 8
    small = (number-zero n a.codes a.levels a.colours (accepted_only ok).0).small

    size : length (image_of a) ≡ 4 ^ n
    size = length_image n a (accepted_covers n a (accepted_only ok).0)

    whole : length (repainted (image_of a) (code n x y) v) ≡ 4 ^ n
    unfolding repainted
    whole = length-set (image_of a) (code n x y) v ∙ size

    -- The result is an accepted list.
    pub result_accepted : number_of n (result_of after r) ≡ 0
    unfolding touched_up
    result_accepted = merged_accepted n (repainted (image_of a) (code n x y) v) p.writes ok small

    -- "the image with that pixel alone changed".
    pub result_paints : image_of (result_of after r) ≡ repainted (image_of a) (code n x y) v
    unfolding touched_up
    result_paints = merged_paints n (repainted (image_of a) (code n x y) v) p.writes ok whole

    pub that_pixel : get_or (image_of (result_of after r)) (code n x y) 0 ≡ v
    unfolding repainted
    that_pixel = ap (λ (px : List ℕ). get_or px (code n x y) 0) result_paints ∙ get_or-set_same (image_of a) (code n x y) v 0 (omega (arith, size, code_below n x y))

    pub alone : (c : ℕ) → c ≢ code n x y → get_or (image_of (result_of after r)) c 0 ≡ get_or (image_of a) c 0
    unfolding repainted
    alone c other = ap (λ (px : List ℕ). get_or px c 0) result_paints ∙ get_or-set_other (image_of a) (code n x y) c v 0 other

    -- "the merged list": no other accepted list has these colours.
    pub no_other_list : (other : BlockList) → number_of n other ≡ 0 → image_of other ≡ repainted (image_of a) (code n x y) v → result_of after r ≡ other
    unfolding touched_up
    no_other_list other accepted same = writers.no_other_list n (repainted (image_of a) (code n x y) v) p.writes ok small whole other accepted same

    -- The colour that is there gives the list itself.
    pub same_list : get_or (image_of a) (code n x y) 0 ≡ v → result_of after r ≡ a
    same_list e = no_other_list a (accepted_only ok).0 (sym (same_colour (image_of a) (code n x y) v e))
