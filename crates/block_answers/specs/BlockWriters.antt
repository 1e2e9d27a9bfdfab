-- What a writer of a block list answers, and what it leaves in the three lists that it is lent.
use Rattle.std.specs.Prelude.{◌≡◌, refl, Bool, false, List, ℕ, zero, suc, ◌^◌, ◌≤◌, ◌<◌, length, get_or, take, ltb}
use Rattle.std.proofs.Common.{sym, ap, ◌∙◌, arith, lt-ltb, le-ltb, ltb-false}
use Rattle.std.proofs.Math.Decide.{dec_lt}
use Rattle.std.proofs.lemmas.List.{length-map}
use Rattle.sequences.specs.Cases.{when, when_yes, when_no, when_zero, written_refused}
use Rattle.sequences.specs.Over.{over, over_none, over_beyond}
use Rattle.answers.specs.declared.Written.{Written}
use Rattle.answers.specs.Answers.{Writes, writes_none, writes_all, Wrote, accepted_writes}
use Rattle.quadtree.specs.Blocks.{Block, paint}
use Rattle.quadtree.specs.Fields.{codes, levels, colours, blocks_of_fields}
use Rattle.quadtree.specs.Quadtree.{quadtree}
use Rattle.quadtree.specs.Painting.{paint-quadtree}
use Rattle.quadtree.specs.Accepted.{quadtree_accepted, one_accepted_list}
use Rattle.quadtree.specs.BlockLists.{BlockList, list_of, image_of, number_of, least_length, is_too_short, short_by_least, RoomFor, room_by_least}

-- A writer of the blocks bs whose causes give `number`: with one answer it writes each of the three lists, `before` and then `after`. The
-- count is that of the blocks; a refusal gives the number and 0, and leaves the lists as they were.
pub record WritesBlocks (number : ℕ) (bs : List Block) (before after : BlockList) (r : Written) : Type 0 where
  pub in_codes : Writes number (codes bs) before.codes after.codes r
  pub in_levels : Writes number (levels bs) before.levels after.levels r
  pub in_colours : Writes number (colours bs) before.colours after.colours r

-- A refusal writes nothing, and an acceptance writes all blocks.
module _ {number : ℕ} {bs : List Block} {lent : BlockList} where
  pub blocks_refused : {k : ℕ} → 0 < k → k ≡ number → WritesBlocks number bs lent lent (record { number = k; count = 0 })
  blocks_refused {k} p e = by k p e
    where
      by : (k : ℕ) → 0 < k → k ≡ number → WritesBlocks number bs lent lent (record { number = k; count = 0 })
      by zero p e = absurd (omega arith)
      by (suc k) p e =
          record { in_codes = writes_none _ k (sym e) refl refl; in_levels = writes_none _ k (sym e) refl refl; in_colours = writes_none _ k (sym e) refl refl }

  pub blocks_written : {after : BlockList} {count : ℕ} → number ≡ 0 → count ≡ length bs
      → (after.codes ≡ over (codes bs) lent.codes) × (after.levels ≡ over (levels bs) lent.levels) × (after.colours ≡ over (colours bs) lent.colours)
      → WritesBlocks number bs lent after (record { number = 0; count = count })
  blocks_written none counted front =
      record {
        in_codes = writes_all _ none refl (record { count_is = counted ∙ sym (length-map bs (λ (b : Block). b.code)); list = front.0 });
        in_levels = writes_all _ none refl (record { count_is = counted ∙ sym (length-map bs (λ (b : Block). b.level)); list = front.1 });
        in_colours = writes_all _ none refl (record { count_is = counted ∙ sym (length-map bs (λ (b : Block). b.colour)); list = front.2 });
      }

-- ---- 8, for three lists that need k entries each: it comes last, where one of them is too short

module _ (k : ℕ) (lent : BlockList) where
  eight_by_least : when (is_too_short k lent) 8 ≡ when (ltb (least_length lent) k) 8
  eight_by_least = ap (λ (t : Bool). when t 8) (short_by_least k (length lent.codes) (length lent.levels) (length lent.colours))

  pub one_short_lem : least_length lent < k → when (is_too_short k lent) 8 ≡ 8
  one_short_lem h = eight_by_least ∙ when_yes (ltb (least_length lent) k) 8 (lt-ltb (least_length lent) k h)

  pub none_short : RoomFor k lent → when (is_too_short k lent) 8 ≡ 0
  none_short room =
      eight_by_least ∙ when_no (ltb (least_length lent) k) 8 (le-ltb (least_length lent) k (omega (arith, room.in_codes, room.in_levels, room.in_colours)))

  pub room_unless_short : when (is_too_short k lent) 8 ≡ 0 → RoomFor k lent
  room_unless_short e =
      let long : ltb (least_length lent) k ≡ false = when_zero (ltb (least_length lent) k) 8 (omega arith) (sym eight_by_least ∙ e) in
      room_by_least (ltb-false (least_length lent) k long)

  pub short_unless_room : (RoomFor k lent → ⊥) → when (is_too_short k lent) 8 ≡ 8
  short_unless_room none = pick (dec_lt (least_length lent) k)
    where
      pick : Dec (least_length lent < k) → when (is_too_short k lent) 8 ≡ 8
      pick (yes h) = one_short_lem h
      pick (no h) = absurd (none (room_by_least (omega arith)))

-- ---- what a caller knows of the answer and of the lists at exit

-- The list that was written: the three lists at exit up to the count.
abbrev pub result_of : BlockList → Written → BlockList
result_of after r = list_of (take r.count after.codes) (take r.count after.levels) (take r.count after.colours)

module _ {number : ℕ} {bs : List Block} {before after : BlockList} {r : Written} (w : WritesBlocks number bs before after r) where
  pub number_answered : r.number ≡ number
  number_answered = w.in_codes.number_is

  -- After a refusal the count is 0 and all lists are as they were.
  pub refusal_leaves_all : 0 < r.number → (r.count ≡ 0) × (after ≡ before)
  refusal_leaves_all h = (
    w.in_codes.count_is ∙ ap length (written_refused number (codes bs) some),
    λ i. record { codes = left w.in_codes i; levels = left w.in_levels i; colours = left w.in_colours i },
  )
    where
      some : 0 < number
      some = omega (arith, number_answered)

      left : {new old now : List ℕ} → Writes number new old now r → now ≡ old
      left {new} {old} v = v.list ∙ ap (λ (l : List ℕ). over l old) (written_refused number new some) ∙ over_none old

  module _ (ok : r.number ≡ 0) where
    wrote : {new old now : List ℕ} → Writes number new old now r → Wrote new old now r
    wrote {new} {old} {now} v = accepted_writes number new old now r v (sym number_answered ∙ ok)

    pub blocks_counted : r.count ≡ length bs
    blocks_counted = (wrote w.in_codes).count_is ∙ length-map bs (λ (b : Block). b.code)

    -- The lists at exit hold the blocks, up to the count.
    pub result_is_written : result_of after r ≡ list_of (codes bs) (levels bs) (colours bs)
    result_is_written i =
        record { codes = (wrote w.in_codes).up_to_count i; levels = (wrote w.in_levels).up_to_count i; colours = (wrote w.in_colours).up_to_count i }

    pub result_counted : r.count ≡ length (result_of after r).codes
    result_counted = (wrote w.in_codes).count_is ∙ ap (λ (l : BlockList). length l.codes) (sym result_is_written)

    -- Entries beyond the count are as they were.
    pub beyond_unchanged : (i : ℕ) → r.count ≤ i
        → (get_or after.codes i 0 ≡ get_or before.codes i 0) × (get_or after.levels i 0 ≡ get_or before.levels i 0) × (get_or after.colours i 0 ≡ get_or before.colours i 0)
    beyond_unchanged i h = (kept w.in_codes, kept w.in_levels, kept w.in_colours)
      where
        kept : {new old now : List ℕ} → Writes number new old now r → get_or now i 0 ≡ get_or old i 0
        kept {new} {old} v = ap (λ (l : List ℕ). get_or l i 0) (wrote v).list ∙ over_beyond new old i (omega (arith, (wrote v).count_is))

-- The blocks are the quadtree of an image: the result is the one accepted list that paints it.
module _ {number : ℕ} (n : ℕ) (px : List ℕ) {before after : BlockList} {r : Written} (w : WritesBlocks number (quadtree n px) before after r) (ok : r.number ≡ 0) where
  pub merged_accepted : n ≤ 8 → number_of n (result_of after r) ≡ 0
  merged_accepted small = ap (number_of n) (result_is_written w ok) ∙ quadtree_accepted n px small

  pub merged_paints : length px ≡ 4 ^ n → image_of (result_of after r) ≡ px
  merged_paints whole = ap image_of (result_is_written w ok) ∙ ap paint (blocks_of_fields (quadtree n px)) ∙ paint-quadtree n px whole

  pub no_other_list : n ≤ 8 → length px ≡ 4 ^ n → (other : BlockList) → number_of n other ≡ 0 → image_of other ≡ px → result_of after r ≡ other
  no_other_list small whole other accepted same =
      let one = one_accepted_list n (result_of after r).codes (result_of after r).levels (result_of after r).colours other.codes other.levels other.colours
      (merged_accepted small) accepted (merged_paints whole ∙ sym same) in
      λ i. record { codes = one.0 i; levels = one.1 i; colours = one.2 i }
