-- One call on accepted lists: what it answers and writes; a scan over itself, and over the single block of level n and colour 0.
use Rattle.std.specs.Prelude.{◌≡◌, refl, ℕ, ◌^◌, ◌≤◌, length}
use Rattle.std.proofs.Common.{sym, ◌∙◌, arith}
use Rattle.std.proofs.Math.Path.{ap}
use Rattle.std.proofs.Math.Nat.{zero-mod}
use Rattle.sequences.specs.Powers.{pow4_pos}
use Rattle.quadtree.specs.Blocks.{blocks}
use Rattle.quadtree.specs.Number.{siblings}
use Rattle.quadtree.specs.Covering.{Covers, zero_of_covers}
use Rattle.quadtree.specs.Painting.{paint-block}
use Rattle.quadtree.specs.Accepted.{number-zero, zero_number}
use Rattle.quadtree.specs.BlockLists.{BlockList, blocks_of, image_of, number_of, accepted_covers, length_image}
use Rattle.block_answers.specs.BlockWriters.{result_counted}
use Rattle.overlaying.specs.Larger.{larger}
use Rattle.overlaying.specs.Callers.{not_refused, result_accepted, result_paints_larger, no_other_list}
use Rattle.layers.specs.Calls.{Out, result, Call, single_block, Gives}
use Rattle.layers.specs.Largest.{larger_commutes, larger_itself, larger_zeros}

-- Accepted lists and lists lent of the stated length: the answer is 0, and the result, as long as the count says, is an accepted list that
-- has the larger colours.
module _ {n : ℕ} {a b : BlockList} {o : Out} (f : number_of n a ≡ 0) (g : number_of n b ≡ 0) (c : Call n a b o) where
  pub call_answers : o.answer.number ≡ 0
  call_answers = not_refused c.promise f g c.room

  pub call_accepted : number_of n (result o) ≡ 0
  call_accepted = result_accepted c.promise call_answers

  pub call_paints : image_of (result o) ≡ larger (image_of a) (image_of b)
  call_paints = result_paints_larger c.promise call_answers

  pub call_counted : o.answer.count ≡ length (result o).codes
  call_counted = result_counted c.promise.writes call_answers

  pub call_gives : {d : BlockList} → result o ≡ d → Gives d o
  call_gives same = record {
    answered = call_answers;
    counted = call_counted ∙ ap (λ (l : BlockList). length l.codes) same;
    in_codes = ap (λ (l : BlockList). l.codes) same;
    in_levels = ap (λ (l : BlockList). l.levels) same;
    in_colours = ap (λ (l : BlockList). l.colours) same;
  }

  -- It gives any accepted list that has the larger colours.
  gives_larger : (d : BlockList) → number_of n d ≡ 0 → image_of d ≡ larger (image_of a) (image_of b) → Gives d o
  gives_larger d accepted colours = call_gives (no_other_list c.promise call_answers d accepted colours)

pub length_accepted_image : (n : ℕ) (a : BlockList) → number_of n a ≡ 0 → length (image_of a) ≡ 4 ^ n
length_accepted_image n a f = length_image n a (accepted_covers n a f)

-- "A scan over itself gives itself." (document 02, request l)
pub over_itself : {n : ℕ} {a : BlockList} {o : Out} → number_of n a ≡ 0 → Call n a a o → Gives a o
over_itself {n} {a} f c = gives_larger f f c a f (sym (larger_itself (image_of a)))

-- ---- "A scan over the single block of level n and colour 0 gives itself." (document 02, request l)

pub single_block_accepted : (n : ℕ) → n ≤ 8 → number_of n (single_block n) ≡ 0
unfolding Covers siblings blocks
single_block_accepted n small =
    zero_number n (single_block n).codes (single_block n).levels (single_block n).colours
    (record {
      small = small;
      equal_levels = refl;
      equal_colours = refl;
      covering = zero_of_covers n 0 (blocks_of (single_block n)) (omega arith, refl, pow4_pos n, zero-mod _, omega arith);
      unmerged = refl;
    })

module _ (n : ℕ) (a : BlockList) (f : number_of n a ≡ 0) where
  accepted_too : number_of n (single_block n) ≡ 0
  accepted_too = single_block_accepted n (number-zero n a.codes a.levels a.colours f).small

  larger_single_block : larger (image_of a) (image_of (single_block n)) ≡ image_of a
  unfolding blocks
  larger_single_block = ap (larger (image_of a)) (paint-block 0 n 0) ∙ larger_zeros (image_of a) (4 ^ n) (length_accepted_image n a f)

pub over_single_block : {n : ℕ} {a : BlockList} {o : Out} → number_of n a ≡ 0 → Call n a (single_block n) o → Gives a o
over_single_block {n} {a} f c = gives_larger f (accepted_too n a f) c a f (sym (larger_single_block n a f))

-- From the other side.
pub single_block_over : {n : ℕ} {a : BlockList} {o : Out} → number_of n a ≡ 0 → Call n (single_block n) a o → Gives a o
single_block_over {n} {a} f c =
    gives_larger (accepted_too n a f) f c a f (sym (larger_commutes (image_of (single_block n)) (image_of a) ∙ larger_single_block n a f))
