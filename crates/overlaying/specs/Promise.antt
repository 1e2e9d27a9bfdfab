-- What laying one block list over another promises: the answer, and the later content of each list that is written to.
use Rattle.std.specs.Prelude.{◌≡◌, refl, List, [], ◌∷◌, ℕ, ◌^◌, ◌<◌}
use Rattle.std.proofs.Common.{sym, ◌∙◌, arith}
use Rattle.sequences.specs.Cases.{first, when, first_some, first_none}
use Rattle.answers.specs.declared.Written.{Written}
use Rattle.quadtree.specs.Blocks.{Block, blocks, paint}
use Rattle.quadtree.specs.Quadtree.{quadtree}
use Rattle.quadtree.specs.Number.{number, number_with}
use Rattle.quadtree.specs.Painting.{block}
use Rattle.quadtree.specs.BlockLists.{BlockList, list_of, image_of, number_of, one_short, least_length, is_too_short, RoomFor}
use Rattle.block_answers.specs.BlockWriters.{WritesBlocks, blocks_refused, blocks_written, one_short_lem, none_short}
use Rattle.runs.specs.Stored.{stored_in_front}
use Rattle.appending.specs.Progress.{AllWritten}
use Rattle.overlaying.specs.Larger.{larger}

-- "the merged list whose every pixel has the larger of the two colours" (document 02, request b).
unfoldable pub overlaid : ℕ → BlockList → BlockList → List Block
unfolding quadtree larger paint blocks
overlaid n a b = quadtree n (larger (image_of a) (image_of b))

-- "Checks: 1, then 2 to 7 on the first list, 2 to 7 on the second, then 8 for three lists of 4^n" (document 02, request b). Both lists
-- have one n, so 1 is met with the first.
unfoldable pub overlay_number : ℕ → BlockList → BlockList → BlockList → ℕ
unfolding first number number_with one_short
overlay_number n a b lent = first (number_of n a) (number_with (is_too_short (4 ^ n) lent) n b.codes b.levels b.colours)

-- The list a laid over the list b. The three lists that are written to are `before` and then `after`.
pub record Overlay (n : ℕ) (a b before after : BlockList) (r : Written) : Type 0 where
  pub writes : WritesBlocks (overlay_number n a b before) (overlaid n a b) before after r

-- ---- cause by cause

module _ (n : ℕ) (a b lent : BlockList) where
  pub number_of_first : 0 < number_of n a → overlay_number n a b lent ≡ number_of n a
  unfolding overlay_number
  number_of_first h = first_some (number_of n a) (number_with (is_too_short (4 ^ n) lent) n b.codes b.levels b.colours) h

  pub first_refused : {k : ℕ} → k ≡ number_of n a → (k ≡ 0 → ⊥) → Overlay n a b lent lent (record { number = k; count = 0 })
  first_refused {k} e some = record { writes = blocks_refused (omega arith) (e ∙ sym (number_of_first (omega (arith, e)))) }

  module _ (first_accepted : number_of n a ≡ 0) where
    past_first : overlay_number n a b lent ≡ first (number_of n b) (when (is_too_short (4 ^ n) lent) 8)
    unfolding overlay_number number_with
    past_first = first_none (number_of n a) (first (number_of n b) (when (is_too_short (4 ^ n) lent) 8)) first_accepted

    pub number_of_second : 0 < number_of n b → overlay_number n a b lent ≡ number_of n b
    number_of_second h = past_first ∙ first_some (number_of n b) (when (is_too_short (4 ^ n) lent) 8) h

    pub second_refused : {k : ℕ} → k ≡ number_of n b → (k ≡ 0 → ⊥) → Overlay n a b lent lent (record { number = k; count = 0 })
    second_refused {k} e some = record { writes = blocks_refused (omega arith) (e ∙ sym (number_of_second (omega (arith, e)))) }

    module _ (second_accepted : number_of n b ≡ 0) where
      pub number_of_lent : overlay_number n a b lent ≡ when (is_too_short (4 ^ n) lent) 8
      number_of_lent = past_first ∙ first_none (number_of n b) (when (is_too_short (4 ^ n) lent) 8) second_accepted

      pub too_short : least_length lent < 4 ^ n → Overlay n a b lent lent (record { number = 8; count = 0 })
      too_short h = record { writes = blocks_refused (omega arith) (sym (number_of_lent ∙ one_short_lem (4 ^ n) lent h)) }

      -- All blocks written.
      pub laid_over : {after : BlockList} {count : ℕ} → RoomFor (4 ^ n) lent → AllWritten n (larger (image_of a) (image_of b)) lent after count
          → Overlay n a b lent after (record { number = 0; count = count })
      unfolding overlaid
      laid_over {after} room w = record { writes = blocks_written (number_of_lent ∙ none_short (4 ^ n) lent room) w.answer (stored_in_front (overlaid n a b) lent after w.lists) }

-- ---- two examples, n = 1

-- A square of colour 3 under four pixels: the pixels of the larger colours.
pixels_over_square : overlaid 1 (list_of (0 ∷ 1 ∷ 2 ∷ 3 ∷ []) (0 ∷ 0 ∷ 0 ∷ 0 ∷ []) (9 ∷ 1 ∷ 2 ∷ 0 ∷ [])) (list_of (0 ∷ []) (1 ∷ []) (3 ∷ []))
    ≡ block 0 0 9 ∷ block 1 0 3 ∷ block 2 0 3 ∷ block 3 0 3 ∷ []
unfolding overlaid
pixels_over_square = refl

-- Four pixels over four others become one block.
pixels_become_one : overlaid 1 (list_of (0 ∷ 1 ∷ 2 ∷ 3 ∷ []) (0 ∷ 0 ∷ 0 ∷ 0 ∷ []) (1 ∷ 2 ∷ 2 ∷ 2 ∷ [])) (list_of (0 ∷ 1 ∷ 2 ∷ 3 ∷ []) (0 ∷ 0 ∷ 0 ∷ 0 ∷ []) (2 ∷ 1 ∷ 1 ∷ 1 ∷ []))
    ≡ block 0 1 2 ∷ []
unfolding overlaid
pixels_become_one = refl
