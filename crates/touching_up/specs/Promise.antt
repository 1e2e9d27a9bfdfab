-- What touching up one pixel promises: the answer, and the later content of each list that is written to.
use Rattle.std.specs.Prelude.{◌≡◌, refl, Bool, true, false, ◌||◌, ◌⊎◌, ℕ, ◌^◌, ◌≤◌, ◌<◌, set, leb}
use Rattle.std.proofs.Common.{sym, ap₂, ◌∙◌, true≢false, inl, inr, arith, le-leb}
use Rattle.std.proofs.Math.Path.{ap}
use mathlib.Core.List.{List, [], ◌∷◌}
use Rattle.std.proofs.Math.Decide.{dec_lt}
use Rattle.std.proofs.Math.ListN.{length}
use Rattle.std.proofs.lemmas.Bool.{lt-leb}
use Rattle.sequences.specs.Cases.{first, when, first_some, first_none, when_yes, when_no, or_right}
use Rattle.answers.specs.declared.Written.{Written}
use Rattle.interleaving.specs.Codes.{code}
use Rattle.quadtree.specs.Blocks.{Block, blocks, paint}
use Rattle.quadtree.specs.Quadtree.{quadtree}
use Rattle.quadtree.specs.Number.{number}
use Rattle.quadtree.specs.Painting.{block}
use Rattle.quadtree.specs.BlockLists.{BlockList, list_of, image_of, number_of, one_short, least_length, is_too_short, RoomFor}
use Rattle.runs.specs.Stored.{stored, stored_in_front}
use Rattle.block_answers.specs.BlockWriters.{WritesBlocks, blocks_refused, blocks_written, one_short_lem, none_short}
use Rattle.appending.specs.Progress.{AllWritten}

-- "the image with that pixel alone changed" (document 02, request j): an image in rising location code, the pixel by its code, and its
-- colour.
unfoldable pub repainted : List ℕ → ℕ → ℕ → List ℕ
repainted px c v = set px c v

-- "the merged list of the image with that pixel alone changed": the pixel (x, y) of the list's image, with the colour v.
unfoldable pub touched_up : ℕ → BlockList → ℕ → ℕ → ℕ → List Block
unfolding quadtree repainted paint blocks code
touched_up n a x y v = quadtree n (repainted (image_of a) (code n x y) v)

-- 21, "x or y not below 2^n": whether (x, y) lies outside an image of side w.
unfoldable pub outside : ℕ → ℕ → ℕ → Bool
outside w x y = leb w x || leb w y

pub one_beyond : (w x y : ℕ) → (w ≤ x) ⊎ (w ≤ y) → outside w x y ≡ true
unfolding outside
one_beyond w x y (inl h) = ap (λ (t : Bool). t || leb w y) (le-leb w x h)
one_beyond w x y (inr h) = or_right (leb w x) (leb w y) (le-leb w y h)

pub both_below : (w x y : ℕ) → x < w → y < w → outside w x y ≡ false
unfolding outside
both_below w x y g h = ap₂ ◌||◌ (lt-leb w x g) (lt-leb w y h)

pub not_outside : (w x y : ℕ) → outside w x y ≡ false → (x < w) × (y < w)
not_outside w x y h = (pick x (λ l. inl l) (dec_lt x w), pick y (λ l. inr l) (dec_lt y w))
  where
    pick : (z : ℕ) → (w ≤ z → (w ≤ x) ⊎ (w ≤ y)) → Dec (z < w) → z < w
    pick z far (yes l) = l
    pick z far (no l) = absurd (true≢false (sym (one_beyond w x y (far (omega arith))) ∙ h))

-- "Checks: 1 to 7, then new 21 (x or y not below 2^n), then 8 for output lists of 4^n" (document 02, request j).
unfoldable pub touch_up_number : ℕ → BlockList → ℕ → ℕ → BlockList → ℕ
unfolding first when number outside one_short
touch_up_number n a x y lent = first (number_of n a) (first (when (outside (2 ^ n) x y) 21) (when (is_too_short (4 ^ n) lent) 8))

-- The pixel (x, y) of the list a touched up with the colour v. The three lists that are written to are `before` and then `after`.
pub record TouchUp (n : ℕ) (a : BlockList) (x y v : ℕ) (before after : BlockList) (r : Written) : Type 0 where
  pub writes : WritesBlocks (touch_up_number n a x y before) (touched_up n a x y v) before after r

-- ---- cause by cause

module _ (n : ℕ) (a : BlockList) (x y v : ℕ) (lent : BlockList) where
  pub number_of_list : 0 < number_of n a → touch_up_number n a x y lent ≡ number_of n a
  unfolding touch_up_number
  number_of_list h = first_some (number_of n a) _ h

  pub list_refused : {k : ℕ} → k ≡ number_of n a → (k ≡ 0 → ⊥) → TouchUp n a x y v lent lent (record { number = k; count = 0 })
  list_refused {k} e some = record { writes = blocks_refused (omega arith) (e ∙ sym (number_of_list (omega (arith, e)))) }

  module _ (accepted : number_of n a ≡ 0) where
    past-list : touch_up_number n a x y lent ≡ first (when (outside (2 ^ n) x y) 21) (when (is_too_short (4 ^ n) lent) 8)
    unfolding touch_up_number
    past-list = first_none (number_of n a) (first (when (outside (2 ^ n) x y) 21) (when (is_too_short (4 ^ n) lent) 8)) accepted

    pub number-outside : outside (2 ^ n) x y ≡ true → touch_up_number n a x y lent ≡ 21
    number-outside h =
        let e : when (outside (2 ^ n) x y) 21 ≡ 21 = when_yes (outside (2 ^ n) x y) 21 h in
        past-list ∙ first_some (when (outside (2 ^ n) x y) 21) (when (is_too_short (4 ^ n) lent) 8) (omega (arith, e)) ∙ e

    pub pixel_outside : outside (2 ^ n) x y ≡ true → TouchUp n a x y v lent lent (record { number = 21; count = 0 })
    pixel_outside h = record { writes = blocks_refused (omega arith) (sym (number-outside h)) }

    module _ (inside : outside (2 ^ n) x y ≡ false) where
      pub number_of_lent : touch_up_number n a x y lent ≡ when (is_too_short (4 ^ n) lent) 8
      number_of_lent =
          past-list ∙ first_none (when (outside (2 ^ n) x y) 21) (when (is_too_short (4 ^ n) lent) 8) (when_no (outside (2 ^ n) x y) 21 inside)

      pub too_short : least_length lent < 4 ^ n → TouchUp n a x y v lent lent (record { number = 8; count = 0 })
      too_short h = record { writes = blocks_refused (omega arith) (sym (number_of_lent ∙ one_short_lem (4 ^ n) lent h)) }

      -- All blocks written; c is the code of the pixel.
      pub all_repainted : {after : BlockList} {count : ℕ} (c : ℕ) → RoomFor (4 ^ n) lent → c ≡ code n x y → AllWritten n (repainted (image_of a) c v) lent after count
          → TouchUp n a x y v lent after (record { number = 0; count = count })
      unfolding touched_up
      all_repainted {after} c room e w =
          let same : quadtree n (repainted (image_of a) c v) ≡ touched_up n a x y v = ap (λ (k : ℕ). quadtree n (repainted (image_of a) k v)) e in
          record {
            writes =
                blocks_written (number_of_lent ∙ none_short (4 ^ n) lent room) (w.answer ∙ ap length same)
                (stored_in_front (touched_up n a x y v) lent after (w.lists ∙ ap (λ (bs : List Block). stored 0 bs lent) same));
          }

-- ---- examples, n = 1

-- The northeast pixel of a square, and the square again.
speck_on_square : (touched_up 1 (list_of (0 ∷ []) (1 ∷ []) (5 ∷ [])) 1 0 7 ≡ block 0 0 5 ∷ block 1 0 7 ∷ block 2 0 5 ∷ block 3 0 5 ∷ [])
    × (touched_up 1 (list_of (0 ∷ 1 ∷ 2 ∷ 3 ∷ []) (0 ∷ 0 ∷ 0 ∷ 0 ∷ []) (5 ∷ 7 ∷ 5 ∷ 5 ∷ [])) 1 0 5 ≡ block 0 1 5 ∷ [])
unfolding touched_up
speck_on_square = (refl, refl)
