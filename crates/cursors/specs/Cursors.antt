-- A cursor in an accepted block list: the block where it stands, and one step on.
use Rattle.std.specs.Prelude.{◌≡◌, Bool, cond, ℕ, suc, ◌+◌, ◌^◌, ◌≤◌, ◌<◌, length, get_or, take, ltb}
use Rattle.std.proofs.Common.{sym, ◌∙◌, subst, arith, take_all, lt-ltb, le-ltb}
use Rattle.std.proofs.Math.Path.{ap}
use Rattle.std.proofs.Math.Decide.{dec_lt}
use Rattle.sequences.specs.Powers.{pow4_pos, pow4_mono}
use Rattle.quadtree.specs.Blocks.{Block, pixels}
use Rattle.quadtree.specs.Accepted.{Passes, number-zero}
use Rattle.quadtree.specs.BlockLists.{BlockList, blocks_of, image_of, number_of}
use Rattle.staircase.specs.FirstBlocks.{all_pixels}
use Rattle.components.specs.Holders.{pixels_with, first_pixels_in_image, held_colour}
use Rattle.components.specs.Walk.{block_at_lem, block-count, inside, level_is, first-is, level_at_most}

-- The code after the last pixel of the block at the place i.
abbrev pub end_at : BlockList → ℕ → ℕ
end_at a i = get_or a.codes i 0 + 4 ^ get_or a.levels i 0

-- Where a cursor at the place i goes on to, whose block ends at `ending`, once the pixels with codes below `done` are done.
abbrev pub next_place : ℕ → ℕ → ℕ → ℕ
next_place i ending done = cond (ltb done ending) i (i + 1)

-- What is known of the block at the place i.
pub record BlockThere (n : ℕ) (a : BlockList) (i : ℕ) : Type 0 where
  pub in_levels : i < length a.levels
  pub in_colours : i < length a.colours
  pub small : get_or a.codes i 0 < 65536
  pub low : get_or a.levels i 0 ≤ 8
  pub in_image : end_at a i ≤ 4 ^ n
  -- Its pixels have its colour.
  pub coloured : (c : ℕ) → get_or a.codes i 0 ≤ c → c < end_at a i → get_or (image_of a) c 0 ≡ get_or a.colours i 0

-- The pixels with codes below c are done: the cursor stands at the block that holds c, or past the last block at the image's end.
pub record At (n : ℕ) (a : BlockList) (c i : ℕ) : Type 0 where
  pub from : i < length a.codes → get_or a.codes i 0 ≤ c
  pub within : i < length a.codes → c < end_at a i
  pub past : length a.codes ≤ i → c ≡ 4 ^ n

module _ (n : ℕ) (a : BlockList) (accepted : number_of n a ≡ 0) where
  passes : Passes n a.codes a.levels a.colours
  passes = number-zero n a.codes a.levels a.colours accepted

  -- The pixels of the blocks up to the place i, with the one there.
  end_is : (i : ℕ) → i < length a.codes → pixels (take (suc i) (blocks_of a)) ≡ end_at a i
  end_is i h =
      omega (arith, pixels_with n (blocks_of a) passes.covering i (inside passes i h), first-is passes i h, ap (λ (l : ℕ). 4 ^ l) (level_is passes i h))

  next-code : (i : ℕ) → i < length a.codes → i + 1 < length a.codes → get_or a.codes (i + 1) 0 ≡ end_at a i
  next-code i h g =
      let e : i + 1 ≡ suc i = omega arith in
      sym (first-is passes (i + 1) g) ∙ ap (λ (k : ℕ). pixels (take k (blocks_of a))) e ∙ end_is i h

  pub block_there : (i : ℕ) → i < length a.codes → BlockThere n a i
  block_there i h =
      let fits : end_at a i ≤ 4 ^ n = omega (arith, end_is i h, first_pixels_in_image n (blocks_of a) passes.covering (suc i)) in
      record {
        in_levels = omega (arith, passes.equal_levels);
        in_colours = omega (arith, passes.equal_levels, passes.equal_colours);
        small = omega (arith, fits, pow4_pos (get_or a.levels i 0), pow4_mono passes.small);
        low = omega (arith, level_at_most passes i h, passes.small);
        in_image = fits;
        coloured = λ c low high.
            held_colour (blocks_of a) i c (record { place = inside passes i h; from = omega (arith, first-is passes i h); before = omega (arith, end_is i h) })
            ∙ ap (λ (b : Block). b.colour) (block_at_lem a.codes a.levels a.colours passes.equal_levels passes.equal_colours i h);
      }

  -- Before the first pixel, and one step on, to a code d no farther than the end of the block.
  pub at_start : At n a 0 0
  unfolding pixels
  at_start = record {
    from = λ h. omega (arith, first-is passes 0 h);
    within = λ h. omega (arith, pow4_pos (get_or a.levels 0 0));
    past = λ h. omega (arith, all_pixels n (blocks_of a) passes.covering, ap pixels (take_all 0 (blocks_of a) (omega (arith, block-count passes))));
  }

  pub at_onward : {c d i i' ending : ℕ} → At n a c i → i < length a.codes → ending ≡ end_at a i → c ≤ d → d ≤ ending → i' ≡ next_place i ending d → At n a d i'
  at_onward {c} {d} {i} {i'} {ending} at h e from fits next = subst (At n a d) (sym next) (pick (dec_lt d ending))
    where
      stays : d < ending → At n a d i
      stays l = record { from = λ g. omega (arith, at.from h); within = λ g. omega arith; past = λ g. absurd (omega arith) }

      goes : ending ≡ d → At n a d (i + 1)
      goes f = record {
        from = λ g. omega (arith, next-code i h g);
        within = λ g. omega (arith, next-code i h g, pow4_pos (get_or a.levels (i + 1) 0));
        past = λ g. omega (arith, end_is i h, all_pixels n (blocks_of a) passes.covering, ap pixels (take_all (suc i) (blocks_of a) (omega (arith, block-count passes))));
      }

      pick : Dec (d < ending) → At n a d (next_place i ending d)
      pick (yes l) = subst (At n a d) (ap (λ (t : Bool). cond t i (i + 1)) (sym (lt-ltb d ending l))) (stays l)
      pick (no l) = subst (At n a d) (ap (λ (t : Bool). cond t i (i + 1)) (sym (le-ltb d ending (omega arith)))) (goes (omega arith))

  -- A cursor at a pixel of the image is not past the last block.
  pub not_past : (c i : ℕ) → At n a c i → c < 4 ^ n → i < length a.codes
  not_past c i at l = pick (dec_lt i (length a.codes))
    where
      pick : Dec (i < length a.codes) → i < length a.codes
      pick (yes h) = h
      pick (no h) = absurd (omega (arith, at.past (omega arith)))
