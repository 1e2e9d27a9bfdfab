-- The loop that writes four pixels, each a block: what it needs, and what holds at its head.
use Rattle.std.specs.Prelude.{◌≡◌, List, ℕ, ◌+◌, ◌≤◌, ◌<◌, get_or, set}
use Rattle.std.proofs.Common.{sym, ◌∙◌, add-one, arith}
use Rattle.std.proofs.Math.Path.{ap}
use Rattle.quadtree.specs.BlockLists.{BlockList, list_of, RoomFor, SameLengths, room_again, room_for_fewer}
use Rattle.runs.specs.Stored.{stored, stored_none, stored_one, length-stored}
use Rattle.map_blocks.specs.Fours.{pixel_blocks, length_pixel_blocks}

-- Four codes of an image, and room for four blocks from the place `at` on.
pub record PixelsFit (c at : ℕ) (lists : BlockList) : Type 0 where
  pub small : c + 4 ≤ 65536
  pub low : at ≤ 65536
  pub room : RoomFor (at + 4) lists

-- At the loop's head: the first k pixels are written.
pub record PixelsWritten (four : List ℕ) (c at : ℕ) (before now : BlockList) (k : ℕ) : Type 0 where
  pub within : k ≤ 4
  pub lists : now ≡ stored at (pixel_blocks four c k) before

pub pixels_none : {four : List ℕ} {c at : ℕ} {before : BlockList} → PixelsWritten four c at before before 0
unfolding pixel_blocks
pixels_none {four} {c} {at} {before} = record { within = omega arith; lists = sym (stored_none at before) }

module _ {four : List ℕ} {c at : ℕ} {before now : BlockList} {k : ℕ} (f : PixelsFit c at before) (p : PixelsWritten four c at before now k) where
  pub pixels_same : SameLengths now before
  pixels_same =
      length-stored at (pixel_blocks four c k) before now p.lists (room_for_fewer (omega (arith, length_pixel_blocks four c k, p.within)) f.room)

  pub pixel_room : k < 4 → RoomFor (at + k + 1) now
  pixel_room more = room_for_fewer (omega arith) (room_again pixels_same f.room)

  pub pixels-more : k < 4 → PixelsWritten four c at before
      (list_of (set now.codes (at + k) (c + k)) (set now.levels (at + k) 0) (set now.colours (at + k) (get_or four k 0))) (k + 1)
  unfolding pixel_blocks
  pixels-more more = record {
    within = omega arith;
    lists =
        stored_one at (pixel_blocks four c k) before now (at + k) (c + k) 0 (get_or four k 0) p.lists (omega (arith, length_pixel_blocks four c k))
        (room_for_fewer (omega arith) f.room)
        ∙ ap (λ (j : ℕ). stored at (pixel_blocks four c j) before) (sym (add-one k));
  }

  pub pixels_all : 4 ≤ k → now ≡ stored at (pixel_blocks four c 4) before
  pixels_all end = let e : k ≡ 4 = omega (arith, p.within) in p.lists ∙ ap (λ (j : ℕ). stored at (pixel_blocks four c j) before) e
