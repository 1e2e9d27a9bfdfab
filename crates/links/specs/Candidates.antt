-- Where the cycles of a region can start: along the top rows of its blocks, in list order.
use Rattle.std.specs.Prelude.{◌≡◌, length, get_or}
use Rattle.std.proofs.Common.{sym, ◌∙◌, arith}
use mathlib.Core.List.{List, flat_map}
use Prim.Native.Nat.{ℕ, suc, ◌^◌, ◌≤◌, ◌<◌}
use Rattle.sequences.specs.Ranges.{range}
use Rattle.quadtree.specs.Blocks.{Block, paint}
use Rattle.quadtree.specs.Number.{cover}
use Rattle.components.specs.Holders.{block_at, holder, HoldsAt, pixels_grow, held_colour, held_in_image, pixel_held}
use Rattle.orbits.specs.Members.{In, Ordered, in_flat, flat_in, ordered_flat}
use Rattle.grid.specs.Listing.{keep, starts_in, starts}
use Rattle.grid.specs.Keeping.{in_keep, keep_in, ordered_keep, in_range, in_starts, starts_rise}
use Rattle.grid.specs.Starting.{StartAt, start_says}
use Rattle.links.specs.Rising.{rising_same}
use Rattle.links.specs.TopRows.{top_row, top-row-held, top-row_rises, edge_in_top_row}
use Rattle.links.specs.Links.{places_from, in_places, places_in, places_rise}

-- The colour of the block at a place. Where the colours of a list are labels, it is the number of the block's region.
abbrev pub colour_at : List Block → ℕ → ℕ
colour_at bs j = (block_at bs j).colour

-- The pixels of the top rows of the blocks of colour r from the place i on: blocks in list order, pixels from west to east.
unfoldable pub rows_from : ℕ → List Block → ℕ → ℕ → List ℕ
unfolding flat_map top_row places_from
rows_from n bs r i = flat_map (λ j. top_row n (block_at bs j)) (places_from (colour_at bs) (length bs) r i)

module _ (n : ℕ) (bs : List Block) (covering : cover n 0 bs ≡ 0) (r : ℕ) where
  -- A candidate is a pixel of a block of colour r.
  pub record Candidate (i c : ℕ) : Type 0 where
    pub block : ℕ
    pub from : i ≤ block
    pub holds : HoldsAt bs block c
    pub colour : (block_at bs block).colour ≡ r

  pub in_rows : (i c : ℕ) → In c (rows_from n bs r i) → Candidate i c
  unfolding rows_from
  in_rows i c w = from (in_flat (λ j. top_row n (block_at bs j)) (places_from (colour_at bs) (length bs) r i) c w)
    where
      from : (j : ℕ) × In j (places_from (colour_at bs) (length bs) r i) × In c (top_row n (block_at bs j)) → Candidate i c
      from (j, p, q) =
          let l = in_places (colour_at bs) (length bs) r i j p in
          record { block = j; from = l.0; holds = top-row-held n bs covering j l.1 c q; colour = l.2 }

  pub candidate-inside : (i c : ℕ) → In c (rows_from n bs r i) → c < 4 ^ n
  candidate-inside i c w = let k = in_rows i c w in held_in_image n bs covering k.block c k.holds

  pub candidate-number : (i c : ℕ) → In c (rows_from n bs r i) → get_or (paint bs) c 0 ≡ r
  candidate-number i c w = let k = in_rows i c w in held_colour bs k.block c k.holds ∙ k.colour

  -- They come by rising codes.
  pub rows_rise : (i : ℕ) → Ordered ◌<◌ (rows_from n bs r i)
  unfolding rows_from
  rows_rise i =
      ordered_flat ◌<◌ ◌<◌ (λ j. top_row n (block_at bs j)) (places_from (colour_at bs) (length bs) r i) (places_rise (colour_at bs) (length bs) r i)
      (λ j w. top-row_rises n bs covering j (in_places (colour_at bs) (length bs) r i j w).1)
      (λ j k a b v w l p q.
      let f = top-row-held n bs covering j (in_places (colour_at bs) (length bs) r i j v).1 a p in
      let g = top-row-held n bs covering k (in_places (colour_at bs) (length bs) r i k w).1 b q in
      omega (arith, f.before, g.from, pixels_grow bs (suc j) k l))

  -- Where the colours are the region numbers, the cycles of region r start at candidates only, and in their order.
  pub starts-along-rows : n ≤ 8 → starts n (paint bs) r ≡ keep (starts_in n (paint bs) r) (rows_from n bs r 0)
  unfolding starts rows_from
  starts-along-rows small =
      rising_same (starts n (paint bs) r) (keep (starts_in n (paint bs) r) (rows_from n bs r 0))
      (starts_rise n (paint bs) r) (ordered_keep (starts_in n (paint bs) r) ◌<◌ (rows_from n bs r 0) (rows_rise 0)) to from
    where
      to : (a : ℕ) → In a (starts n (paint bs) r) → In a (keep (starts_in n (paint bs) r) (rows_from n bs r 0))
      to a w =
          let h = (in_starts n (paint bs) r a).0 w in
          let k = in_keep (starts_in n (paint bs) r) (range 0 (4 ^ n)) a w in
          let s : StartAt n (paint bs) a = start_says n (paint bs) small a h.0 h.2 in
          let p : HoldsAt bs (holder bs a) a = pixel_held n bs covering a h.0 in
          keep_in (starts_in n (paint bs) r) (rows_from n bs r 0) a
          (flat_in (λ j. top_row n (block_at bs j)) (places_from (colour_at bs) (length bs) r 0) (holder bs a) a
          (places_in (colour_at bs) (length bs) r 0 (holder bs a) (omega arith) p.place (sym (held_colour bs (holder bs a) a p) ∙ h.1))
          (edge_in_top_row n bs covering small (holder bs a) a p s.north))
          k.1

      from : (a : ℕ) → In a (keep (starts_in n (paint bs) r) (rows_from n bs r 0)) → In a (starts n (paint bs) r)
      from a w =
          let k = in_keep (starts_in n (paint bs) r) (rows_from n bs r 0) a w in
          keep_in (starts_in n (paint bs) r) (range 0 (4 ^ n)) a ((in_range a (4 ^ n)).1 (candidate-inside 0 a k.0)) k.1
