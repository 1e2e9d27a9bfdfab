-- Going forward over the blocks of a list whose colours are labels: each region is met first at its first block, in the order of
-- the numbers, and its chain of blocks holds the starts of its cycles.
use Rattle.std.specs.Prelude.{◌≡◌, refl, ◌≢◌, length, drop, get_or}
use Rattle.std.proofs.Common.{sym, ◌∙◌, subst, add-one, length-drop, eq-eqb}
use Rattle.std.proofs.Math.Path.{ap}
use mathlib.Core.List.{List, [], ◌++◌, flat_map, append-nil}
use Prim.Native.Nat.{ℕ, zero, suc, ◌+◌, ◌-◌, ◌^◌, ◌≤◌, ◌<◌}
use Rattle.std.proofs.Math.Decide.{dec_lt, ℕ_discrete}
use native.Mathlib.Omega.{arith}
use Rattle.sequences.specs.Ranges.{range}
use Rattle.quadtree.specs.Blocks.{Block, paint}
use Rattle.quadtree.specs.Number.{cover}
use Rattle.unions.specs.Counting.{Before, CountsUp}
use Rattle.components.specs.Holders.{block_at, holder, HoldsAt, held_colour, pixel_held}
use Rattle.orbits.specs.Members.{In, Ordered, in_flat}
use Rattle.grid.specs.Cycles.{is_start}
use Rattle.grid.specs.Listing.{keep, starts_in, starts, start_codes, listing}
use Rattle.grid.specs.Keeping.{in_starts}
use Rattle.links.specs.TopRows.{top_row}
use Rattle.links.specs.Links.{places_from, in_range_from, places_later, Next}
use Rattle.links.specs.Candidates.{colour_at, rows_from, rows_rise, candidate-inside, candidate-number, starts-along-rows}
use Rattle.links.specs.Ahead.{all_starts, keep_same, Ahead, drop_part}
use Rattle.links.specs.FirstCycles.{first_cycles, starts_from, starts_from_more, no_starts_from, first_all}

-- A list of blocks that covers the image, with labels for colours: below 4^n, and before a label comes, every smaller one has come.
pub record Labelled (n : ℕ) (bs : List Block) : Type 0 where
  pub small : n ≤ 8
  pub covering : cover n 0 bs ≡ 0
  pub known : (i : ℕ) → i < length bs → (block_at bs i).colour < 4 ^ n
  pub counted : CountsUp (length bs) (λ i. (block_at bs i).colour)

-- ---- the chain of a region's blocks

module _ (n : ℕ) (bs : List Block) (r : ℕ) where
  pub rows_next : (i j : ℕ) → Next (colour_at bs) (length bs) r i j → rows_from n bs r i ≡ top_row n (block_at bs j) ++ rows_from n bs r (suc j)
  unfolding rows_from flat_map
  rows_next i j w = ap (flat_map (λ k. top_row n (block_at bs k))) w.then

  pub rows_none : (i : ℕ) → places_from (colour_at bs) (length bs) r i ≡ [] → rows_from n bs r i ≡ []
  unfolding rows_from flat_map
  rows_none i e = ap (flat_map (λ k. top_row n (block_at bs k))) e

  -- Where no block before i has the colour, the chain from i on is the whole chain.
  places_from_first : (i : ℕ) → i ≤ length bs → ((j : ℕ) → j < i → (block_at bs j).colour ≢ r) → places_from (colour_at bs) (length bs) r 0 ≡ places_from (colour_at bs) (length bs) r i
  places_from_first zero l none = refl
  places_from_first (suc i) l none =
      places_from_first i (omega arith) (λ j h. none j (omega arith)) ∙ places_later (colour_at bs) (length bs) r i (omega arith) (none i (omega arith))

  pub rows_from_first : (i : ℕ) → i ≤ length bs → ((j : ℕ) → j < i → (block_at bs j).colour ≢ r) → rows_from n bs r 0 ≡ rows_from n bs r i
  unfolding rows_from
  rows_from_first i l none = ap (flat_map (λ k. top_row n (block_at bs k))) (places_from_first i l none)

-- ---- the pass over all blocks

-- Before the block i: every block before it has a label below r, and the cycles of these regions, k in all, are listed.
pub record Forward (n : ℕ) (bs : List Block) (i r k : ℕ) : Type 0 where
  pub place : i ≤ length bs
  pub few : r ≤ 4 ^ n
  pub below : (j : ℕ) → j < i → (block_at bs j).colour < r
  pub left : drop k (all_starts n (paint bs)) ≡ starts_from n (paint bs) r (4 ^ n - r)

module _ {n : ℕ} {bs : List Block} (labelled : Labelled n bs) where
  pub forward_begin : Forward n bs 0 0 0
  unfolding all_starts start_codes starts_from
  forward_begin =
      let e : 4 ^ n ≡ 4 ^ n - 0 = omega arith in
      record { place = omega arith; few = omega arith; below = λ j h. absurd (omega arith); left = ap (starts_from n (paint bs) 0) e }

  module _ {i r k : ℕ} (f : Forward n bs i r k) where
    -- The next block's label is no larger than the number of regions met.
    not_above : i < length bs → (block_at bs i).colour ≤ r
    not_above l = pick (dec_lt r (block_at bs i).colour)
      where
        pick : Dec (r < (block_at bs i).colour) → (block_at bs i).colour ≤ r
        pick (yes h) = let w : Before (λ i. (block_at bs i).colour) i r = labelled.counted i r l h in absurd (omega (arith, f.below w.at w.less, w.value))
        pick (no h) = omega arith

    pub forward_skip : i < length bs → (block_at bs i).colour ≢ r → Forward n bs (i + 1) r k
    forward_skip l d = record {
      place = omega arith;
      few = f.few;
      below = λ j h. pick j (ℕ_discrete j i) h;
      left = f.left;
    }
      where
        pick : (j : ℕ) → Dec (j ≡ i) → j < i + 1 → (block_at bs j).colour < r
        pick j (yes e) h = subst (λ x. (block_at bs x).colour < r) (sym e) (omega (arith, not_above l))
        pick j (no e) h = f.below j (omega arith)

    -- The first block of the region r: its chain is that of the whole region.
    module _ (l : i < length bs) (here : (block_at bs i).colour ≡ r) where
      r_known : r < 4 ^ n
      r_known = omega (arith, labelled.known i l)

      rows : rows_from n bs r 0 ≡ rows_from n bs r i
      rows = rows_from_first n bs r i (omega arith) (λ j h e. omega (arith, f.below j h))

      along : starts n (paint bs) r ≡ keep (is_start n (paint bs)) (rows_from n bs r i)
      unfolding starts_in
      along =
          starts-along-rows n bs labelled.covering r labelled.small
          ∙ ap (keep (starts_in n (paint bs) r)) rows
          ∙ keep_same (starts_in n (paint bs) r) (is_start n (paint bs)) (rows_from n bs r i)
          (λ a w. rw (eq-eqb (get_or (paint bs) a 0) r (candidate-number n bs labelled.covering r i a w), starts_in) refl)

      after : starts_from n (paint bs) r (4 ^ n - r) ≡ keep (is_start n (paint bs)) (rows_from n bs r i) ++ starts_from n (paint bs) (suc r) (4 ^ n - suc r)
      after =
          let e : 4 ^ n - r ≡ suc (4 ^ n - suc r) = omega (arith, r_known) in
          ap (starts_from n (paint bs) r) e ∙ starts_from_more n (paint bs) r (4 ^ n - suc r)
          ∙ ap (λ (x : List ℕ). x ++ starts_from n (paint bs) (suc r) (4 ^ n - suc r)) along

      later_regions : (c : ℕ) → In c (starts_from n (paint bs) (suc r) (4 ^ n - suc r)) → get_or (paint bs) c 0 ≢ r
      unfolding starts_from
      later_regions c w e = from (in_flat (starts n (paint bs)) (range (suc r) (4 ^ n - suc r)) c w)
        where
          from : (s : ℕ) × In s (range (suc r) (4 ^ n - suc r)) × In c (starts n (paint bs) s) → ⊥
          from (s, p, q) = omega (arith, ((in_range_from s (suc r) (4 ^ n - suc r)).0 p).0, ((in_starts n (paint bs) s c).0 q).1)

      pub forward_chain : Ahead n (paint bs) (rows_from n bs r i) k
      forward_chain =
          let e : rows_from n bs r i ++ [] ≡ rows_from n bs r i = append-nil (rows_from n bs r i) in
          record {
            region = r;
            todo = [];
            rest = starts_from n (paint bs) (suc r) (4 ^ n - suc r);
            known = r_known;
            whole = f.left ∙ after ∙ ap (λ (x : List ℕ). keep (is_start n (paint bs)) x ++ starts_from n (paint bs) (suc r) (4 ^ n - suc r)) (sym e);
            rising = subst (Ordered ◌<◌) (sym e) (rows_rise n bs labelled.covering r i);
            inside = λ c w.
                let v : In c (rows_from n bs r i) = subst (In c) e w in
                (candidate-inside n bs labelled.covering r i c v, candidate-number n bs labelled.covering r i c v);
            later = later_regions;
          }

      pub forward_listed : Forward n bs (i + 1) (r + 1) (k + length (keep (is_start n (paint bs)) (rows_from n bs r i)))
      forward_listed = record {
        place = omega arith;
        few = omega (arith, r_known);
        below = λ j h. pick j (ℕ_discrete j i) h;
        left =
            drop_part (all_starts n (paint bs)) (keep (is_start n (paint bs)) (rows_from n bs r i)) (starts_from n (paint bs) (suc r) (4 ^ n - suc r)) k (f.left ∙ after)
            ∙ ap (λ (x : ℕ). starts_from n (paint bs) x (4 ^ n - x)) (sym (add-one r));
      }
        where
          pick : (j : ℕ) → Dec (j ≡ i) → j < i + 1 → (block_at bs j).colour < r + 1
          pick j (yes e) h = subst (λ x. (block_at bs x).colour < r + 1) (sym e) (omega arith)
          pick j (no e) h = omega (arith, f.below j (omega arith))

    -- After the last block all cycles are listed.
    pub forward_end : length bs ≤ i → first_cycles n (paint bs) k ≡ listing n (paint bs) (4 ^ n)
    forward_end l =
        let none : drop k (all_starts n (paint bs)) ≡ [] = f.left ∙ no_starts_from n (paint bs) r all_met (4 ^ n - r) r (omega arith) in
        first_all n (paint bs) k (omega (arith, ap length none, length-drop k (all_starts n (paint bs))))
      where
        all_met : (c : ℕ) → c < 4 ^ n → get_or (paint bs) c 0 < r
        all_met c h =
            let p : HoldsAt bs (holder bs c) c = pixel_held n bs labelled.covering c h in
            omega (arith, held_colour bs (holder bs c) c p, f.below (holder bs c) (omega (arith, p.place)))
