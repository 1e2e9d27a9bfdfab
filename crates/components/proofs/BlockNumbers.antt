-- Counting the representatives of blocks gives the labels and the number of regions.
use Rattle.std.specs.Prelude.{◌≡◌, ◌↔◌, List, take, get_or}
use Rattle.std.proofs.Math.Path.{sym, ap}
use Rattle.std.proofs.Common.{◌∙◌, subst, arith}
use Prim.Native.Nat.{ℕ, suc, ◌^◌, ◌≤◌, ◌<◌}
use Rattle.std.proofs.Math.Decide.{dec_lt}
use Rattle.std.proofs.Math.ListN.{length}
use Rattle.std.proofs.Math.Seq.{ext_get_or}
use Rattle.sequences.specs.Ranges.{tabulate, length-tabulate, tabulate_at}
use Rattle.quadtree.specs.Blocks.{Block, pixels, paint}
use Rattle.quadtree.specs.Number.{cover}
use Rattle.unions.specs.Pairs.{Pair, Linked}
use Rattle.unions.specs.Representatives.{rep, rep_links, linked_rep, rep-le, rep_twice}
use Rattle.unions.specs.Counting.{below, number_of, counted, number_of_own, number_less, number_linked, CountsUp}
use Rattle.unions.specs.Roots.{root}
use Rattle.unions.specs.RootNumbers.{numbers_below, length-numbers_below, numbers_at}
use Rattle.components.specs.Joined.{Connected, Joined}
use Rattle.components.specs.Numbers.{numbers, regions, labels}
use Rattle.components.specs.Numbered.{RegionNumbers}
use Rattle.components.proofs.Numbered.{no_other_numbering, each_number_given, number-below-regions}
use Rattle.components.specs.Holders.{holder, HoldsAt, pixels_grow, is_holder, pixel_held, first_pixel_held, held_in_image}
use Rattle.components.proofs.Labels.{all_first_pixels, label_of_held, length-labels}
use Rattle.components.specs.BlockPairs.{block_pairs}
use Rattle.components.proofs.LinkedBlocks.{linked_exactly_when_connected}

module _ (n : ℕ) (bs : List Block) (covering : cover n 0 bs ≡ 0) where
  -- Where the roots are the representatives of the pairs joined by the first k blocks: two of them have one root exactly when paths
  -- of one colour within the first k blocks connect their pixels.
  pub one_root_exactly_when_connected : (k : ℕ) (p : List ℕ) → k ≤ length bs → root p ≡ rep (block_pairs n bs k)
      → (i j c d : ℕ) → i < k → j < k → HoldsAt bs i c → HoldsAt bs j d
      → (root p i ≡ root p j) ↔ Connected n (paint bs) (pixels (take k bs)) c d
  one_root_exactly_when_connected k p most roots i j c d a b f g =
      let es : List Pair = block_pairs n bs k in
      let linked = linked_exactly_when_connected n bs covering k most i j c d a b f g in
      let at : (x : ℕ) → root p x ≡ rep es x = λ x. ap (λ (r : ℕ → ℕ). r x) roots in (
        λ e. linked.0 (rep_links es i j (sym (at i) ∙ e ∙ at j)),
        λ q. at i ∙ linked_rep es (linked.1 q) ∙ sym (at j),
      )

  all : List Pair
  all = block_pairs n bs (length bs)

  -- All blocks of the list: linked exactly when joined.
  pub linked_exactly_when_joined : (i j c d : ℕ) → HoldsAt bs i c → HoldsAt bs j d → Linked (block_pairs n bs (length bs)) i j ↔ Joined n (paint bs) c d
  linked_exactly_when_joined i j c d f g =
      subst (λ (m : ℕ). Linked (block_pairs n bs (length bs)) i j ↔ Connected n (paint bs) m c d) (all_first_pixels n bs covering)
      (linked_exactly_when_connected n bs covering (length bs) (omega arith) i j c d f.place g.place f g)

  -- ---- numbers of blocks are labels

  -- the number that a pixel has by its block
  by_block : ℕ → ℕ
  by_block c = number_of (rep all) (holder bs c)

  by_block_exactly : (c d : ℕ) → c < 4 ^ n → d < 4 ^ n → (by_block c ≡ by_block d) ↔ Joined n (paint bs) c d
  unfolding by_block all
  by_block_exactly c d a b =
      let same = number_linked all (holder bs c) (holder bs d) in
      let joined = linked_exactly_when_joined (holder bs c) (holder bs d) c d (pixel_held n bs covering c a) (pixel_held n bs covering d b) in
      (λ e. joined.0 (same.0 e), λ p. same.1 (joined.1 p))

  by_block_counts_up : CountsUp (4 ^ n) by_block
  unfolding by_block number_of
  by_block_counts_up c v l h =
      let w = counted (rep all) (rep all (holder bs c)) v h in
      let held = pixel_held n bs covering c l in
      let early : w.at < holder bs c = omega (arith, w.less, rep-le all (holder bs c)) in
      let first = first_pixel_held n bs covering w.at (omega (arith, held.place)) in
      let at_first : holder bs (pixels (take w.at bs)) ≡ w.at = is_holder bs w.at (pixels (take w.at bs)) first in
      record {
        at = pixels (take w.at bs);
        less = omega (arith, first.before, pixels_grow bs (suc w.at) (holder bs c) early, held.from);
        value = ap (λ (i : ℕ). below (rep all) (rep all i)) at_first ∙ ap (below (rep all)) w.own ∙ w.value;
      }

  by_block_number : (c : ℕ) → c < 4 ^ n → by_block c ≡ get_or (numbers n (paint bs)) c 0
  by_block_number c l =
      sym (at_place c l) ∙ ap (λ (x : List ℕ). get_or x c 0) (no_other_numbering n (paint bs) (tabulate (4 ^ n) by_block) table)
    where
      at_place : (i : ℕ) → i < 4 ^ n → get_or (tabulate (4 ^ n) by_block) i 0 ≡ by_block i
      at_place = tabulate_at (4 ^ n) by_block

      exactly : (c d : ℕ) → c < 4 ^ n → d < 4 ^ n → (get_or (tabulate (4 ^ n) by_block) c 0 ≡ get_or (tabulate (4 ^ n) by_block) d 0) ↔ Joined n (paint bs) c d
      exactly c d a b = (
        λ e. (by_block_exactly c d a b).0 (sym (at_place c a) ∙ e ∙ at_place d b),
        λ p. at_place c a ∙ (by_block_exactly c d a b).1 p ∙ sym (at_place d b),
      )

      up : CountsUp (4 ^ n) (λ i. get_or (tabulate (4 ^ n) by_block) i 0)
      up i v h less =
          let b = by_block_counts_up i v h (omega (arith, at_place i h)) in
          record { at = b.at; less = b.less; value = at_place b.at (omega (arith, b.less)) ∙ b.value }

      table : RegionNumbers n (paint bs) (tabulate (4 ^ n) by_block)
      table = record { long = length-tabulate (4 ^ n) by_block; exactly = exactly; count_up = up }

  number_of_block : (i : ℕ) → i < length bs → number_of (rep all) i ≡ get_or (labels n bs) i 0
  unfolding by_block
  number_of_block i l =
      let first = first_pixel_held n bs covering i l in
      let c : ℕ = pixels (take i bs) in
      ap (number_of (rep all)) (sym (is_holder bs i c first)) ∙ by_block_number c (held_in_image n bs covering i c first) ∙ sym (label_of_held n bs covering i c first)

  pub block_numbers_are_labels : numbers_below (rep (block_pairs n bs (length bs))) (length bs) ≡ labels n bs
  unfolding all
  block_numbers_are_labels =
      ext_get_or 0 (numbers_below (rep all) (length bs)) (labels n bs) (length-numbers_below (rep all) (length bs) ∙ sym (length-labels n bs))
      (λ i l.
      let h : i < length bs = omega (arith, length-numbers_below (rep all) (length bs)) in
      numbers_at (rep all) (length bs) i h ∙ number_of_block i h)

  -- There are as many regions as blocks that represent themselves, so no more than blocks.
  pub block_count_is_regions : below (rep (block_pairs n bs (length bs))) (length bs) ≡ regions n (paint bs)
  unfolding all
  block_count_is_regions = pick (dec_lt count (regions n (paint bs))) (dec_lt (regions n (paint bs)) count)
    where
      count : ℕ
      count = below (rep all) (length bs)

      pick : Dec (count < regions n (paint bs)) → Dec (regions n (paint bs) < count) → count ≡ regions n (paint bs)
      pick (yes l) d =
          let f = each_number_given n (paint bs) count l in
          let held = pixel_held n bs covering f.pixel f.first.inside in
          let less = number_less (rep all) (rep_twice all) (length bs) (holder bs f.pixel) (omega (arith, rep-le all (holder bs f.pixel), held.place)) in
          let at : number_of (rep all) (holder bs f.pixel) ≡ count =
          number_of_block (holder bs f.pixel) held.place ∙ label_of_held n bs covering (holder bs f.pixel) f.pixel held ∙ f.value in
          absurd (omega arith)
      pick (no g) (yes l) =
          let w = counted (rep all) (length bs) (regions n (paint bs)) l in
          let first = first_pixel_held n bs covering w.at w.less in
          let c : ℕ = pixels (take w.at bs) in
          let at : get_or (numbers n (paint bs)) c 0 ≡ regions n (paint bs) =
          sym (label_of_held n bs covering w.at c first)
          ∙ sym (number_of_block w.at w.less)
          ∙ number_of_own (rep all) (rep_twice all) w.at w.own
          ∙ w.value in
          absurd (omega (arith, at, number-below-regions n (paint bs) c (held_in_image n bs covering w.at c first)))
      pick (no g) (no h) = omega arith
