-- One block more of the walk keeps what holds, and what the walk comes to: labels, the number of regions, and a work list of zeros.
use Rattle.std.specs.Prelude.{◌≡◌, ◌↔◌, List, ℕ, suc, ◌+◌, ◌*◌, ◌^◌, ◌≤◌, ◌<◌, length, take, get_or, replicate}
use Rattle.std.proofs.Common.{sym, ap, ◌∙◌, add-one, arith, ext_get_or}
use Rattle.std.proofs.Math.Nat.{pow-le-pow_left}
use Rattle.std.proofs.Math.Decide.{dec_le, dec_lt}
use Rattle.std.proofs.lemmas.List.{length-replicate}
use Rattle.sequences.specs.Fill.{fill, length-fill, fill-inside, fill-before, fill-beyond, fill-front}
use Rattle.sequences.specs.Over.{over, length_over, over_inside, over_beyond}
use Rattle.interleaving.specs.Codes.{column, row}
use Rattle.quadtree.specs.Blocks.{blocks, pixels, paint}
use Rattle.quadtree.specs.Accepted.{Passes}
use Rattle.staircase.specs.Rows.{done_in_row, done_in_column}
use Rattle.unions.specs.Representatives.{rep}
use Rattle.unions.specs.Counting.{below}
use Rattle.unions.specs.Roots.{root}
use Rattle.unions.specs.Joining.{Forest, joins, onto, forest_rep}
use Rattle.unions.specs.RootNumbers.{numbers_below}
use Rattle.components.specs.Joined.{Connected}
use Rattle.components.specs.Numbers.{regions, labels}
use Rattle.components.specs.Holders.{HoldsAt}
use Rattle.components.specs.LastBlocks.{last_in_column, last_in_row, ColumnOf, RowOf, columns_written, rows_written, other_columns_kept, other_rows_kept}
use Rattle.components.specs.BlockPairs.{block_pairs, pairs_one_more}
use Rattle.components.proofs.BlockNumbers.{one_root_exactly_when_connected, block_numbers_are_labels, block_count_is_regions}
use Rattle.components.specs.Walk.{Walking, north_span, west_span, stored, block-count, inside, column_of, row_of, of_column, of_row, block_in_image, north_span_lem, west_span_lem}

module _ {n : ℕ} {cs ls ks : List ℕ} (passes : Passes n cs ls ks) {work₀ : List ℕ} {k : ℕ} {work p : List ℕ} (w : Walking n cs ls ks work₀ k work p) where
  module _ (less : k < length cs) where
    roomy : 2 * 2 ^ n ≤ length work
    roomy = omega (arith, w.room, w.same_length)

    in_column_dec : (x : ℕ) → Dec (ColumnOf n (blocks cs ls ks) k x)
    in_column_dec x = pick (dec_le (column n (get_or cs k 0)) x) (dec_lt x (column n (get_or cs k 0) + 2 ^ get_or ls k 0))
      where
        pick : Dec (column n (get_or cs k 0) ≤ x) → Dec (x < column n (get_or cs k 0) + 2 ^ get_or ls k 0) → Dec (ColumnOf n (blocks cs ls ks) k x)
        pick (yes a) (yes b) = yes (column_of passes k less x a b)
        pick (yes a) (no g) = no (λ c. g (of_column passes k less x c).1)
        pick (no f) b = no (λ c. f (of_column passes k less x c).0)

    in_row : (y : ℕ) → Dec (RowOf n (blocks cs ls ks) k y)
    in_row y = pick (dec_le (row n (get_or cs k 0)) y) (dec_lt y (row n (get_or cs k 0) + 2 ^ get_or ls k 0))
      where
        pick : Dec (row n (get_or cs k 0) ≤ y) → Dec (y < row n (get_or cs k 0) + 2 ^ get_or ls k 0) → Dec (RowOf n (blocks cs ls ks) k y)
        pick (yes a) (yes b) = yes (row_of passes k less y a b)
        pick (yes a) (no g) = no (λ r. g (of_row passes k less y r).1)
        pick (no f) b = no (λ r. f (of_row passes k less y r).0)

    -- Off its columns, and off its rows, the entries are as they were.
    column-entry-kept : (x : ℕ) → x < 2 ^ n → ¬ ColumnOf n (blocks cs ls ks) k x → get_or (stored n cs ls k work) x 0 ≡ get_or work x 0
    column-entry-kept x a off =
        fill-before (fill work (column n (get_or cs k 0)) (2 ^ get_or ls k 0) k) _ _ k x (omega arith)
        ∙ pick (dec_lt x (column n (get_or cs k 0))) (dec_lt x (column n (get_or cs k 0) + 2 ^ get_or ls k 0))
      where
        pick : Dec (x < column n (get_or cs k 0)) → Dec (x < column n (get_or cs k 0) + 2 ^ get_or ls k 0)
            → get_or (fill work (column n (get_or cs k 0)) (2 ^ get_or ls k 0) k) x 0 ≡ get_or work x 0
        pick (yes b) d = fill-before work (column n (get_or cs k 0)) (2 ^ get_or ls k 0) k x b
        pick (no b) (no d) = fill-beyond work (column n (get_or cs k 0)) (2 ^ get_or ls k 0) k x (omega arith)
        pick (no b) (yes d) = absurd (off (column_of passes k less x (omega arith) d))

    row-entry-kept : (y : ℕ) → y < 2 ^ n → ¬ RowOf n (blocks cs ls ks) k y → get_or (stored n cs ls k work) (2 ^ n + y) 0 ≡ get_or work (2 ^ n + y) 0
    row-entry-kept y a off =
        pick (dec_lt y (row n (get_or cs k 0))) (dec_lt y (row n (get_or cs k 0) + 2 ^ get_or ls k 0))
        ∙ fill-beyond work (column n (get_or cs k 0)) (2 ^ get_or ls k 0) k (2 ^ n + y) (omega (arith, block_in_image passes k less))
      where
        first : List ℕ
        first = fill work (column n (get_or cs k 0)) (2 ^ get_or ls k 0) k

        pick : Dec (y < row n (get_or cs k 0)) → Dec (y < row n (get_or cs k 0) + 2 ^ get_or ls k 0)
            → get_or (fill first (2 ^ n + row n (get_or cs k 0)) (2 ^ get_or ls k 0) k) (2 ^ n + y) 0 ≡ get_or first (2 ^ n + y) 0
        pick (yes b) d = fill-before first (2 ^ n + row n (get_or cs k 0)) (2 ^ get_or ls k 0) k (2 ^ n + y) (omega arith)
        pick (no b) (no d) = fill-beyond first (2 ^ n + row n (get_or cs k 0)) (2 ^ get_or ls k 0) k (2 ^ n + y) (omega arith)
        pick (no b) (yes d) = absurd (off (row_of passes k less y (omega arith) d))

    columns_after : (x : ℕ) → x < 2 ^ n → 0 < done_in_column n (pixels (take (suc k) (blocks cs ls ks))) x
        → get_or (stored n cs ls k work) x 0 ≡ last_in_column n (blocks cs ls ks) (suc k) x
    columns_after x a positive = pick (in_column_dec x)
      where
        first : List ℕ
        first = fill work (column n (get_or cs k 0)) (2 ^ get_or ls k 0) k

        pick : Dec (ColumnOf n (blocks cs ls ks) k x) → get_or (stored n cs ls k work) x 0 ≡ last_in_column n (blocks cs ls ks) (suc k) x
        pick (yes c) =
            fill-before first _ _ k x (omega arith)
            ∙ fill-inside work (column n (get_or cs k 0)) (2 ^ get_or ls k 0) k x (omega (arith, block_in_image passes k less, roomy))
            (of_column passes k less x c).0 (of_column passes k less x c).1
            ∙ sym (columns_written n (blocks cs ls ks) passes.covering k (inside passes k less) x c)
        pick (no off) =
            let kept = other_columns_kept n (blocks cs ls ks) passes.covering k (inside passes k less) x a off in
            column-entry-kept x a off ∙ w.columns x a (omega (arith, kept.0)) ∙ sym kept.1

    rows-after : (y : ℕ) → y < 2 ^ n → 0 < done_in_row n (pixels (take (suc k) (blocks cs ls ks))) y
        → get_or (stored n cs ls k work) (2 ^ n + y) 0 ≡ last_in_row n (blocks cs ls ks) (suc k) y
    rows-after y a positive = pick (in_row y)
      where
        first : List ℕ
        first = fill work (column n (get_or cs k 0)) (2 ^ get_or ls k 0) k

        pick : Dec (RowOf n (blocks cs ls ks) k y) → get_or (stored n cs ls k work) (2 ^ n + y) 0 ≡ last_in_row n (blocks cs ls ks) (suc k) y
        pick (yes r) =
            let span = of_row passes k less y r in
            fill-inside first (2 ^ n + row n (get_or cs k 0)) (2 ^ get_or ls k 0) k (2 ^ n + y)
            (omega (arith, block_in_image passes k less, roomy, length-fill work (column n (get_or cs k 0)) (2 ^ get_or ls k 0) k)) (omega arith) (omega arith)
            ∙ sym (rows_written n (blocks cs ls ks) passes.covering k (inside passes k less) y r)
        pick (no off) =
            let kept = other_rows_kept n (blocks cs ls ks) passes.covering k (inside passes k less) y a off in
            row-entry-kept y a off ∙ w.rows y a (omega (arith, kept.0)) ∙ sym kept.1

    beyond-after : (i : ℕ) → 2 * 2 ^ n ≤ i → get_or (stored n cs ls k work) i 0 ≡ get_or work₀ i 0
    beyond-after i h =
        fill-beyond (fill work (column n (get_or cs k 0)) (2 ^ get_or ls k 0) k) (2 ^ n + row n (get_or cs k 0)) (2 ^ get_or ls k 0) k i
        (omega (arith, block_in_image passes k less))
        ∙ fill-beyond work (column n (get_or cs k 0)) (2 ^ get_or ls k 0) k i (omega (arith, block_in_image passes k less))
        ∙ w.beyond i h

    -- The block k is joined with its north neighbours, then with its west neighbours, and stored: the walk has done one block more.
    pub one_block_more : {p₁ p₂ work' : List ℕ} → Forest p (joins (root p) (north_span n cs ls ks k work)) p₁
        → Forest p₁ (joins (root p₁) (west_span n cs ls ks k work)) p₂ → work' ≡ stored n cs ls k work → Walking n cs ls ks work₀ (k + 1) work' p₂
    one_block_more {p₁} {p₂} {work'} first second store =
        let north : root p₁ ≡ rep (onto (north_span n cs ls ks k work) (block_pairs n (blocks cs ls ks) k)) =
        forest_rep (north_span n cs ls ks k work) (block_pairs n (blocks cs ls ks) k) w.roots first in
        let both : root p₂ ≡ rep (onto (west_span n cs ls ks k work) (onto (north_span n cs ls ks k work) (block_pairs n (blocks cs ls ks) k))) =
        forest_rep (west_span n cs ls ks k work) (onto (north_span n cs ls ks k work) (block_pairs n (blocks cs ls ks) k)) north second in
        rw (add-one k)
        (record {
          place = less;
          low = second.low;
          long = second.long ∙ first.long ∙ w.long;
          roots = both ∙ rw (north_span_lem passes k less w, west_span_lem passes k less w) (ap rep (sym (pairs_one_more n (blocks cs ls ks) k)));
          columns = λ x a positive. ap (λ (l : List ℕ). get_or l x 0) store ∙ columns_after x a positive;
          rows = λ y a positive. ap (λ (l : List ℕ). get_or l (2 ^ n + y) 0) store ∙ rows-after y a positive;
          same_length =
              ap length store
              ∙ length-fill (fill work (column n (get_or cs k 0)) (2 ^ get_or ls k 0) k) (2 ^ n + row n (get_or cs k 0)) (2 ^ get_or ls k 0) k
              ∙ length-fill work (column n (get_or cs k 0)) (2 ^ get_or ls k 0) k
              ∙ w.same_length;
          room = w.room;
          beyond = λ i h. ap (λ (l : List ℕ). get_or l i 0) store ∙ beyond-after i h;
        })

  -- Two pixels have one root after k blocks exactly when they are joined within the first k blocks.
  pub one_root_within_first_blocks : (i j c d : ℕ) → i < k → j < k → HoldsAt (blocks cs ls ks) i c → HoldsAt (blocks cs ls ks) j d
      → (root p i ≡ root p j) ↔ Connected n (paint (blocks cs ls ks)) (pixels (take k (blocks cs ls ks))) c d
  one_root_within_first_blocks =
      one_root_exactly_when_connected n (blocks cs ls ks) passes.covering k p (omega (arith, block-count passes, w.place)) w.roots

  -- ---- after all blocks

  all_done : length cs ≤ k → k ≡ length (blocks cs ls ks)
  all_done h = omega (arith, block-count passes, w.place)

  roots_of_all : length cs ≤ k → root p ≡ rep (block_pairs n (blocks cs ls ks) (length (blocks cs ls ks)))
  roots_of_all h = w.roots ∙ ap (λ (i : ℕ). rep (block_pairs n (blocks cs ls ks) i)) (all_done h)

  -- Numbering the places of p by their roots gives the labels, and the count of roots the number of regions.
  pub labels_found : length cs ≤ k → numbers_below (root p) (length p) ≡ labels n (blocks cs ls ks)
  labels_found h =
      let long : length p ≡ length (blocks cs ls ks) = omega (arith, block-count passes, w.long) in
      rw (roots_of_all h, long) (block_numbers_are_labels n (blocks cs ls ks) passes.covering)

  pub regions_found : length cs ≤ k → below (root p) (length p) ≡ regions n (paint (blocks cs ls ks))
  regions_found h =
      let long : length p ≡ length (blocks cs ls ks) = omega (arith, block-count passes, w.long) in
      rw (roots_of_all h, long) (block_count_is_regions n (blocks cs ls ks) passes.covering)

  -- Zeros stored over the first 2 · 4^n entries leave nothing of the walk in the work list.
  pub work_cleared : 2 * 4 ^ n ≤ length work₀ → fill work 0 (2 * 4 ^ n) 0 ≡ over (replicate (2 * 4 ^ n) 0) work₀
  work_cleared h =
      fill-front work (2 * 4 ^ n) 0 (omega (arith, w.same_length))
      ∙ ext_get_or 0 (over (replicate (2 * 4 ^ n) 0) work) (over (replicate (2 * 4 ^ n) 0) work₀)
      (length_over zeros work (omega (arith, w.same_length, size)) ∙ w.same_length ∙ sym (length_over zeros work₀ (omega (arith, size))))
      (λ i l. pick i (dec_lt i (2 * 4 ^ n)))
    where
      zeros : List ℕ
      zeros = replicate (2 * 4 ^ n) 0

      size : length zeros ≡ 2 * 4 ^ n
      size = length-replicate (2 * 4 ^ n) 0

      pick : (i : ℕ) → Dec (i < 2 * 4 ^ n) → get_or (over zeros work) i 0 ≡ get_or (over zeros work₀) i 0
      pick i (yes l) = over_inside zeros work i (omega (arith, size)) ∙ sym (over_inside zeros work₀ i (omega (arith, size)))
      pick i (no f) =
          over_beyond zeros work i (omega (arith, size)) ∙ w.beyond i (omega (arith, pow-le-pow_left {n = 2} {m = 4} (omega arith) n)) ∙ sym (over_beyond zeros work₀ i (omega (arith, size)))
