-- What a caller of raster to blocks knows, from its promise, about the lists at exit. What holds of every writer of a block list, by
-- `writes`, stands in `block_answers`.
use Rattle.std.specs.Prelude.{◌≡◌, List, ℕ, ◌^◌, ◌≤◌, length, take}
use Rattle.std.proofs.Common.{sym, ap, ◌∙◌}
use Rattle.quadtree.specs.Blocks.{blocks, paint}
use Rattle.quadtree.specs.Number.{number}
use Rattle.quadtree.specs.Raster.{in_code_order, in_rows}
use Rattle.quadtree.specs.Orders.{length_in_code_order, code_order_after_rows}
use Rattle.quadtree.specs.BlockLists.{BlockList, list_of, accepted_covers, length_image}
use Rattle.answers.specs.declared.Written.{Written}
use Rattle.block_answers.specs.BlockWriters.{number_answered, no_other_list}
use Rattle.block_answers.specs.BlockWriters as writers
use Rattle.merging.specs.Promise.{FromRaster, blocks_fit}

-- Raster to blocks, accepted.
module _ {n : ℕ} {raster cs ls ks cs₁ ls₁ ks₁ : List ℕ} {r : Written} (p : FromRaster n raster cs ls ks cs₁ ls₁ ks₁ r) (ok : r.number ≡ 0) where
  -- Only a raster of 4^n entries, n up to 8, is accepted.
  pub small_whole : (n ≤ 8) × (length raster ≡ 4 ^ n)
  small_whole = let fit = blocks_fit n raster cs ls ks (sym (number_answered p.writes) ∙ ok) in (fit.small, fit.whole)

  -- The check accepts what raster to blocks wrote.
  pub merged_accepted : number n (take r.count cs₁) (take r.count ls₁) (take r.count ks₁) ≡ 0
  merged_accepted = writers.merged_accepted n (in_code_order n raster) p.writes ok small_whole.0

  -- Every accepted list whose raster this is, is the list that was written.
  pub the_one_list : (ds ms vs : List ℕ) → number n ds ms vs ≡ 0 → in_rows n (paint (blocks ds ms vs)) ≡ raster
      → (take r.count cs₁ ≡ ds) × (take r.count ls₁ ≡ ms) × (take r.count ks₁ ≡ vs)
  the_one_list ds ms vs accepted same =
      let other : BlockList = list_of ds ms vs in
      let image : paint (blocks ds ms vs) ≡ in_code_order n raster =
      sym (ap (in_code_order n) (sym same) ∙ code_order_after_rows n (paint (blocks ds ms vs)) (length_image n other (accepted_covers n other accepted))) in
      let one = no_other_list n (in_code_order n raster) p.writes ok small_whole.0 (length_in_code_order n raster) other accepted image in
      (ap (λ (l : BlockList). l.codes) one, ap (λ (l : BlockList). l.levels) one, ap (λ (l : BlockList). l.colours) one)
