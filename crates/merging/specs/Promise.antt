-- What raster to blocks promises: the answer, and the later content of each list.
use Rattle.std.specs.Prelude.{◌≡◌, List, ℕ, ◌^◌, ◌≤◌, length}
use Rattle.std.proofs.Common.{sym, arith}
use Rattle.quadtree.specs.Quadtree.{quadtree}
use Rattle.quadtree.specs.Raster.{in_code_order}
use Rattle.quadtree.specs.BlockLists.{list_of}
use Rattle.answers.specs.declared.Written.{Written}
use Rattle.block_answers.specs.BlockWriters.{WritesBlocks, blocks_refused, blocks_written}
use Rattle.merging.specs.RasterNumber.{raster_number, lengths_accepted, small_raster, least_fits}
use Rattle.merging.specs.MergeLoop.{BlocksFit, Merged}

-- Raster to blocks, the lists cs, ls, ks before and cs₁, ls₁, ks₁ after: the quadtree of the raster is written.
pub record FromRaster (n : ℕ) (raster cs ls ks cs₁ ls₁ ks₁ : List ℕ) (r : Written) : Type 0 where
  pub writes : WritesBlocks (raster_number n (length raster) (length cs) (length ls) (length ks)) (quadtree n (in_code_order n raster)) (list_of cs ls ks) (list_of cs₁ ls₁ ks₁) r

module _ (n : ℕ) (raster cs ls ks : List ℕ) where
  pub raster_accepted : n ≤ 8 → length raster ≡ 4 ^ n → 4 ^ n ≤ length cs → 4 ^ n ≤ length ls → 4 ^ n ≤ length ks
      → 0 ≡ raster_number n (length raster) (length cs) (length ls) (length ks)
  raster_accepted small whole a b c = sym (lengths_accepted n (length raster) (length cs) (length ls) (length ks) small whole a b c)

  pub blocks_fit : raster_number n (length raster) (length cs) (length ls) (length ks) ≡ 0 → BlocksFit n raster cs ls ks
  blocks_fit e =
      let s = small_raster n (length raster) (length cs) (length ls) (length ks) e in
      let least = least_fits n (length raster) (length cs) (length ls) (length ks) e in
      record { small = s.0; whole = s.1; for_codes = omega (arith, least); for_levels = omega (arith, least); for_colours = omega (arith, least) }

  -- A refusal returns its number and leaves all lists.
  pub raster_refused : {k : ℕ} → (k ≡ 0 → ⊥) → k ≡ raster_number n (length raster) (length cs) (length ls) (length ks)
      → FromRaster n raster cs ls ks cs ls ks (record { number = k; count = 0 })
  raster_refused some e = record { writes = blocks_refused (omega arith) e }

  pub raster_merged : {cs₁ ls₁ ks₁ : List ℕ} {count : ℕ} → raster_number n (length raster) (length cs) (length ls) (length ks) ≡ 0 → Merged n raster cs ls ks cs₁ ls₁ ks₁ count
      → FromRaster n raster cs ls ks cs₁ ls₁ ks₁ (record { number = 0; count = count })
  raster_merged e m = record { writes = blocks_written e m.number (m.in_codes, m.in_levels, m.in_colours) }
