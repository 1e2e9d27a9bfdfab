-- One block list laid over another, where a caller stands: the raster, the region numbers and the outlines of the result.
use Rattle.std.specs.Prelude.{◌≡◌, List, ℕ, ◌*◌, ◌/◌, ◌%◌, ◌^◌, ◌≤◌, ◌<◌, max, length, get_or, take}
use Rattle.std.proofs.Common.{sym, ap, ap₂, ◌∙◌, subst, arith, length-take, get_or-take}
use Rattle.sequences.specs.Ranges.{tabulate}
use Rattle.interleaving.specs.Codes.{code}
use Rattle.quadtree.specs.Orders.{in_rows_at}
use Rattle.answers.specs.declared.Written.{Written}
use Rattle.quadtree.specs.BlockLists.{BlockList, blocks_of, image_of, number_of}
use Rattle.block_answers.specs.BlockWriters.{result_of}
use Rattle.overlaying.specs.Larger.{larger}
use Rattle.overlaying.specs.Promise.{Overlay}
use Rattle.overlaying.specs.Callers.{accepted_only, result_accepted, result_paints_larger, each_pixel_larger}
use Rattle.painting.specs.Promise.{ToRaster}
use Rattle.painting.specs.Callers.{painted}
use Rattle.merging.specs.Promise.{FromRaster}
use Rattle.rasters.specs.RoundTrip.{blocks_there_and_back}
use Rattle.components.specs.Numbered.{ByLeastCodes}
use Rattle.links.specs.Image.{image_outlines}
use Rattle.regions.specs.declared.Numbered.{Numbered}
use Rattle.regions.specs.Promise.{Numbering}
use Rattle.regions.specs.Callers.{label_of_pixel, not_refused as numbering_not_refused, labels_by_least_codes}
use Rattle.tracing.specs.declared.Traced.{Traced}
use Rattle.tracing.specs.Tracing.{Lent, outlines_of, Tracing}
use Rattle.callers.specs.Demand3.{held_at, AtExit, LongEnough, needs_of, not_refused, accepted_at_exit}

-- The colour at the place i of the raster of an accepted list.
pixel_of_raster : {n : ℕ} {a : BlockList} {old raster : List ℕ} {s : Written} → number_of n a ≡ 0 → 4 ^ n ≤ length old
    → ToRaster n a.codes a.levels a.colours old raster s → (i : ℕ) → i < 4 ^ n → get_or raster i 0 ≡ get_or (image_of a) (code n (i % 2 ^ n) (i / 2 ^ n)) 0
pixel_of_raster {n} {a} {old} {raster} {s} e room q i h =
    let done = painted e room q in
    sym (get_or-take s.count raster i 0 (omega (arith, done.1)))
    ∙ ap (λ (l : List ℕ). get_or l i 0) done.2
    ∙ in_rows_at n (image_of a) i h

-- "every pixel has the larger of the two colours" (document 02, request b): so has the raster made of the result, against the rasters made
-- of the two lists.
pub raster_of_larger : {n : ℕ} {a b before after : BlockList} {r : Written} → Overlay n a b before after r → r.number ≡ 0
    → {old₀ raster₀ old₁ raster₁ old₂ raster₂ : List ℕ} {s₀ s₁ s₂ : Written} → 4 ^ n ≤ length old₀ → 4 ^ n ≤ length old₁ → 4 ^ n ≤ length old₂
    → ToRaster n (result_of after r).codes (result_of after r).levels (result_of after r).colours old₀ raster₀ s₀
    → ToRaster n a.codes a.levels a.colours old₁ raster₁ s₁ → ToRaster n b.codes b.levels b.colours old₂ raster₂ s₂
    → (i : ℕ) → i < 4 ^ n → get_or raster₀ i 0 ≡ max (get_or raster₁ i 0) (get_or raster₂ i 0)
raster_of_larger {n} {a} {b} {before} {after} {r} p ok room₀ room₁ room₂ q₀ q₁ q₂ i h =
    let both = accepted_only p ok in
    pixel_of_raster (result_accepted p ok) room₀ q₀ i h
    ∙ each_pixel_larger p ok (code n (i % 2 ^ n) (i / 2 ^ n))
    ∙ sym (ap₂ (λ (x y : ℕ). max x y) (pixel_of_raster both.0 room₁ q₁ i h) (pixel_of_raster both.1 room₂ q₂ i h))

-- Demand 2 of rasters and blocks: that raster becomes the result again.
pub result_there_and_back : {n : ℕ} {a b before after : BlockList} {r : Written} → Overlay n a b before after r → r.number ≡ 0
    → {old raster : List ℕ} {s : Written} → 4 ^ n ≤ length old → ToRaster n (result_of after r).codes (result_of after r).levels (result_of after r).colours old raster s
    → {cs₀ ls₀ ks₀ cs₁ ls₁ ks₁ : List ℕ} {w : Written} → 4 ^ n ≤ length cs₀ → 4 ^ n ≤ length ls₀ → 4 ^ n ≤ length ks₀
    → FromRaster n (take s.count raster) cs₀ ls₀ ks₀ cs₁ ls₁ ks₁ w
    → (w.number ≡ 0) × (w.count ≡ length (result_of after r).codes) × (take w.count cs₁ ≡ (result_of after r).codes)
    × (take w.count ls₁ ≡ (result_of after r).levels) × (take w.count ks₁ ≡ (result_of after r).colours)
result_there_and_back p ok room q for_codes for_levels for_colours f = blocks_there_and_back (result_accepted p ok) room q for_codes for_levels for_colours f

-- What demand 2 says of the numbering of a result, and demand 3 of its tracing; both speak of the image px.
pub record AsAnyOther (n : ℕ) (px : List ℕ) (result : BlockList) (labels₁ : List ℕ) (s : Numbered) (lent left : Lent) (t : Traced) : Type 0 where
  pub image : image_of result ≡ px
  pub numbered : s.number ≡ 0
  pub by_least_codes : ByLeastCodes n px (tabulate (4 ^ n) (label_of_pixel (blocks_of result) labels₁)) s.regions
  -- the outline listing, and all of demand 3
  pub traced : t.number ≡ 0
  pub outlines : held_at left t ≡ image_outlines n px
  pub at_exit : AtExit n result.codes result.levels result.colours lent left t

-- "The result is an accepted list, so demand 2 and the outline listing speak of it as of any other" (document 02, request b): the numbering
-- and the tracing of it, lent lists of the stated lengths, answer 0.
pub as_any_other : {n : ℕ} {a b before after : BlockList} {r : Written} → Overlay n a b before after r → r.number ≡ 0
    → {labels₀ work₀ labels₁ work₁ : List ℕ} {s : Numbered} → r.count ≤ length labels₀ → 2 * 4 ^ n ≤ length work₀
    → Numbering n (result_of after r).codes (result_of after r).levels (result_of after r).colours labels₀ work₀ labels₁ work₁ s
    → {lent left : Lent} {t : Traced} → LongEnough n r.count lent
    → Tracing n (result_of after r).codes (result_of after r).levels (result_of after r).colours lent left t
    → AsAnyOther n (larger (image_of a) (image_of b)) (result_of after r) labels₁ s lent left t
unfolding outlines_of
as_any_other {n} {a} {b} {before} {after} {r} p ok {labels₀} {work₀} {labels₁} {work₁} {s} for_labels for_work q {lent} {left} {t} long u =
    let list = result_of after r in
    let accepted = result_accepted p ok in
    let few : length list.codes ≤ r.count = omega (arith, length-take r.count after.codes) in
    let numbered : s.number ≡ 0 = numbering_not_refused q accepted (omega arith) for_work in
    let traced : t.number ≡ 0 = not_refused u (needs_of accepted few long) in
    let exit = accepted_at_exit u traced in
    record {
      image = result_paints_larger p ok;
      numbered = numbered;
      by_least_codes =
          subst (λ (px : List ℕ). ByLeastCodes n px (tabulate (4 ^ n) (label_of_pixel (blocks_of list) labels₁)) s.regions) (result_paints_larger p ok)
          (labels_by_least_codes q numbered);
      traced = traced;
      outlines = exit.lists ∙ ap (image_outlines n) (result_paints_larger p ok);
      at_exit = exit;
    }
