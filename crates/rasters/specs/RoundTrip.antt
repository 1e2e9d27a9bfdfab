-- Rasters and block lists there and back, where a caller stands: from the functions' promises, about the lists at exit.
use Rattle.std.specs.Prelude.{◌≡◌, List, ℕ, ◌^◌, ◌≤◌, length, take}
use Rattle.std.proofs.Common.{sym, ap, ◌∙◌}
use Rattle.quadtree.specs.Blocks.{blocks, paint}
use Rattle.quadtree.specs.Number.{number}
use Rattle.quadtree.specs.Accepted.{number-zero}
use Rattle.quadtree.specs.Raster.{in_code_order, in_rows}
use Rattle.quadtree.specs.Orders.{rows-after-code_order, length_in_code_order, length_in_rows}
use Rattle.answers.specs.declared.Written.{Written}
use Rattle.block_answers.specs.BlockWriters.{number_answered, result_counted, merged_paints}
use Rattle.merging.specs.Promise.{FromRaster, raster_accepted}
use Rattle.merging.specs.Callers.{small_whole, merged_accepted, the_one_list}
use Rattle.painting.specs.Promise.{ToRaster}
use Rattle.painting.specs.Callers.{painted}

-- Blocks to raster after raster to blocks gives the same raster.
pub raster_there_and_back : {n : ℕ} {raster cs ls ks cs₁ ls₁ ks₁ : List ℕ} {r : Written} → FromRaster n raster cs ls ks cs₁ ls₁ ks₁ r → r.number ≡ 0
    → {old raster₁ : List ℕ} {s : Written} → 4 ^ n ≤ length old → ToRaster n (take r.count cs₁) (take r.count ls₁) (take r.count ks₁) old raster₁ s
    → (s.number ≡ 0) × (s.count ≡ 4 ^ n) × (take s.count raster₁ ≡ raster)
raster_there_and_back {n} {raster} {cs} {ls} {ks} {cs₁} {ls₁} {ks₁} {r} p ok {old} {raster₁} {s} room q =
    let px : List ℕ = in_code_order n raster in
    let done = painted (merged_accepted p ok) room q in
    let painted_back = merged_paints n px p.writes ok (length_in_code_order n raster) in
    (done.0, done.1, done.2 ∙ ap (in_rows n) painted_back ∙ rows-after-code_order n raster (small_whole p ok).1)

-- Raster to blocks after blocks to raster gives the same list, for every accepted list.
pub blocks_there_and_back : {n : ℕ} {cs ls ks old raster₁ : List ℕ} {s : Written} → number n cs ls ks ≡ 0 → 4 ^ n ≤ length old → ToRaster n cs ls ks old raster₁ s
    → {cs₀ ls₀ ks₀ cs₁ ls₁ ks₁ : List ℕ} {r : Written} → 4 ^ n ≤ length cs₀ → 4 ^ n ≤ length ls₀ → 4 ^ n ≤ length ks₀
    → FromRaster n (take s.count raster₁) cs₀ ls₀ ks₀ cs₁ ls₁ ks₁ r
    → (r.number ≡ 0) × (r.count ≡ length cs) × (take r.count cs₁ ≡ cs) × (take r.count ls₁ ≡ ls) × (take r.count ks₁ ≡ ks)
blocks_there_and_back {n} {cs} {ls} {ks} {old} {raster₁} {s} e room q {cs₀} {ls₀} {ks₀} {cs₁} {ls₁} {ks₁} {r} a b c p =
    let image : take s.count raster₁ ≡ in_rows n (paint (blocks cs ls ks)) = (painted e room q).2 in
    let size : length (take s.count raster₁) ≡ 4 ^ n = ap length image ∙ length_in_rows n (paint (blocks cs ls ks)) in
    let small : n ≤ 8 = (number-zero n cs ls ks e).small in
    let zero_number : r.number ≡ 0 =
    number_answered p.writes ∙ sym (raster_accepted n (take s.count raster₁) cs₀ ls₀ ks₀ small size a b c) in
    let one = the_one_list p zero_number cs ls ks e (sym image) in
    let count : r.count ≡ length cs = result_counted p.writes zero_number ∙ ap length one.0 in
    (zero_number, count, one.0, one.1, one.2)
