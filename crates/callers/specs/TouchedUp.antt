-- "Touching up one pixel" (document 02, request j), where a caller stands: the raster of the result, its number of regions and its number of
-- unit edges, against those of the first list.
use Rattle.std.specs.Prelude.{◌≡◌, ◌≢◌, List, ℕ, ◌+◌, ◌*◌, ◌/◌, ◌%◌, ◌^◌, ◌≤◌, ◌<◌, length, get_or, set, take}
use Rattle.std.proofs.Common.{sym, ap, ◌∙◌, subst, arith, length-take, length-set, ext_get_or, get_or-set_same, get_or-set_other}
use Rattle.std.proofs.Math.Decide.{ℕ_discrete}
use Rattle.interleaving.specs.Codes.{code}
use Rattle.interleaving.specs.Interleaving.{code_below}
use Rattle.quadtree.specs.Blocks.{blocks, paint}
use Rattle.quadtree.specs.Raster.{place, in_rows}
use Rattle.quadtree.specs.Orders.{place_of_code, code_of_place, place_of_pixel, length_in_rows, in_rows_at}
use Rattle.quadtree.specs.BlockLists.{BlockList, image_of, accepted_covers, length_image}
use Rattle.answers.specs.declared.Written.{Written}
use Rattle.block_answers.specs.BlockWriters.{result_of}
use Rattle.touching_up.specs.Promise.{repainted, TouchUp}
use Rattle.touching_up.specs.Callers.{accepted_only, result_accepted, result_paints}
use Rattle.painting.specs.Promise.{ToRaster}
use Rattle.painting.specs.Callers.{painted}
use Rattle.components.specs.Numbers.{numbers, regions}
use Rattle.grid.specs.Cycles.{cycle}
use Rattle.grid.specs.Listing.{start_codes}
use Rattle.one_pixel.specs.Agreeing.{AgreeBut, agree_but_set}
use Rattle.one_pixel.specs.RegionCounts.{regions_move_by_four_at_most}
use Rattle.one_pixel.specs.UnitEdges.{unit_edges}
use Rattle.one_pixel.specs.EdgeCounts.{edges_move_by_eight_at_most}
use Rattle.one_pixel.specs.ListedEdges.{listed_sides_are_unit_edges}
use Rattle.winding.specs.Sums.{sum, sum_same}
use Rattle.regions.specs.declared.Numbered.{Numbered}
use Rattle.regions.specs.Promise.{Numbering}
use Rattle.regions.specs.Callers.{regions_at_exit, not_refused as numbering_not_refused}
use Rattle.tracing.specs.declared.Traced.{Traced}
use Rattle.tracing.specs.Tracing.{Lent, Tracing}
use Rattle.callers.specs.Demand3.{sides_at, numbers_of, LongEnough, needs_of, not_refused, small, known, accepted_at_exit}

-- ---- "the image with that pixel alone changed": the raster

-- Row by row, the pixel (x, y) stands at the place y times 2^n plus x.
in_rows_set : (n x y v : ℕ) (px : List ℕ) → x < 2 ^ n → y < 2 ^ n → length px ≡ 4 ^ n → in_rows n (set px (code n x y) v) ≡ set (in_rows n px) (y * 2 ^ n + x) v
in_rows_set n x y v px a b whole =
    ext_get_or 0 (in_rows n new) (set (in_rows n px) here v) (length_in_rows n new ∙ sym (length-set (in_rows n px) here v ∙ length_in_rows n px))
    (λ i l. let h : i < 4 ^ n = omega (arith, length_in_rows n new) in in_rows_at n new i h ∙ pick i h (ℕ_discrete i here))
  where
    new : List ℕ
    new = set px (code n x y) v

    here : ℕ
    here = y * 2 ^ n + x

    pick : (i : ℕ) → i < 4 ^ n → Dec (i ≡ here) → get_or new (code n (i % 2 ^ n) (i / 2 ^ n)) 0 ≡ get_or (set (in_rows n px) here v) i 0
    pick i h (yes e) =
        let c : code n (i % 2 ^ n) (i / 2 ^ n) ≡ code n x y =
        ap (λ (k : ℕ). code n (k % 2 ^ n) (k / 2 ^ n)) (e ∙ sym (place_of_code n x y a b)) ∙ code_of_place n (code n x y) (code_below n x y) in
        ap (λ (k : ℕ). get_or new k 0) c
        ∙ get_or-set_same px (code n x y) v 0 (omega (arith, whole, code_below n x y))
        ∙ sym (ap (λ (k : ℕ). get_or (set (in_rows n px) here v) k 0) e ∙ get_or-set_same (in_rows n px) here v 0 (omega (arith, length_in_rows n px)))
    pick i h (no f) =
        get_or-set_other px (code n x y) (code n (i % 2 ^ n) (i / 2 ^ n)) v 0 other
        ∙ sym (get_or-set_other (in_rows n px) here i v 0 f ∙ in_rows_at n px i h)
      where
        other : code n (i % 2 ^ n) (i / 2 ^ n) ≢ code n x y
        other q = f (sym (place_of_pixel n i h) ∙ ap (place n) q ∙ place_of_code n x y a b)

-- The raster made of the result is that made of the first list, with the colour v at the place y times 2^n plus x.
pub raster_touched_up : {n : ℕ} {a : BlockList} {x y v : ℕ} {before after : BlockList} {r : Written} → TouchUp n a x y v before after r → r.number ≡ 0
    → {old₀ raster₀ old₁ raster₁ : List ℕ} {s₀ s₁ : Written} → 4 ^ n ≤ length old₀ → 4 ^ n ≤ length old₁
    → ToRaster n a.codes a.levels a.colours old₀ raster₀ s₀
    → ToRaster n (result_of after r).codes (result_of after r).levels (result_of after r).colours old₁ raster₁ s₁
    → (s₀.number ≡ 0) × (s₁.number ≡ 0) × (take s₁.count raster₁ ≡ set (take s₀.count raster₀) (y * 2 ^ n + x) v)
unfolding repainted
raster_touched_up {n} {a} {x} {y} {v} p ok room₀ room₁ q₀ q₁ =
    let given = accepted_only p ok in
    let first = painted given.0 room₀ q₀ in
    let second = painted (result_accepted p ok) room₁ q₁ in (
      first.0,
      second.0,
      second.2
          ∙ ap (in_rows n) (result_paints p ok)
          ∙ in_rows_set n x y v (image_of a) given.1 given.2 (length_image n a (accepted_covers n a given.0))
          ∙ ap (λ (l : List ℕ). set l (y * 2 ^ n + x) v) (sym first.2),
    )

-- ---- "The number of regions then moves by at most 4, up or down."

result-alike : {n : ℕ} {a : BlockList} {x y v : ℕ} {before after : BlockList} {r : Written} → TouchUp n a x y v before after r → r.number ≡ 0
    → AgreeBut (code n x y) (image_of a) (image_of (result_of after r))
unfolding repainted
result-alike {n} {a} {x} {y} {v} p ok = subst (AgreeBut (code n x y) (image_of a)) (sym (result_paints p ok)) (agree_but_set (code n x y) v (image_of a))

-- The numbering of the first list, which answers s, and that of the result, which answers t: lent lists of the stated lengths, both answer 0.
pub numbered_regions_move_by_four_at_most : {n : ℕ} {a : BlockList} {x y v : ℕ} {before after : BlockList} {r : Written} → TouchUp n a x y v before after r → r.number ≡ 0
    → {labels₀ work₀ labels₁ work₁ : List ℕ} {s : Numbered} → length a.codes ≤ length labels₀ → 2 * 4 ^ n ≤ length work₀
    → Numbering n a.codes a.levels a.colours labels₀ work₀ labels₁ work₁ s
    → {labels₂ work₂ labels₃ work₃ : List ℕ} {t : Numbered} → r.count ≤ length labels₂ → 2 * 4 ^ n ≤ length work₂
    → Numbering n (result_of after r).codes (result_of after r).levels (result_of after r).colours labels₂ work₂ labels₃ work₃ t
    → (s.number ≡ 0) × (t.number ≡ 0) × (t.regions ≤ s.regions + 4) × (s.regions ≤ t.regions + 4)
numbered_regions_move_by_four_at_most {n} {a} {x} {y} {v} {before} {after} {r} p ok {s = s} for_labels for_work q₀ {t = t} for_labels₂ for_work₂ q₁ =
    let result = result_of after r in
    let first : s.number ≡ 0 = numbering_not_refused q₀ (accepted_only p ok).0 for_labels for_work in
    let second : t.number ≡ 0 =
    numbering_not_refused q₁ (result_accepted p ok) (omega (arith, length-take r.count after.codes)) for_work₂ in
    let moved = regions_move_by_four_at_most n (code n x y) (image_of a) (image_of result) (result-alike p ok) in
    (first, second, omega (arith, regions_at_exit q₀ first, regions_at_exit q₁ second, moved.0), omega (arith, regions_at_exit q₀ first, regions_at_exit q₁ second, moved.1))

-- ---- "The number of directed unit edges over all regions moves by at most 8."

-- The number of unit sides of all listed outlines.
abbrev pub sides_listed : Lent → Traced → ℕ
sides_listed left r = sum r.cycles (λ k. length (sides_at left r k))

-- It is the number of directed unit edges over all regions: each stands in one outline, once.
pub sides_are_unit_edges : {n : ℕ} {cs ls ks : List ℕ} {lent left : Lent} {r : Traced} → Tracing n cs ls ks lent left r → r.number ≡ 0
    → sides_listed left r ≡ unit_edges n (numbers_of n cs ls ks) r.regions
sides_are_unit_edges {n} {cs} {ls} {ks} {lent} {left} {r} p ok =
    let exit = accepted_at_exit p ok in
    let nums : List ℕ = numbers_of n cs ls ks in
    let count : ℕ = regions n (paint (blocks cs ls ks)) in
    sum_same r.cycles (λ k. length (sides_at left r k)) (λ k. length (cycle n nums (get_or (start_codes n nums count) k 0))) (λ k l. ap length (exit.walked k l))
    ∙ ap (λ (j : ℕ). sum j (λ k. length (cycle n nums (get_or (start_codes n nums count) k 0)))) exit.cycle-count
    ∙ listed_sides_are_unit_edges n nums (small p ok) count (known p ok)
    ∙ ap (unit_edges n nums) (sym exit.region-count)

-- What two tracings answered and left, that of the first list (s) and that of the result (t): both answer 0.
pub record TracedAgain (left₀ left₁ : Lent) (s t : Traced) : Type 0 where
  pub first_answered : s.number ≡ 0
  pub second_answered : t.number ≡ 0
  -- "The number of regions then moves by at most 4, up or down."
  pub regions-up : t.regions ≤ s.regions + 4
  pub regions_down : s.regions ≤ t.regions + 4
  -- "The number of directed unit edges over all regions moves by at most 8."
  pub edges-up : sides_listed left₁ t ≤ sides_listed left₀ s + 8
  pub edges_down : sides_listed left₀ s ≤ sides_listed left₁ t + 8

-- The tracing of the first list, and that of the result, lent lists of the stated lengths.
pub traced_edges_move_by_eight_at_most : {n : ℕ} {a : BlockList} {x y v : ℕ} {before after : BlockList} {r : Written} → TouchUp n a x y v before after r → r.number ≡ 0
    → {lent₀ left₀ : Lent} {s : Traced} → LongEnough n (length a.codes) lent₀ → Tracing n a.codes a.levels a.colours lent₀ left₀ s
    → {lent₁ left₁ : Lent} {t : Traced} → LongEnough n r.count lent₁
    → Tracing n (result_of after r).codes (result_of after r).levels (result_of after r).colours lent₁ left₁ t
    → TracedAgain left₀ left₁ s t
traced_edges_move_by_eight_at_most {n} {a} {x} {y} {v} {before} {after} {r} p ok {s = s} long₀ q₀ {t = t} long₁ q₁ =
    let first : s.number ≡ 0 = not_refused q₀ (needs_of (accepted_only p ok).0 (omega arith) long₀) in
    let second : t.number ≡ 0 = not_refused q₁ (needs_of (result_accepted p ok) (omega (arith, length-take r.count after.codes)) long₁) in
    let px : List ℕ = image_of a in
    let qx : List ℕ = image_of (result_of after r) in
    let regions₀ : s.regions ≡ regions n px = (accepted_at_exit q₀ first).region-count in
    let regions₁ : t.regions ≡ regions n qx = (accepted_at_exit q₁ second).region-count in
    let edges₀ = sides_are_unit_edges q₀ first ∙ ap (unit_edges n (numbers n px)) regions₀ in
    let edges₁ = sides_are_unit_edges q₁ second ∙ ap (unit_edges n (numbers n qx)) regions₁ in
    let moved = regions_move_by_four_at_most n (code n x y) px qx (result-alike p ok) in
    let edged = edges_move_by_eight_at_most n (code n x y) px qx (result-alike p ok) in
    record {
      first_answered = first;
      second_answered = second;
      regions-up = omega (arith, regions₀, regions₁, moved.0);
      regions_down = omega (arith, regions₀, regions₁, moved.1);
      edges-up = omega (arith, edges₀, edges₁, edged.0);
      edges_down = omega (arith, edges₀, edges₁, edged.1);
    }
