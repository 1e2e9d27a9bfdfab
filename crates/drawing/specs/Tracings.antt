-- What the promise of the tracing says where all its needs are met: the lists hold the outlines of the image.
use Rattle.std.specs.Prelude.{◌≡◌, ℕ, ◌^◌, ◌≤◌}
use Rattle.std.proofs.Common.{sym, ◌∙◌, arith}
use Rattle.std.proofs.Math.Path.{ap}
use mathlib.Core.List.{List}
use Rattle.std.proofs.Math.ListN.{length}
use Rattle.sequences.specs.Cases.{written_accepted}
use Rattle.sequences.specs.Over.{over}
use Rattle.quadtree.specs.Blocks.{blocks, paint}
use Rattle.grid.specs.Listing.{Cycle, owners, ends, all_corners, cycle_count}
use Rattle.links.specs.Image.{image_outlines}
use Rattle.tracing.specs.Tracing.{Lent, tracing_number, outlines_of, cycles_written, Tracing, none_short}
use Rattle.tracing.specs.declared.Traced.{Traced}
use Rattle.drawing.specs.Picturing.{Traceable, few_pixels, OutlinesHeld}

module _ {n : ℕ} {cs ls ks text : List ℕ} {before after : Lent} {r : Traced} (a : Traceable n cs ls ks text) (t : Tracing n cs ls ks before after r)
    (for_labels : 4096 ≤ length before.label_list) (for_work : 8192 ≤ length before.work_list) (for_owners : 4096 ≤ length before.owner_list)
    (for_ends : 4096 ≤ length before.end_list) (for_corners : 16384 ≤ length before.corner_list) (for_areas : 4096 ≤ length before.area_list) where
  accepted : tracing_number n cs ls ks before ≡ 0
  accepted =
      let few : 4 ^ n ≤ 4096 = few_pixels a.low in
      sym (none_short n cs ls ks before a.accepted (omega (arith, a.few)) (omega arith) (omega arith) (omega arith) (omega arith) (omega arith))

  all_written : cycles_written n cs ls ks before ≡ image_outlines n (paint (blocks cs ls ks))
  unfolding cycles_written outlines_of
  all_written = written_accepted (tracing_number n cs ls ks before) (outlines_of n cs ls ks) accepted

  pub outlined : OutlinesHeld n (paint (blocks cs ls ks)) before.owner_list before.end_list before.corner_list after.owner_list after.end_list after.corner_list r.cycles
  unfolding cycle_count
  outlined = record {
    counted = ap (λ (x : Traced). x.cycles) t.answer ∙ ap length all_written;
    in_owners = t.in_owners ∙ ap (λ (l : List Cycle). over (owners l) before.owner_list) all_written;
    in_ends = t.in_ends ∙ ap (λ (l : List Cycle). over (ends l) before.end_list) all_written;
    in_corners = t.in_corners ∙ ap (λ (l : List Cycle). over (all_corners l) before.corner_list) all_written;
  }
