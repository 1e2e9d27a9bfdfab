-- The raster fits the local lists, so its quadtree is merged into them; that list is accepted and paints the raster's image.
use Rattle.std.proofs.Common.{◌≡◌, refl, sym, ◌∙◌, ℕ, Result, Ok, Err, arith, length-take}
use Rattle.std.specs.Result.{result_unwrap_or}
use Rattle.answers.specs.declared.cause.Cause.{Cause}
use Rattle.answers.specs.Results.{written}
use Rattle.drawing.specs.Picturing.{merged_traceable, merged_drawn, count_in_codes, count_in_levels, count_in_colours}
use Rattle.drawing.proofs.write_picture.Goals as goal

-- How many blocks were written, none on a refusal.
count_is : (r : Result ℕ Cause) → result_unwrap_or r 0 ≡ (written r).count
count_is (Ok count) = refl
count_is (Err cause) = refl

pub slice_bounds-codes-end : goal.slice_bounds-codes-end
slice_bounds-codes-end c =
    omega (arith, count_in_codes c.from_raster-merged.ensures, c.unwrap_or-count.ensures ∙ count_is c.from_raster-merged.result)

pub slice_bounds-levels-end : goal.slice_bounds-levels-end
slice_bounds-levels-end c =
    omega (arith, count_in_levels c.from_raster-merged.ensures, c.unwrap_or-count.ensures ∙ count_is c.from_raster-merged.result)

pub slice_bounds-colours-end : goal.slice_bounds-colours-end
slice_bounds-colours-end c =
    omega (arith, count_in_colours c.from_raster-merged.ensures, c.unwrap_or-count.ensures ∙ count_is c.from_raster-merged.result)

pub slice_bounds-write_outlines-end : goal.slice_bounds-write_outlines-end
slice_bounds-write_outlines-end c =
    let merging = c.from_raster-merged in
    omega (arith, length-take c.unwrap_or-count.result merging.new.codes, count_in_codes merging.ensures, c.unwrap_or-count.ensures ∙ count_is merging.result)

pub slice_bounds-write_outlines-end-2 : goal.slice_bounds-write_outlines-end-2
slice_bounds-write_outlines-end-2 c =
    let merging = c.from_raster-merged in
    omega (arith, length-take c.unwrap_or-count.result merging.new.levels, count_in_levels merging.ensures, c.unwrap_or-count.ensures ∙ count_is merging.result)

pub slice_bounds-write_outlines-end-3 : goal.slice_bounds-write_outlines-end-3
slice_bounds-write_outlines-end-3 c =
    let merging = c.from_raster-merged in
    omega (arith, length-take c.unwrap_or-count.result merging.new.colours, count_in_colours merging.ensures, c.unwrap_or-count.ensures ∙ count_is merging.result)

pub write_outlines-requires : goal.write_outlines-requires
write_outlines-requires c =
    let merging = c.from_raster-merged in
    let t = merged_traceable c.requires merging.ensures (omega arith) (omega arith) (omega arith) (omega (arith, merging.auto.codes)) in
    rw (c.unwrap_or-count.ensures ∙ count_is merging.result) (record { low = t.low; few = t.few; accepted = omega (arith, t.accepted); enough = t.enough })

pub returns : goal.returns
returns c =
    let merging = c.from_raster-merged in
    merged_drawn c.requires merging.ensures (omega arith) (omega arith) (omega arith)
    (rw (sym (c.unwrap_or-count.ensures ∙ count_is merging.result)) c.write_outlines.ensures)
