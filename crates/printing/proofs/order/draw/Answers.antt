-- Samples row by row are drawn as they stand; those in block order fit the local raster, and what is put there is drawn.
use Rattle.std.proofs.Common.{◌≡◌, refl, sym, ◌∙◌, ℕ, Result, Ok, Err, arith, length-take}
use Rattle.std.specs.Result.{result_unwrap_or}
use Rattle.answers.specs.declared.cause.Cause.{Cause}
use Rattle.answers.specs.Results.{written}
use Rattle.printing.specs.Orders.{drawn_by_rows, count-inside, rows_fit, drawn_by_blocks}
use Rattle.printing.proofs.order.draw.Goals as goal

-- How many entries were written, none on a refusal.
count_is : (r : Result ℕ Cause) → result_unwrap_or r 0 ≡ (written r).count
count_is (Ok count) = refl
count_is (Err cause) = refl

pub slice_bounds-raster-end : goal.slice_bounds-raster-end
slice_bounds-raster-end c =
    omega (arith, count-inside c.requires (omega arith) c.from_block_order-done.ensures, c.unwrap_or-count.ensures ∙ count_is c.from_block_order-done.result)

pub slice_bounds-write_picture-end : goal.slice_bounds-write_picture-end
slice_bounds-write_picture-end c =
    let done = c.from_block_order-done in
    let inside = count-inside c.requires (omega arith) done.ensures in
    omega (arith, length-take c.unwrap_or-count.result done.new.raster, inside, c.unwrap_or-count.ensures ∙ count_is done.result)

pub write_picture-requires-in-BlockOrder : goal.write_picture-requires-in-BlockOrder
write_picture-requires-in-BlockOrder c =
    rw (c.unwrap_or-count.ensures ∙ count_is c.from_block_order-done.result) (rows_fit c.requires (omega arith) c.from_block_order-done.ensures)

pub returns-in-Rows : goal.returns-in-Rows
returns-in-Rows c = drawn_by_rows _ _ c.in-Rows.is c.write_picture.ensures

pub returns-in-BlockOrder : goal.returns-in-BlockOrder
returns-in-BlockOrder c =
    drawn_by_blocks c.requires (omega arith) c.from_block_order-done.ensures c.in-BlockOrder.is
    (rw (sym (c.unwrap_or-count.ensures ∙ count_is c.from_block_order-done.result)) c.write_picture-in-BlockOrder.ensures)
