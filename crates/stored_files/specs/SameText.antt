-- The text of `outlines-stored` for a file is the text of `outlines` for the file with its samples put into rows.
use Rattle.std.specs.Prelude.{◌≡◌, ◌⊎◌, ltb, length, take}
use Rattle.std.proofs.Math.Path.{refl, sym, ap, ap₂, subst}
use Rattle.std.proofs.Common.{◌∙◌, inl, inr, arith}
use mathlib.Core.List.{List}
use Prim.Native.Nat.{ℕ, zero, suc, ◌*◌, ◌^◌, ◌≤◌, ◌<◌}
use Rattle.std.proofs.Math.Decide.{dec_lt}
use Rattle.sequences.specs.Cases.{first, when}
use Rattle.quadtree.specs.Raster.{in_code_order}
use Rattle.quadtree.specs.Orders.{code_order_after_rows}
use Rattle.rearranging.specs.Ways.{to_rows, rearranged}
use Rattle.pgm.specs.Picture.{Scan, scan}
use Rattle.pgm.specs.Accepted.{AcceptedPicture, number_low, zero_accepted, raster_is_square}
use Rattle.answers.specs.declared.Written.{Written}
use Rattle.drawing.specs.Outlines.{image_text}
use Rattle.printing.specs.Printed.{input_limit, input_number, image_of, picture_text, need_for, text_need, print_number, whole_text, if_room, printed, Printing}
use Rattle.printing.specs.Printable.{by_picture, accepted_says, refusal_text, accepted_text}
use Rattle.printing.specs.Callers.{text_written}
use Rattle.printing.specs.declared.order.Order.{Order}
use Rattle.stored_files.specs.Files.{file_in_rows}
use Rattle.stored_files.specs.Putting.{put_into_rows, long_stands}

module _ (bytes : List ℕ) where
  -- A file refused with 10 to 13 or 15 is taken as it stands.
  pub taken_as_it_stands : (input_number bytes ≡ 15) ⊎ (10 ≤ input_number bytes) × (input_number bytes ≤ 13) → file_in_rows bytes ≡ bytes
  taken_as_it_stands h = pick (dec_lt input_limit (length bytes)) h
    where
      pick : Dec (input_limit < length bytes) → (input_number bytes ≡ 15) ⊎ (10 ≤ input_number bytes) × (input_number bytes ≤ 13) → file_in_rows bytes ≡ bytes
      pick (yes long) h = long_stands bytes long
      pick (no short) (inl e) = absurd (omega (arith, e, by_picture bytes (omega arith), number_low bytes))
      pick (no short) (inr r) =
          let same : input_number bytes ≡ (scan bytes).number = by_picture bytes (omega arith) in
          (put_into_rows bytes (omega arith)).refused_stands (omega (arith, r.0, same)) (omega (arith, r.1, same))

  -- An accepted picture keeps its n and maxval, and its raster is put into rows, as `from_block_order` does it.
  pub picture_in_rows : input_number bytes ≡ 0 → AcceptedPicture (file_in_rows bytes) (scan bytes).n (scan bytes).maxval (rearranged to_rows (scan bytes).n (scan bytes).raster)
  unfolding rearranged
  picture_in_rows e =
      let a = accepted_says bytes e in
      let s = (put_into_rows bytes a.0).accepted_same a.1 in
      let picture = zero_accepted (file_in_rows bytes) (ap (λ (t : Scan). t.number) s) in
      subst (λ (t : Scan). AcceptedPicture (file_in_rows bytes) t.n t.maxval t.raster) s picture

  -- The number stays.
  pub same_number : input_number (file_in_rows bytes) ≡ input_number bytes
  same_number = pick (dec_lt input_limit (length bytes))
    where
      pick : Dec (input_limit < length bytes) → input_number (file_in_rows bytes) ≡ input_number bytes
      pick (yes long) = ap input_number (long_stands bytes long)
      pick (no short) =
          let p = put_into_rows bytes (omega arith) in
          by_picture (file_in_rows bytes) (omega (arith, p.length_same)) ∙ p.number_same ∙ sym (by_picture bytes (omega arith))

  lines_in_rows : input_number bytes ≡ 0 → picture_text Order.BlockOrder bytes ≡ picture_text Order.Rows (file_in_rows bytes)
  unfolding picture_text image_of
  lines_in_rows e =
      let a = accepted_says bytes e in
      let s = (put_into_rows bytes a.0).accepted_same a.1 in
      sym (ap (λ (t : Scan). image_text t.n (in_code_order t.n t.raster)) s
      ∙ ap (image_text (scan bytes).n) (code_order_after_rows (scan bytes).n (scan bytes).raster (raster_is_square bytes a.1)))

  -- "does what "outlines" does for a P5 file whose samples stand in block order" (document 02, e), for every file.
  pub same_text : whole_text Order.BlockOrder bytes ≡ whole_text Order.Rows (file_in_rows bytes)
  same_text = pick (input_number bytes) refl
    where
      pick : (k : ℕ) → input_number bytes ≡ k → whole_text Order.BlockOrder bytes ≡ whole_text Order.Rows (file_in_rows bytes)
      pick zero e = accepted_text bytes e Order.BlockOrder ∙ lines_in_rows e ∙ sym (accepted_text (file_in_rows bytes) (same_number ∙ e) Order.Rows)
      pick (suc k) e =
          refusal_text bytes (omega arith) e Order.BlockOrder ∙ sym (refusal_text (file_in_rows bytes) (omega arith) (same_number ∙ e) Order.Rows)

  -- The need is the same too, and so is what is written into a list of any length.
  same_need : text_need bytes ≡ text_need (file_in_rows bytes)
  unfolding text_need need_for
  same_need = pick (input_number bytes) refl
    where
      pick : (k : ℕ) → input_number bytes ≡ k → need_for (input_number bytes) bytes ≡ need_for (input_number (file_in_rows bytes)) (file_in_rows bytes)
      pick zero e =
          let a = accepted_says bytes e in
          let s = (put_into_rows bytes a.0).accepted_same a.1 in
          ap (λ (m : ℕ). need_for m bytes) e
          ∙ sym (ap (λ (m : ℕ). need_for m (file_in_rows bytes)) (same_number ∙ e) ∙ ap (λ (t : Scan). 26 * 4 ^ t.n) s)
      pick (suc k) e = ap (λ (m : ℕ). need_for m bytes) e ∙ sym (ap (λ (m : ℕ). need_for m (file_in_rows bytes)) (same_number ∙ e))

  same_answer : (size : ℕ) → print_number bytes size ≡ print_number (file_in_rows bytes) size
  unfolding print_number
  same_answer size = ap₂ (λ (k need : ℕ). first k (when (ltb size need) 8)) (sym same_number) same_need

  same_printed : (size : ℕ) → printed Order.BlockOrder bytes size ≡ printed Order.Rows (file_in_rows bytes) size
  unfolding printed
  same_printed size = ap₂ (λ (need : ℕ) (l : List ℕ). if_room size need l) same_need same_text

-- The same where a caller stands: a call for a file in block order, and one for that file with its samples put into rows, with text lists
-- of one length. Both answer the same number and count, and wrote the same text.
pub same_as_outlines : {bytes text bytes' text' other rows' other' : List ℕ} {w v : Written} → Printing Order.BlockOrder bytes text bytes' text' w
    → Printing Order.Rows (file_in_rows bytes) other rows' other' v → length text ≡ length other
    → (w.number ≡ v.number) × (w.count ≡ v.count) × (take w.count text' ≡ take v.count other')
same_as_outlines {bytes} {text} {bytes'} {text'} {other} p q e =
    let written : printed Order.BlockOrder bytes (length text) ≡ printed Order.Rows (file_in_rows bytes) (length other) =
    ap (printed Order.BlockOrder bytes) e ∙ same_printed bytes (length other) in (
      p.number_is ∙ ap (print_number bytes) e ∙ same_answer bytes (length other) ∙ sym q.number_is,
      p.count_is ∙ ap length written ∙ sym q.count_is,
      text_written p ∙ written ∙ sym (text_written q),
    )
