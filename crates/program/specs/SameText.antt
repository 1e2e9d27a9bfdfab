-- What `outlines-stored` prints for a file is what `outlines` prints for the file with its samples put into rows: of two runs.
use Rattle.std.specs.Prelude.{◌≡◌, List, ℕ, take}
use Rattle.std.proofs.Common.{sym, ap, ◌∙◌}
use Rattle.sequences.specs.Over.{over}
use Rattle.printing.specs.Printed.{whole_text}
use Rattle.printing.specs.declared.order.Order.{Order}
use Rattle.stored_files.specs.Files.{file_in_rows}
use Rattle.stored_files.specs.SameText.{same_text}
use Rattle.program.specs.Ran.{Ran}

-- "does what "outlines" does for a P5 file whose samples stand in block order" (document 02, e): where what `outlines` read is what
-- `outlines-stored` read with its samples put into rows, both leave the same text.
pub same_run : {buffer text text' buffer₂ text₂ text₂' : List ℕ} (p : Ran Order.BlockOrder buffer text text') (q : Ran Order.Rows buffer₂ text₂ text₂')
    → take q.read buffer₂ ≡ file_in_rows (take p.read buffer)
    → let printed = whole_text Order.BlockOrder (take p.read buffer) in (text' ≡ over printed text) × (text₂' ≡ over printed text₂)
same_run {buffer} {text} {text'} {buffer₂} {text₂} p q e =
    let same : whole_text Order.Rows (take q.read buffer₂) ≡ whole_text Order.BlockOrder (take p.read buffer) =
    ap (whole_text Order.Rows) e ∙ sym (same_text (take p.read buffer)) in
    (p.in_text, q.in_text ∙ ap (λ (l : List ℕ). over l text₂) same)
