-- The parts of the test are asked in the definition's order, so each return meets its value.
use Rattle.std.proofs.Common.{sym, ap, ◌∙◌, Bool, ◌&&◌, ne_eqb, eq-eqb, le-leb, lt-ltb, le-ltb}
use Rattle.std.proofs.lemmas.Bool.{lt-leb}
use Rattle.lattice.specs.Directions.{x_of}
use Rattle.lattice.specs.CycleForm.{cycle_form, eastward, steps}
use Rattle.forms.specs.Scan.{counted_form, within_form}
use Rattle.forms.proofs.cycle_form.Goals as goal
use Rattle.forms.proofs.cycle_form.Goals.{then-n-ne0-via-then-n-ne0, then-n-ne0-via-else-n-ne0+then-n-lt4, then-n-ne0-via-else-n-ne0+else-n-lt4+then-n-gt262144, then-n-ne0-via-else-n-ne0+else-n-lt4+else-n-gt262144+then-not-all_within}

pub returns-then-n-ne0 : goal.returns-then-n-ne0
unfolding cycle_form
returns-then-n-ne0 c =
    elim c.then-n-ne0.branch [
      | then-n-ne0-via-then-n-ne0 w ↦ simp (ne_eqb _ _ w.if-n-ne0.true)
      | then-n-ne0-via-else-n-ne0+then-n-lt4 w ↦ simp (eq-eqb _ _ w.if-n-ne0.false, lt-leb _ _ w.if-n-lt4.true)
      | then-n-ne0-via-else-n-ne0+else-n-lt4+then-n-gt262144 w ↦ simp (eq-eqb _ _ w.if-n-ne0.false, le-leb _ _ w.if-n-lt4.false, lt-leb _ _ w.if-n-gt262144.true)
      | then-n-ne0-via-else-n-ne0+else-n-lt4+else-n-gt262144+then-not-all_within w ↦
          let cs = c.args.corners.now in
          sym (counted_form cs w.if-n-ne0.false w.if-n-lt4.false w.if-n-gt262144.false ∙ ap (λ (b : Bool). b && (eastward cs && steps cs)) (sym w.all_within.ensures ∙ w.if-not-all_within.true))
    ]

pub returns-then-corners : goal.returns-then-corners
unfolding x_of
returns-then-corners c =
    let cs = c.args.corners.now in
    let form = within_form cs c.if-n-ne0.false c.if-n-lt4.false c.if-n-gt262144.false (sym c.all_within.ensures ∙ c.if-not-all_within.false) in
    c.turning.ensures ∙ sym (form ∙ ap (λ (b : Bool). b && steps cs) (lt-ltb _ _ c.if-corners.true))

pub returns-else-corners : goal.returns-else-corners
unfolding x_of
returns-else-corners c =
    let cs = c.args.corners.now in
    let form = within_form cs c.if-n-ne0.false c.if-n-lt4.false c.if-n-gt262144.false (sym c.all_within.ensures ∙ c.if-not-all_within.false) in
    sym (form ∙ ap (λ (b : Bool). b && steps cs) (le-ltb _ _ c.if-corners.false) ∙ sym (le-ltb _ _ c.if-corners.false))
