-- The tests stand in the order of causes 3, 4 and 5; a code is a multiple of 4^level exactly up to its alignment.
use native.Mathlib.Omega.{arith}
use mathlib.Core.Path.{sym, ◌∙◌}
use Rattle.location.specs.TopLevels.{aligned_divides, divides_aligned}
use Rattle.quadtree.specs.Covering.{fault_above, fault_elsewhere, fault_full, fault_crooked, fault_none}
use Rattle.blocks.proofs.covering.block_fault.Goals as goal
use Rattle.blocks.proofs.covering.block_fault.Goals.{then-code-sum-via-then-code-sum, then-code-sum-via-else-code-sum+then-sum-whole}

pub returns-then-n-level : goal.returns-then-n-level
returns-then-n-level c = sym (fault_above _ _ _ _ c.if-n-level.true)

pub returns-then-code-sum : goal.returns-then-code-sum
returns-then-code-sum c =
    let low = c.if-n-level.false in
    elim c.then-code-sum.branch [
      | then-code-sum-via-then-code-sum w ↦ sym (fault_elsewhere _ _ _ _ low w.if-code-sum.true)
      | then-code-sum-via-else-code-sum+then-sum-whole w ↦ sym (fault_full _ _ _ _ low w.if-code-sum.false (w.if-sum-whole.true ∙ c.requires.1))
    ]

pub returns-then-alignment-level : goal.returns-then-alignment-level
returns-then-alignment-level c =
    let a = c.args in
    let low = c.if-n-level.false in
    sym (fault_crooked _ _ _ _ low c.if-code-sum.false (λ e. c.if-sum-whole.false (e ∙ sym c.requires.1))
    (λ e. omega (arith, c.if-alignment-level.true, c.alignment.ensures, divides_aligned a.level a.code (omega (arith, low, c.requires.0)) e)))

pub returns : goal.returns
returns c =
    let a = c.args in
    sym (fault_none (record {
      low = c.if-n-level.false;
      here = c.if-code-sum.false;
      short = λ e. c.if-sum-whole.false (e ∙ sym c.requires.1);
      multiple = aligned_divides a.level a.code (omega (arith, c.if-alignment-level.false, c.alignment.ensures));
    }))
