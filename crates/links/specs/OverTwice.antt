-- A list laid over one over which a shorter was laid: of the shorter nothing is left.
use Rattle.std.specs.Prelude.{◌≡◌, List, ◌++◌, ℕ, ◌+◌, ◌-◌, ◌≤◌, length, drop}
use Rattle.std.proofs.Common.{sym, ap, ◌∙◌, arith, drop-drop}
use Rattle.std.proofs.Math.Seq.{drop-append-add}
use Rattle.sequences.specs.Over.{over}

pub over_twice : {A : Type 0} (new short old : List A) → length short ≤ length new → over new (over short old) ≡ over new old
unfolding over
over_twice {A} new short old h =
    let k : ℕ = length new - length short in
    let e : length new ≡ length short + k = omega arith in
    ap (λ (l : List A). new ++ l)
    (ap (λ (i : ℕ). drop i (short ++ drop (length short) old)) e
    ∙ drop-append-add short (drop (length short) old) k
    ∙ drop-drop k (length short) old
    ∙ ap (λ (i : ℕ). drop i old) (sym e))
