-- The word and three stores one after the other are the line laid over the front of the text.
use Rattle.std.proofs.Common.{◌≡◌, refl, ℕ, List, [], ◌∷◌, ◌++◌, ◌≤◌, length, drop, arith}
use Rattle.std.proofs.Math.ListN.{set}
use Rattle.std.proofs.lemmas.List.Edits.{sets}
use Rattle.printing.specs.Printable.{refused_silently, refused_in_line}
use Rattle.printing.proofs.refusal.refuse.Goals as goal

line_put : (text : List ℕ) (tens ones : ℕ) → 11 ≤ length text
    → set (set (set ((114 ∷ 101 ∷ 102 ∷ 117 ∷ 115 ∷ 101 ∷ 100 ∷ 32 ∷ []) ++ drop 8 text) 8 tens) 9 ones) 10 10 ≡ sets text 0 (114 ∷ 101 ∷ 102 ∷ 117 ∷ 115 ∷ 101 ∷ 100 ∷ 32 ∷ tens ∷ ones ∷ 10 ∷ [])
line_put [] tens ones h = absurd (omega arith)
line_put (x0 ∷ []) tens ones h = absurd (omega arith)
line_put (x0 ∷ x1 ∷ []) tens ones h = absurd (omega arith)
line_put (x0 ∷ x1 ∷ x2 ∷ []) tens ones h = absurd (omega arith)
line_put (x0 ∷ x1 ∷ x2 ∷ x3 ∷ []) tens ones h = absurd (omega arith)
line_put (x0 ∷ x1 ∷ x2 ∷ x3 ∷ x4 ∷ []) tens ones h = absurd (omega arith)
line_put (x0 ∷ x1 ∷ x2 ∷ x3 ∷ x4 ∷ x5 ∷ []) tens ones h = absurd (omega arith)
line_put (x0 ∷ x1 ∷ x2 ∷ x3 ∷ x4 ∷ x5 ∷ x6 ∷ []) tens ones h = absurd (omega arith)
line_put (x0 ∷ x1 ∷ x2 ∷ x3 ∷ x4 ∷ x5 ∷ x6 ∷ x7 ∷ []) tens ones h = absurd (omega arith)
line_put (x0 ∷ x1 ∷ x2 ∷ x3 ∷ x4 ∷ x5 ∷ x6 ∷ x7 ∷ x8 ∷ []) tens ones h = absurd (omega arith)
line_put (x0 ∷ x1 ∷ x2 ∷ x3 ∷ x4 ∷ x5 ∷ x6 ∷ x7 ∷ x8 ∷ x9 ∷ []) tens ones h = absurd (omega arith)
line_put (x0 ∷ x1 ∷ x2 ∷ x3 ∷ x4 ∷ x5 ∷ x6 ∷ x7 ∷ x8 ∷ x9 ∷ x10 ∷ text) tens ones h = refl

pub returns-then-text-lt11 : goal.returns-then-text-lt11
returns-then-text-lt11 c = refused_silently c.requires (omega (arith, c.if-text-lt11.true))

pub returns : goal.returns
returns c =
    rw (c.copy_from_slice.ensures.after, c.from-number.ensures, line_put _ _ _ c.if-text-lt11.false) (refused_in_line c.requires c.if-text-lt11.false)
