-- Runs of an image: what is written when pieces of the image come is what merging the image gives.
use Rattle.std.specs.Prelude.{◌≡◌, ◌≢◌, List, ◌++◌, ℕ, ◌+◌, ◌^◌, ◌≤◌, ◌<◌, get_or}
use Rattle.std.proofs.Common.{sym, ap, ap₂, ◌∙◌, subst, append-nil, arith}
use Rattle.std.proofs.Math.Decide.{dec_lt, ℕ_discrete}
use Rattle.quadtree.specs.Blocks.{Block}
use Rattle.quadtree.specs.Merging.{merged_from, merged_end}
use Rattle.runs.specs.Runs.{Run, Piece, squares_of, ended, next, nothing-ended, squares-ended, run_longer, run_anew}
use Rattle.runs.specs.Maximal.{Maximal, merged_over_run}

-- The pixels of a run have its colour in the image px.
abbrev pub RunColoured : List ℕ → Run → Type 0
RunColoured px r = (i : ℕ) → r.from ≤ i → i < r.to → get_or px i 0 ≡ r.colour

-- The pixels of a piece, which begins where the run ends, have its colour in the image.
abbrev pub PieceColoured : List ℕ → Run → Piece → Type 0
PieceColoured px r a = (i : ℕ) → r.to ≤ i → i < r.to + a.size → get_or px i 0 ≡ a.colour

-- ---- one piece more

module _ (n : ℕ) (px : List ℕ) (r : Run) (a : Piece) (of : RunColoured px r) (here : PieceColoured px r a) where
  pub next-coloured : RunColoured px (next r a)
  next-coloured = pick (ℕ_discrete a.colour r.colour)
    where
      longer : a.colour ≡ r.colour → (i : ℕ) → r.from ≤ i → i < r.to + a.size → Dec (i < r.to) → get_or px i 0 ≡ r.colour
      longer e i low high (yes l) = of i low l
      longer e i low high (no l) = here i (omega arith) high ∙ e

      pick : Dec (a.colour ≡ r.colour) → RunColoured px (next r a)
      pick (yes e) = subst (RunColoured px) (sym (run_longer n r a e)) (λ i low high. longer e i low high (dec_lt i r.to))
      pick (no e) = subst (RunColoured px) (sym (run_anew n r a e)) here

  -- What merging gives from the run on: the squares that the piece ends, and what it gives from the next run on.
  pub merged_next : r.from ≤ r.to → 0 < a.size → r.to + a.size ≤ 4 ^ n → ended n r a ++ merged_from n px (next r a).from ≡ merged_from n px r.from
  merged_next ordered some inside = pick (ℕ_discrete a.colour r.colour)
    where
      ends-here : a.colour ≢ r.colour → Maximal n px r.from r.to r.colour
      ends-here e = record { inside = omega arith; same = of; ends = λ l f. e (sym (here r.to (omega arith) (omega arith)) ∙ f) }

      pick : Dec (a.colour ≡ r.colour) → ended n r a ++ merged_from n px (next r a).from ≡ merged_from n px r.from
      pick (yes e) = ap₂ (λ (w : List Block) (s : Run). w ++ merged_from n px s.from) (nothing-ended n r a e) (run_longer n r a e)
      pick (no e) =
          ap₂ (λ (w : List Block) (s : Run). w ++ merged_from n px s.from) (squares-ended n r a e) (run_anew n r a e)
          ∙ sym (merged_over_run n px r.from r.to r.colour ordered (ends-here e))

-- The last run, which ends with the image: its squares are all that merging gives.
pub merged_last : (n : ℕ) (px : List ℕ) (r : Run) → RunColoured px r → r.from ≤ r.to → r.to ≡ 4 ^ n → squares_of n r ≡ merged_from n px r.from
merged_last n px r of ordered end =
    sym (append-nil (squares_of n r))
    ∙ ap (λ (t : List Block). squares_of n r ++ t) (sym (merged_end n px r.to (omega arith)))
    ∙ sym (merged_over_run n px r.from r.to r.colour ordered (record { inside = omega arith; same = of; ends = λ l f. omega arith }))
