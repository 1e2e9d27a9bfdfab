-- Pieces of an image taken one after the other, with one run whose end is not known yet: a piece of its colour makes the run longer; a
-- piece of another ends it, and the run's squares are written.
use Rattle.std.specs.Prelude.{◌≡◌, ◌≢◌, Bool, ℕ, ◌+◌, ◌≤◌, length, eqb}
use Rattle.std.proofs.Math.Path.{ap}
use Rattle.std.proofs.Math.Bool.{cond}
use mathlib.Core.List.{List, []}
use Rattle.std.proofs.Math.Decide.{ℕ_discrete}
use Rattle.std.proofs.Common.{arith, eq-eqb, ne_eqb}
use Rattle.quadtree.specs.Blocks.{Block}
use Rattle.runs.specs.Squares.{squares, length-squares}

-- A piece: so many pixels of one colour, in rising location code.
pub record Piece : Type 0 where
  pub size : ℕ
  pub colour : ℕ

abbrev pub piece : ℕ → ℕ → Piece
piece k v = record { size = k; colour = v }

-- A run: the pixels with codes from `from` to before `to`, of one colour.
pub record Run : Type 0 where
  pub from : ℕ
  pub to : ℕ
  pub colour : ℕ

abbrev pub run : ℕ → ℕ → ℕ → Run
run p q v = record { from = p; to = q; colour = v }

abbrev pub squares_of : ℕ → Run → List Block
squares_of n r = squares n r.from r.to r.colour

-- What is written when a piece comes: the squares of the run that it ends.
unfoldable pub ended : ℕ → Run → Piece → List Block
unfolding squares
ended n r a = cond (eqb a.colour r.colour) [] (squares_of n r)

-- The run once the piece has come: longer, or the piece itself.
unfoldable pub next : Run → Piece → Run
next r a = cond (eqb a.colour r.colour) (run r.from (r.to + a.size) r.colour) (run r.to (r.to + a.size) a.colour)

-- ---- the equations, case by case

module _ (n : ℕ) (r : Run) (a : Piece) where
  pub nothing-ended : a.colour ≡ r.colour → ended n r a ≡ []
  unfolding ended
  nothing-ended e = ap (λ (t : Bool). cond t [] (squares_of n r)) (eq-eqb a.colour r.colour e)

  pub squares-ended : a.colour ≢ r.colour → ended n r a ≡ squares_of n r
  unfolding ended
  squares-ended e = ap (λ (t : Bool). cond t [] (squares_of n r)) (ne_eqb a.colour r.colour e)

  pub run_longer : a.colour ≡ r.colour → next r a ≡ run r.from (r.to + a.size) r.colour
  unfolding next
  run_longer e =
      ap (λ (t : Bool). cond t (run r.from (r.to + a.size) r.colour) (run r.to (r.to + a.size) a.colour)) (eq-eqb a.colour r.colour e)

  pub run_anew : a.colour ≢ r.colour → next r a ≡ run r.to (r.to + a.size) a.colour
  unfolding next
  run_anew e =
      ap (λ (t : Bool). cond t (run r.from (r.to + a.size) r.colour) (run r.to (r.to + a.size) a.colour)) (ne_eqb a.colour r.colour e)

  -- The run ends with the pixels that came, and no more blocks are written than pixels lie before it.
  pub next_end : (next r a).to ≡ r.to + a.size
  next_end = pick (ℕ_discrete a.colour r.colour)
    where
      pick : Dec (a.colour ≡ r.colour) → (next r a).to ≡ r.to + a.size
      pick (yes e) = ap (λ (s : Run). s.to) (run_longer e)
      pick (no e) = ap (λ (s : Run). s.to) (run_anew e)

  pub next_room : (count : ℕ) → r.from ≤ r.to → count ≤ r.from
      → (count + length (ended n r a) ≤ (next r a).from) × ((next r a).from ≤ (next r a).to)
  next_room count ordered few = pick (ℕ_discrete a.colour r.colour)
    where
      pick : Dec (a.colour ≡ r.colour) → (count + length (ended n r a) ≤ (next r a).from) × ((next r a).from ≤ (next r a).to)
      pick (yes e) =
          let f : (next r a).from ≡ r.from = ap (λ (s : Run). s.from) (run_longer e) in
          (omega (arith, ap length (nothing-ended e)), omega (arith, next_end))
      pick (no e) =
          let f : (next r a).from ≡ r.to = ap (λ (s : Run). s.from) (run_anew e) in
          (omega (arith, ap length (squares-ended e), length-squares n r.from r.to r.colour), omega (arith, next_end))
