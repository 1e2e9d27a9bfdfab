-- A run, pixels of one colour with successive codes, as squares: at each code the largest that may begin there and does not pass the
-- run's end.
use Rattle.std.specs.Prelude.{◌≡◌, refl, Bool, cond, List, [], ◌∷◌, ℕ, zero, suc, ◌+◌, ◌-◌, ◌^◌, ◌≤◌, ◌<◌, length, leb, ltb}
use Rattle.std.proofs.Common.{sym, ap, ◌∙◌, arith, le-leb, lt-ltb, le-ltb}
use Rattle.std.proofs.Math.Decide.{dec_le}
use Rattle.std.proofs.lemmas.Bool.{lt-leb}
use Rattle.sequences.specs.Powers.{pow4_pos}
use Rattle.location.specs.Levels.{top_level}
use Rattle.location.specs.TopLevels.{top_level_fits}
use Rattle.quadtree.specs.Blocks.{Block}
use Rattle.quadtree.specs.Painting.{block}

-- The largest level up to `top` of which a square at the code p ends no later than at the code `to`.
unfoldable pub level_within : ℕ → ℕ → ℕ → ℕ
level_within to p zero = 0
level_within to p (suc l) = cond (leb (p + 4 ^ suc l) to) (suc l) (level_within to p l)

pub within_none : (to p : ℕ) → level_within to p 0 ≡ 0
unfolding level_within
within_none to p = refl

-- From the top down: the first level that fits.
pub within_fits : (to p l : ℕ) → p + 4 ^ l ≤ to → level_within to p l ≡ l
unfolding level_within
within_fits to p zero h = refl
within_fits to p (suc l) h = ap (λ (t : Bool). cond t (suc l) (level_within to p l)) (le-leb (p + 4 ^ suc l) to h)

pub within_down : (to p l : ℕ) → to < p + 4 ^ suc l → level_within to p (suc l) ≡ level_within to p l
unfolding level_within
within_down to p l h = ap (λ (t : Bool). cond t (suc l) (level_within to p l)) (lt-leb (p + 4 ^ suc l) to h)

within_below : (to p l : ℕ) → level_within to p l ≤ l
within_below to p zero = omega (arith, within_none to p)
within_below to p (suc l) = pick (dec_le (p + 4 ^ suc l) to) (within_below to p l)
  where
    pick : Dec (p + 4 ^ suc l ≤ to) → level_within to p l ≤ l → level_within to p (suc l) ≤ suc l
    pick (yes h) ih = omega (arith, within_fits to p (suc l) h)
    pick (no h) ih = omega (arith, within_down to p l (omega arith))

within_ends : (to p l : ℕ) → p < to → p + 4 ^ level_within to p l ≤ to
within_ends to p zero h = rw (within_none to p) (omega arith)
within_ends to p (suc l) h = pick (dec_le (p + 4 ^ suc l) to) (within_ends to p l h)
  where
    pick : Dec (p + 4 ^ suc l ≤ to) → p + 4 ^ level_within to p l ≤ to → p + 4 ^ level_within to p (suc l) ≤ to
    pick (yes f) ih = rw (within_fits to p (suc l) f) f
    pick (no f) ih = rw (within_down to p l (omega arith)) ih

-- The level of the square at the code p of a run that ends at the code `to`: at most what the zeros that end p leave open.
unfoldable pub level_in : ℕ → ℕ → ℕ → ℕ
unfolding level_within top_level
level_in n p to = level_within to p (top_level n p)

-- The square does not pass the run's end, nor the image.
pub level_ends : (n p to : ℕ) → p < to → p + 4 ^ level_in n p to ≤ to
unfolding level_in
level_ends n p to h = within_ends to p (top_level n p) h

pub level_in_image : (n p to : ℕ) → p < to → to ≤ 4 ^ n → level_in n p to ≤ n
unfolding level_in
level_in_image n p to some inside = omega (arith, within_below to p (top_level n p), (top_level_fits n p (omega arith)).0)

-- The squares of the run from the code p to before the code `to` with the colour v, at most `fuel` of them.
unfoldable pub squares_in : ℕ → ℕ → ℕ → ℕ → ℕ → List Block
unfolding level_in
squares_in zero n p to v = []
squares_in (suc fuel) n p to v = cond (ltb p to) (block p (level_in n p to) v ∷ squares_in fuel n (p + 4 ^ level_in n p to) to v) []

-- The squares of the run from the code p to before the code `to` with the colour v.
unfoldable pub squares : ℕ → ℕ → ℕ → ℕ → List Block
unfolding squares_in
squares n p to v = squares_in (to - p) n p to v

in_end : (fuel n p to v : ℕ) → to ≤ p → squares_in fuel n p to v ≡ []
unfolding squares_in
in_end zero n p to v h = refl
in_end (suc fuel) n p to v h = ap (λ (t : Bool). cond t (block p (level_in n p to) v ∷ squares_in fuel n (p + 4 ^ level_in n p to) to v) []) (le-ltb p to h)

in_more : (fuel n p to v : ℕ) → p < to → squares_in (suc fuel) n p to v ≡ block p (level_in n p to) v ∷ squares_in fuel n (p + 4 ^ level_in n p to) to v
unfolding squares_in
in_more fuel n p to v h = ap (λ (t : Bool). cond t (block p (level_in n p to) v ∷ squares_in fuel n (p + 4 ^ level_in n p to) to v) []) (lt-ltb p to h)

-- More fuel than pixels are left changes nothing.
fuel_enough : (f g n p to v : ℕ) → to - p ≤ f → to - p ≤ g → squares_in f n p to v ≡ squares_in g n p to v
fuel_enough zero g n p to v a b = in_end 0 n p to v (omega arith) ∙ sym (in_end g n p to v (omega arith))
fuel_enough (suc f) zero n p to v a b = in_end (suc f) n p to v (omega arith) ∙ sym (in_end 0 n p to v (omega arith))
fuel_enough (suc f) (suc g) n p to v a b = pick (dec_le to p) (fuel_enough f g n (p + 4 ^ level_in n p to) to v)
  where
    pick : Dec (to ≤ p)
        → (to - (p + 4 ^ level_in n p to) ≤ f → to - (p + 4 ^ level_in n p to) ≤ g
        → squares_in f n (p + 4 ^ level_in n p to) to v ≡ squares_in g n (p + 4 ^ level_in n p to) to v)
        → squares_in (suc f) n p to v ≡ squares_in (suc g) n p to v
    pick (yes h) ih = in_end (suc f) n p to v h ∙ sym (in_end (suc g) n p to v h)
    pick (no h) ih =
        let pos = pow4_pos (level_in n p to) in
        in_more f n p to v (omega arith) ∙ ap (λ (t : List Block). block p (level_in n p to) v ∷ t) (ih (omega arith) (omega arith)) ∙ sym (in_more g n p to v (omega arith))

-- A run without pixels has no squares; any other has the square at its first code, and those of the rest.
pub squares_end : (n p to v : ℕ) → to ≤ p → squares n p to v ≡ []
unfolding squares
squares_end n p to v h = in_end (to - p) n p to v h

pub squares-more : (n p to v : ℕ) → p < to → squares n p to v ≡ block p (level_in n p to) v ∷ squares n (p + 4 ^ level_in n p to) to v
unfolding squares
squares-more n p to v h =
    let e : to - p ≡ suc (to - (p + 1)) = omega arith in
    let pos = pow4_pos (level_in n p to) in
    ap (λ (f : ℕ). squares_in f n p to v) e ∙ in_more (to - (p + 1)) n p to v h
    ∙ ap (λ (t : List Block). block p (level_in n p to) v ∷ t)
    (fuel_enough (to - (p + 1)) (to - (p + 4 ^ level_in n p to)) n (p + 4 ^ level_in n p to) to v (omega arith) (omega arith))

-- A run has no more squares than pixels.
squares_short : (k n p to v : ℕ) → to - p ≤ k → length (squares n p to v) ≤ to - p
squares_short zero n p to v h = rw (squares_end n p to v (omega arith)) (omega arith)
squares_short (suc k) n p to v h = pick (dec_le to p) (squares_short k n (p + 4 ^ level_in n p to) to v)
  where
    pick : Dec (to ≤ p)
        → (to - (p + 4 ^ level_in n p to) ≤ k → length (squares n (p + 4 ^ level_in n p to) to v) ≤ to - (p + 4 ^ level_in n p to))
        → length (squares n p to v) ≤ to - p
    pick (yes e) ih = rw (squares_end n p to v e) (omega arith)
    pick (no e) ih =
        let some : p < to = omega arith in
        let pos = pow4_pos (level_in n p to) in
        omega (arith, ap length (squares-more n p to v some), level_ends n p to some, ih (omega arith))

pub length-squares : (n p to v : ℕ) → length (squares n p to v) ≤ to - p
length-squares n p to v = squares_short (to - p) n p to v (omega arith)
