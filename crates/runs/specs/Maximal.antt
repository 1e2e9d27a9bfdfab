-- A run that no square of its colour passes, as one that goes as far as its colour does: merging the image gives its squares, and then goes
-- on after it.
use Rattle.std.specs.Prelude.{◌≡◌, ◌≢◌, true, false, List, ◌∷◌, ◌++◌, ℕ, zero, suc, ◌+◌, ◌-◌, ◌%◌, ◌^◌, ◌≤◌, ◌<◌, get_or}
use Rattle.std.proofs.Common.{sym, ap, ◌∙◌, arith}
use Rattle.std.proofs.Math.Path.{ap₂}
use Rattle.std.proofs.lemmas.Bool.{false≢true}
use Rattle.std.proofs.Math.Nat.{dvd_trans, dvd_of_mod-eq-zero, mod-eq-zero_of_dvd}
use Rattle.std.proofs.Math.Decide.{dec_le}
use Rattle.sequences.specs.Powers.{pow4_pos, pow4_divides}
use Rattle.sequences.specs.Cases.{same_test}
use Rattle.location.specs.Levels.{top_level}
use Rattle.location.specs.TopLevels.{top_level_fits, level_divides}
use Rattle.quadtree.specs.Blocks.{Block}
use Rattle.quadtree.specs.Quadtree.{alike}
use Rattle.quadtree.specs.Painting.{block, alike_each, each_alike}
use Rattle.quadtree.specs.Merging.{level_up_to, block_from, merged_from, level_none, level_whole, level_part, merged_more}
use Rattle.runs.specs.Squares.{level_within, level_in, squares, within_none, within_fits, within_down, level_ends, squares_end, squares-more}

-- In the image px the pixels with codes from p to before `to` have the colour v, and no square that may begin with one of them and passes
-- `to` has.
pub record Apart (n : ℕ) (px : List ℕ) (p to v : ℕ) : Type 0 where
  pub inside : to ≤ 4 ^ n
  pub same : (i : ℕ) → p ≤ i → i < to → get_or px i 0 ≡ v
  pub passing : (q l : ℕ) → p ≤ q → q < to → q % 4 ^ l ≡ 0 → to < q + 4 ^ l → q + 4 ^ l ≤ 4 ^ n → alike px v q (4 ^ l) ≡ false

-- The same pixels, and the next one, if there is one, has another colour.
pub record Maximal (n : ℕ) (px : List ℕ) (p to v : ℕ) : Type 0 where
  pub inside : to ≤ 4 ^ n
  pub same : (i : ℕ) → p ≤ i → i < to → get_or px i 0 ≡ v
  pub ends : to < 4 ^ n → get_or px to 0 ≢ v

-- A square that passes the run's end has the next pixel, and so not one colour.
maximal_apart : {n : ℕ} {px : List ℕ} {p to v : ℕ} → Maximal n px p to v → Apart n px p to v
maximal_apart {n} {px} {p} {to} {v} m = record {
  inside = m.inside;
  same = m.same;
  passing = λ q l low high multiple past room.
      same_test (alike px v q (4 ^ l)) false (λ h. absurd (m.ends (omega arith) (covered q (4 ^ l) high past h))) (λ h. absurd (false≢true h));
}
  where
    covered : (q k : ℕ) → q < to → to < q + k → alike px v q k ≡ true → get_or px to 0 ≡ v
    covered q k high past h =
        let here : to ≡ q + (to - q) = omega arith in
        ap (λ (i : ℕ). get_or px i 0) here ∙ alike_each px v q k h (to - q) (omega arith)

later : {n : ℕ} {px : List ℕ} {p to v : ℕ} (q : ℕ) → p ≤ q → Apart n px p to v → Apart n px q to v
later q h m = record {
  inside = m.inside;
  same = λ i low high. m.same i (omega arith) high;
  passing = λ r l low high. m.passing r l (omega arith) high;
}

module _ (n : ℕ) (px : List ℕ) (p to v : ℕ) (m : Apart n px p to v) (some : p < to) where
  first : get_or px p 0 ≡ v
  first = m.same p (omega arith) some

  -- A square of the image at p is of one colour exactly where it does not pass the run's end.
  alike_fits : (k : ℕ) → p + k ≤ to → alike px (get_or px p 0) p k ≡ true
  alike_fits k h = each_alike px (get_or px p 0) p k (λ i l. m.same (p + i) (omega arith) (omega arith) ∙ sym first)

  alike_passes : (l : ℕ) → p % 4 ^ l ≡ 0 → to < p + 4 ^ l → p + 4 ^ l ≤ 4 ^ n → alike px (get_or px p 0) p (4 ^ l) ≡ false
  alike_passes l multiple past room = ap (λ (c : ℕ). alike px c p (4 ^ l)) first ∙ m.passing p l (omega arith) some multiple past room

  -- So the largest level of one colour is the largest that does not pass the run's end.
  level_of_run : (top : ℕ) → p % 4 ^ top ≡ 0 → p + 4 ^ top ≤ 4 ^ n → level_up_to px p top ≡ level_within to p top
  level_of_run zero multiple room = level_none px p ∙ sym (within_none to p)
  level_of_run (suc l) multiple room = pick (dec_le (p + 4 ^ suc l) to) (level_of_run l (lower l multiple) (omega arith))
    where
      lower : (l : ℕ) → p % 4 ^ suc l ≡ 0 → p % 4 ^ l ≡ 0
      lower l h = mod-eq-zero_of_dvd (4 ^ l) (dvd_trans (4 ^ l) (pow4_divides (omega arith)) (dvd_of_mod-eq-zero (4 ^ suc l) h))

      pick : Dec (p + 4 ^ suc l ≤ to) → level_up_to px p l ≡ level_within to p l → level_up_to px p (suc l) ≡ level_within to p (suc l)
      pick (yes h) ih = level_whole px p l (alike_fits (4 ^ suc l) h) ∙ sym (within_fits to p (suc l) h)
      pick (no h) ih = level_part px p l (alike_passes (suc l) multiple (omega arith) room) ∙ ih ∙ sym (within_down to p l (omega arith))

  block_of_run : block_from n px p ≡ block p (level_in n p to) v
  unfolding block_from level_in
  block_of_run = ap₂ (λ (l u : ℕ). block p l u) (level_of_run (top_level n p) (level_divides n p) (top_level_fits n p (omega (arith, m.inside))).1) first

-- The squares of the run, and then the image from the run's end on.
over_squares : (k n : ℕ) (px : List ℕ) (p to v : ℕ) → to - p ≤ k → p ≤ to → Apart n px p to v → merged_from n px p ≡ squares n p to v ++ merged_from n px to
over_squares zero n px p to v h low m =
    let e : p ≡ to = omega arith in
    ap (merged_from n px) e ∙ ap (λ (t : List Block). t ++ merged_from n px to) (sym (squares_end n p to v (omega arith)))
over_squares (suc k) n px p to v h low m = pick (dec_le to p) (over_squares k n px (p + 4 ^ level_in n p to) to v)
  where
    pick : Dec (to ≤ p)
        → (to - (p + 4 ^ level_in n p to) ≤ k → p + 4 ^ level_in n p to ≤ to → Apart n px (p + 4 ^ level_in n p to) to v
        → merged_from n px (p + 4 ^ level_in n p to) ≡ squares n (p + 4 ^ level_in n p to) to v ++ merged_from n px to)
        → merged_from n px p ≡ squares n p to v ++ merged_from n px to
    pick (yes g) ih =
        let e : p ≡ to = omega arith in
        ap (merged_from n px) e ∙ ap (λ (t : List Block). t ++ merged_from n px to) (sym (squares_end n p to v g))
    pick (no g) ih =
        let pos = pow4_pos (level_in n p to) in
        let some : p < to = omega arith in
        merged_more n px p (omega (arith, m.inside))
        ∙ ap (λ (b : Block). b ∷ merged_from n px (p + 4 ^ b.level)) (block_of_run n px p to v m some)
        ∙ ap (λ (t : List Block). block p (level_in n p to) v ∷ t) (ih (omega arith) (level_ends n p to some) (later (p + 4 ^ level_in n p to) (omega arith) m))
        ∙ ap (λ (t : List Block). t ++ merged_from n px to) (sym (squares-more n p to v some))

pub merged_over_apart : (n : ℕ) (px : List ℕ) (p to v : ℕ) → p ≤ to → Apart n px p to v → merged_from n px p ≡ squares n p to v ++ merged_from n px to
merged_over_apart n px p to v low m = over_squares (to - p) n px p to v (omega arith) low m

pub merged_over_run : (n : ℕ) (px : List ℕ) (p to v : ℕ) → p ≤ to → Maximal n px p to v → merged_from n px p ≡ squares n p to v ++ merged_from n px to
merged_over_run n px p to v low m = merged_over_apart n px p to v low (maximal_apart m)
