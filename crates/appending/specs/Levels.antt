-- The loop that finds the level of a square: from the largest that may begin at its code down to the first that fits the run.
use Rattle.std.specs.Prelude.{◌≡◌, ℕ, zero, suc, ◌+◌, ◌-◌, ◌^◌, ◌≤◌, ◌<◌}
use Rattle.std.proofs.Math.Path.{sym, ap}
use Rattle.std.proofs.Common.{◌∙◌, arith}
use Rattle.sequences.specs.Powers.{pow4_pos, pow4_mono}
use Rattle.location.specs.Levels.{top_level, pixels_of, pixels_are_power}
use Rattle.location.specs.TopLevels.{top_level_fits}
use Rattle.runs.specs.Squares.{level_within, level_in, within_none, within_fits, within_down}

-- A run with pixels, inside the image.
pub record RunIn (n p to : ℕ) : Type 0 where
  pub small : n ≤ 8
  pub some : p < to
  pub inside : to ≤ 4 ^ n

-- At the loop's head: the level sought is the largest up to l.
pub record Descending (n p to l : ℕ) : Type 0 where
  pub low : l ≤ n
  pub same : level_within to p l ≡ level_in n p to

within_few : (to p l : ℕ) → to < p + 4 → level_within to p l ≡ 0
within_few to p zero h = within_none to p
within_few to p (suc l) h = within_down to p l (omega (arith, pow4_pos l)) ∙ within_few to p l h

module _ {n p to : ℕ} (r : RunIn n p to) where
  pub run_small : to ≤ 65536
  run_small = omega (arith, r.inside, pow4_mono r.small)

  -- Fewer than four pixels are single squares.
  pub level_of_few : to - p < 4 → 0 ≡ level_in n p to
  unfolding level_in
  level_of_few h = sym (within_few to p (top_level n p) (omega (arith, r.some)))

  pub level_first : {l : ℕ} → l ≡ top_level n p → Descending n p to l
  unfolding level_in
  level_first {l} e = record {
    low = omega (arith, e, (top_level_fits n p (omega (arith, r.some, r.inside))).0);
    same = ap (level_within to p) e;
  }

  module _ {l w : ℕ} (d : Descending n p to l) (e : w ≡ pixels_of l) where
    worth : w ≡ 4 ^ l
    worth = e ∙ pixels_are_power l (omega (arith, d.low, r.small))

    pub square_small : w ≤ 65536
    square_small = omega (arith, worth, pow4_mono d.low, pow4_mono r.small)

    pub level_found : p + w ≤ to → l ≡ level_in n p to
    level_found h = sym (within_fits to p l (omega (arith, worth))) ∙ d.same

    pub level_positive : to < p + w → 0 < l
    level_positive h = pick l worth
      where
        pick : (l : ℕ) → w ≡ 4 ^ l → 0 < l
        pick zero g = absurd (omega (arith, r.some))
        pick (suc l) g = omega arith

    pub level_next : to < p + w → Descending n p to (l - 1)
    level_next h = record { low = omega (arith, d.low); same = down l (omega (arith, worth)) d.same }
      where
        down : (l : ℕ) → to < p + 4 ^ l → level_within to p l ≡ level_in n p to → level_within to p (l - 1) ≡ level_in n p to
        down zero g s = absurd (omega (arith, r.some))
        down (suc l) g s = let f : suc l - 1 ≡ l = omega arith in ap (level_within to p) f ∙ sym (within_down to p l g) ∙ s
