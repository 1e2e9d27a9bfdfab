-- Merging an image from its first pixel on: at each code the largest level that the code's ending zeros leave open and
-- whose pixels have one colour. What comes out is the quadtree.
use Rattle.std.specs.Prelude.{◌≡◌, refl, Bool, true, false, List, [], ◌∷◌, ℕ, zero, suc, ◌+◌, ◌-◌, ◌^◌, ◌≤◌, ◌<◌, get_or, ltb}
use Rattle.std.proofs.Common.{sym, ap, ◌∙◌, arith, lt-ltb, le-ltb}
use Rattle.std.proofs.Math.Decide.{dec_le}
use Rattle.sequences.specs.Powers.{pow4_pos}
use Rattle.location.specs.Levels.{top_level}
use Rattle.quadtree.specs.Blocks.{Block}
use Rattle.quadtree.specs.Quadtree.{alike}

-- The largest level up to `top` at the code c whose pixels have one colour.
unfoldable pub level_up_to : List ℕ → ℕ → ℕ → ℕ
unfolding alike
level_up_to px c zero = 0
level_up_to px c (suc l) = elim (alike px (get_or px c 0) c (4 ^ suc l)) [ true ↦ suc l | false ↦ level_up_to px c l ]

-- The block that starts at the code c.
unfoldable pub block_from : ℕ → List ℕ → ℕ → Block
unfolding level_up_to top_level
block_from n px c = record { code = c; level = level_up_to px c (top_level n c); colour = get_or px c 0 }

-- The blocks from the code c on, at most `fuel` of them.
unfoldable pub merged_in : ℕ → ℕ → List ℕ → ℕ → List Block
unfolding block_from
merged_in zero n px c = []
merged_in (suc fuel) n px c = elim (ltb c (4 ^ n)) [ true ↦ block_from n px c ∷ merged_in fuel n px (c + 4 ^ (block_from n px c).level) | false ↦ [] ]

-- The blocks from the code c to the image's end.
unfoldable pub merged_from : ℕ → List ℕ → ℕ → List Block
unfolding merged_in
merged_from n px c = merged_in (4 ^ n - c) n px c

pub level_whole : (px : List ℕ) (c l : ℕ) → alike px (get_or px c 0) c (4 ^ suc l) ≡ true → level_up_to px c (suc l) ≡ suc l
unfolding level_up_to
level_whole px c l h = rw (h, level_up_to)

pub level_part : (px : List ℕ) (c l : ℕ) → alike px (get_or px c 0) c (4 ^ suc l) ≡ false → level_up_to px c (suc l) ≡ level_up_to px c l
unfolding level_up_to
level_part px c l h = rw (h, level_up_to)

pub level_none : (px : List ℕ) (c : ℕ) → level_up_to px c 0 ≡ 0
unfolding level_up_to
level_none px c = refl

pub level_below : (px : List ℕ) (c l : ℕ) → level_up_to px c l ≤ l
level_below px c zero = omega (arith, level_none px c)
level_below px c (suc l) = by (level_below px c l) (alike px (get_or px c 0) c (4 ^ suc l)) refl
  where
    by : level_up_to px c l ≤ l → (b : Bool) → alike px (get_or px c 0) c (4 ^ suc l) ≡ b → level_up_to px c (suc l) ≤ suc l
    by ih true h = omega (arith, level_whole px c l h)
    by ih false h = omega (arith, ih, level_part px c l h)

in_end : (fuel n : ℕ) (px : List ℕ) (c : ℕ) → 4 ^ n ≤ c → merged_in fuel n px c ≡ []
unfolding merged_in
in_end zero n px c h = refl
in_end (suc fuel) n px c h = rw (le-ltb c (4 ^ n) h, merged_in)

in_more : (fuel n : ℕ) (px : List ℕ) (c : ℕ) → c < 4 ^ n → merged_in (suc fuel) n px c ≡ block_from n px c ∷ merged_in fuel n px (c + 4 ^ (block_from n px c).level)
unfolding merged_in
in_more fuel n px c h = rw (lt-ltb c (4 ^ n) h, merged_in)

-- More fuel than pixels are left changes nothing.
fuel_enough : (f g n : ℕ) (px : List ℕ) (c : ℕ) → 4 ^ n - c ≤ f → 4 ^ n - c ≤ g → merged_in f n px c ≡ merged_in g n px c
fuel_enough zero g n px c a b = in_end 0 n px c (omega arith) ∙ sym (in_end g n px c (omega arith))
fuel_enough (suc f) zero n px c a b = in_end (suc f) n px c (omega arith) ∙ sym (in_end 0 n px c (omega arith))
fuel_enough (suc f) (suc g) n px c a b =
    elim (dec_le (4 ^ n) c) [
      | yes h ↦ in_end (suc f) n px c h ∙ sym (in_end (suc g) n px c h)
      | no h ↦
          let pos = pow4_pos (block_from n px c).level in
          in_more f n px c (omega arith)
          ∙ ap (λ (t : List Block). block_from n px c ∷ t) (fuel_enough f g n px (c + 4 ^ (block_from n px c).level) (omega arith) (omega arith))
          ∙ sym (in_more g n px c (omega arith))
    ]

pub merged_end : (n : ℕ) (px : List ℕ) (c : ℕ) → 4 ^ n ≤ c → merged_from n px c ≡ []
unfolding merged_from
merged_end n px c h = in_end (4 ^ n - c) n px c h

pub merged_more : (n : ℕ) (px : List ℕ) (c : ℕ) → c < 4 ^ n → merged_from n px c ≡ block_from n px c ∷ merged_from n px (c + 4 ^ (block_from n px c).level)
unfolding merged_from
merged_more n px c h =
    let e : 4 ^ n - c ≡ suc (4 ^ n - (c + 1)) = omega arith in
    let pos = pow4_pos (block_from n px c).level in
    ap (λ (f : ℕ). merged_in f n px c) e ∙ in_more (4 ^ n - (c + 1)) n px c h
    ∙ ap (λ (t : List Block). block_from n px c ∷ t)
    (fuel_enough (4 ^ n - (c + 1)) (4 ^ n - (c + 4 ^ (block_from n px c).level)) n px (c + 4 ^ (block_from n px c).level) (omega arith) (omega arith))
