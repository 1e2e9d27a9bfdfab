-- Merging from the first pixel on gives the quadtree.
use Rattle.std.specs.Prelude.{◌≡◌, Bool, get_or}
use Rattle.std.proofs.Math.Path.{refl, ap}
use Rattle.std.proofs.Common.{sym, ◌∙◌, pow-suc, mul_assoc, mul_comm, add-mul, arith}
use Rattle.std.proofs.Math.Bool.{true, false}
use mathlib.Core.List.{List, ◌∷◌, ◌++◌, append_assoc, append-nil}
use Prim.Native.Nat.{ℕ, zero, suc, ◌+◌, ◌-◌, ◌*◌, ◌^◌, ◌≤◌, ◌<◌}
use Rattle.sequences.specs.Powers.{pow4_pos}
use Rattle.location.specs.Levels.{top_level}
use Rattle.location.specs.TopLevels.{top_exact, top_level_of_zero}
use Rattle.quadtree.specs.Blocks.{Block}
use Rattle.quadtree.specs.Quadtree.{alike, quadrant, quadtree}
use Rattle.quadtree.specs.Painting.{block, quadrant_pixel, quadrant_one, quadrant_four}
use Rattle.quadtree.specs.Merging.{level_up_to, level_none, level_whole, level_part, block_from, merged_from, merged_more, merged_end}

module _ (n : ℕ) (px : List ℕ) where
  -- The square of level m at the code c comes out as its quadtree, where the code's zeros leave open no more than m.
  abbrev Square : ℕ → Type 0
  Square m = (q c : ℕ) → m ≤ 8 → c ≡ q * 4 ^ m → c + 4 ^ m ≤ 4 ^ n → level_up_to px c (top_level n c) ≡ level_up_to px c m
      → merged_from n px c ≡ quadrant px m c ++ merged_from n px (c + 4 ^ m)

  -- The northeast, southwest and southeast quadrants: the zeros that end their codes tell their level.
  later : (m : ℕ) → Square m → (q i c : ℕ) → m ≤ 8 → 0 < i → i < 4 → c ≡ (q * 4 + i) * 4 ^ m → c + 4 ^ m ≤ 4 ^ n
      → merged_from n px c ≡ quadrant px m c ++ merged_from n px (c + 4 ^ m)
  later m square q i c h p l e r =
      square (q * 4 + i) c h e r (ap (level_up_to px c) (ap (top_level n) e ∙ top_exact n m (q * 4 + i) h (omega arith)))

  one_block : (l c : ℕ) → c < 4 ^ n → level_up_to px c (top_level n c) ≡ l
      → merged_from n px c ≡ block c l (get_or px c 0) ∷ merged_from n px (c + 4 ^ l)
  unfolding block_from
  one_block l c h e =
      merged_more n px c h
      ∙ ap (λ (k : ℕ). block c k (get_or px c 0) ∷ merged_from n px (c + 4 ^ k)) e

  -- The four quadrants of a square, one after the other.
  four : (m q c : ℕ) → Square m → suc m ≤ 8 → c ≡ q * 4 ^ suc m → c + 4 ^ suc m ≤ 4 ^ n → level_up_to px c (top_level n c) ≡ level_up_to px c m
      → merged_from n px c
      ≡ (quadrant px m c ++ (quadrant px m (c + 4 ^ m) ++ (quadrant px m (c + 4 ^ m + 4 ^ m) ++ quadrant px m (c + 4 ^ m + 4 ^ m + 4 ^ m))))
      ++ merged_from n px (c + 4 ^ suc m)
  four m q c ih h e r s =
      let w = 4 ^ m in
      let e0 : c ≡ q * 4 * 4 ^ m = e ∙ ap (λ (y : ℕ). q * y) (pow-suc 4 m ∙ mul_comm (4 ^ m) 4) ∙ sym (mul_assoc q 4 (4 ^ m)) in
      let a1 = add-mul (q * 4) 1 (4 ^ m) in
      let a2 = add-mul (q * 4) 2 (4 ^ m) in
      let a3 = add-mul (q * 4) 3 (4 ^ m) in
      let s0 : merged_from n px c ≡ quadrant px m c ++ merged_from n px (c + w) = ih (q * 4) c (omega arith) e0 (omega arith) s in
      let s1 : merged_from n px (c + w) ≡ quadrant px m (c + w) ++ merged_from n px (c + w + w) =
      later m ih q 1 (c + w) (omega arith) (omega arith) (omega arith) (omega (arith, e0, a1)) (omega arith) in
      let s2 : merged_from n px (c + w + w) ≡ quadrant px m (c + w + w) ++ merged_from n px (c + w + w + w) =
      later m ih q 2 (c + w + w) (omega arith) (omega arith) (omega arith) (omega (arith, e0, a2)) (omega arith) in
      let s3 : merged_from n px (c + w + w + w) ≡ quadrant px m (c + w + w + w) ++ merged_from n px (c + w + w + w + w) =
      later m ih q 3 (c + w + w + w) (omega arith) (omega arith) (omega arith) (omega (arith, e0, a3)) (omega arith) in
      let end : c + w + w + w + w ≡ c + 4 ^ suc m = omega arith in
      s0
      ∙ ap (λ (t : List Block). quadrant px m c ++ t)
      (s1 ∙ ap (λ (t : List Block). quadrant px m (c + w) ++ t)
      (s2 ∙ ap (λ (t : List Block). quadrant px m (c + w + w) ++ t)
      (s3 ∙ ap (λ (x : ℕ). quadrant px m (c + w + w + w) ++ merged_from n px x) end)))
      ∙ sym (simp append_assoc)

  square : (m : ℕ) → Square m
  unfolding quadrant
  square zero q c h e r s =
      one_block 0 c (omega arith) (s ∙ level_none px c) ∙ ap (λ (t : List Block). t ++ merged_from n px (c + 4 ^ 0)) (sym (quadrant_pixel px c))
  square (suc m) q c h e r s = by (alike px (get_or px c 0) c (4 ^ suc m)) refl (square m)
    where
      by : (b : Bool) → alike px (get_or px c 0) c (4 ^ suc m) ≡ b → Square m → merged_from n px c ≡ quadrant px (suc m) c ++ merged_from n px (c + 4 ^ suc m)
      by true a ih =
          one_block (suc m) c (omega (arith, pow4_pos m)) (s ∙ level_whole px c m a)
          ∙ ap (λ (t : List Block). t ++ merged_from n px (c + 4 ^ suc m)) (sym (quadrant_one px m c a))
      by false a ih =
          four m q c ih h e r (s ∙ level_part px c m a)
          ∙ ap (λ (t : List Block). t ++ merged_from n px (c + 4 ^ suc m)) (sym (quadrant_four px m c a))

  pub merged_is_quadtree : n ≤ 8 → merged_from n px 0 ≡ quadtree n px
  unfolding quadtree
  merged_is_quadtree h =
      square n 0 0 h (omega arith) (omega arith) (ap (level_up_to px 0) (top_level_of_zero n 0 refl))
      ∙ ap (λ (t : List Block). quadrant px n 0 ++ t) (merged_end n px (0 + 4 ^ n) (omega arith)) ∙ append-nil (quadrant px n 0)
