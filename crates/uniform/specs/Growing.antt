-- A block grows from one pixel by squares of its colour: where it stops is the largest level of one colour.
use Rattle.std.specs.Prelude.{◌≡◌, refl, Bool, true, false, ◌&&◌, List, ℕ, zero, suc, ◌+◌, ◌-◌, ◌*◌, ◌^◌, ◌≤◌, ◌<◌, get_or}
use Rattle.std.proofs.Common.{sym, ap, ◌∙◌, true≢false, add-one, arith}
use Rattle.std.proofs.Math.Decide.{dec_lt, ℕ_discrete}
use Rattle.sequences.specs.Cases.{same_test, and_both, both_and}
use Rattle.sequences.specs.Powers.{pow4_mono}
use Rattle.quadtree.specs.Quadtree.{alike}
use Rattle.quadtree.specs.Painting.{alike_each, each_alike}
use Rattle.quadtree.specs.Merging.{level_up_to, level_none, level_whole, level_part}

-- Whether the northeast, southwest and southeast quadrants of the square of level l + 1 at the code c have the colour v.
unfoldable pub others_alike : List ℕ → ℕ → ℕ → ℕ → Bool
unfolding alike
others_alike px v c l = alike px v (c + 1 * 4 ^ l) (4 ^ l) && (alike px v (c + 2 * 4 ^ l) (4 ^ l) && alike px v (c + 3 * 4 ^ l) (4 ^ l))

-- Fewer pixels are alike where more are.
fewer_alike : (px : List ℕ) (v c j k : ℕ) → j ≤ k → alike px v c k ≡ true → alike px v c j ≡ true
fewer_alike px v c j k h a = each_alike px v c j (λ i l. alike_each px v c k a i (omega arith))

-- A square one level up has the colour exactly where its northwest quadrant and the others have.
pub square_grows : (px : List ℕ) (v c l : ℕ) → alike px v c (4 ^ l) ≡ true → alike px v c (4 ^ (l + 1)) ≡ others_alike px v c l
unfolding others_alike
square_grows px v c l first =
    same_test (alike px v c (4 ^ (l + 1))) (others_alike px v c l) to from
  where
    w : ℕ
    w = 4 ^ l

    four : 4 ^ (l + 1) ≡ 4 * 4 ^ l
    four = ap (λ (k : ℕ). 4 ^ k) (add-one l) ∙ omega arith

    part : (i : ℕ) → i < 4 → alike px v c (4 ^ (l + 1)) ≡ true → alike px v (c + i * 4 ^ l) (4 ^ l) ≡ true
    part i small h = each_alike px v (c + i * 4 ^ l) (4 ^ l) (λ j k.
        let e : c + i * 4 ^ l + j ≡ c + (i * 4 ^ l + j) = omega arith in
        ap (λ (d : ℕ). get_or px d 0) e ∙ alike_each px v c (4 ^ (l + 1)) h (i * 4 ^ l + j) (within i small j k))
      where
        within : (i : ℕ) → i < 4 → (j : ℕ) → j < 4 ^ l → i * 4 ^ l + j < 4 ^ (l + 1)
        within zero s j k = omega (arith, four)
        within (suc zero) s j k = omega (arith, four)
        within (suc (suc zero)) s j k = omega (arith, four)
        within (suc (suc (suc zero))) s j k = omega (arith, four)
        within (suc (suc (suc (suc i)))) s j k = absurd (omega arith)

    to : alike px v c (4 ^ (l + 1)) ≡ true → others_alike px v c l ≡ true
    to h =
        both_and (alike px v (c + 1 * 4 ^ l) (4 ^ l)) (alike px v (c + 2 * 4 ^ l) (4 ^ l) && alike px v (c + 3 * 4 ^ l) (4 ^ l)) (part 1 (omega arith) h)
        (both_and (alike px v (c + 2 * 4 ^ l) (4 ^ l)) (alike px v (c + 3 * 4 ^ l) (4 ^ l)) (part 2 (omega arith) h) (part 3 (omega arith) h))

    from : others_alike px v c l ≡ true → alike px v c (4 ^ (l + 1)) ≡ true
    from h = each_alike px v c (4 ^ (l + 1)) each
      where
        one : (alike px v (c + 1 * 4 ^ l) (4 ^ l) ≡ true) × (alike px v (c + 2 * 4 ^ l) (4 ^ l) && alike px v (c + 3 * 4 ^ l) (4 ^ l) ≡ true)
        one = and_both (alike px v (c + 1 * 4 ^ l) (4 ^ l)) (alike px v (c + 2 * 4 ^ l) (4 ^ l) && alike px v (c + 3 * 4 ^ l) (4 ^ l)) h

        two : (alike px v (c + 2 * 4 ^ l) (4 ^ l) ≡ true) × (alike px v (c + 3 * 4 ^ l) (4 ^ l) ≡ true)
        two = and_both (alike px v (c + 2 * 4 ^ l) (4 ^ l)) (alike px v (c + 3 * 4 ^ l) (4 ^ l)) one.1

        shifted : (i d : ℕ) → alike px v (c + i * 4 ^ l) (4 ^ l) ≡ true → i * 4 ^ l ≤ d → d < i * 4 ^ l + 4 ^ l → get_or px (c + d) 0 ≡ v
        shifted i d a low high =
            let e : c + d ≡ c + i * 4 ^ l + (d - i * 4 ^ l) = omega arith in
            ap (λ (z : ℕ). get_or px z 0) e ∙ alike_each px v (c + i * 4 ^ l) (4 ^ l) a (d - i * 4 ^ l) (omega arith)

        each : (d : ℕ) → d < 4 ^ (l + 1) → get_or px (c + d) 0 ≡ v
        each d k =
            elim (dec_lt d (4 ^ l)) [
              | yes a ↦ alike_each px v c (4 ^ l) first d a
              | no a ↦
                  elim (dec_lt d (2 * 4 ^ l)) [
                    | yes b ↦ shifted 1 d one.0 (omega arith) (omega arith)
                    | no b ↦ elim (dec_lt d (3 * 4 ^ l)) [ yes e ↦ shifted 2 d two.0 (omega arith) (omega arith) | no e ↦ shifted 3 d two.1 (omega arith) (omega (arith, four)) ]
                  ]
            ]

-- A block that has grown to the top.
pub level_reached : (px : List ℕ) (c l : ℕ) → alike px (get_or px c 0) c (4 ^ l) ≡ true → l ≡ level_up_to px c l
level_reached px c zero h = sym (level_none px c)
level_reached px c (suc l) h = sym (level_whole px c l h)

no_longer : (px : List ℕ) (v c j k : ℕ) → j ≤ k → alike px v c j ≡ false → alike px v c k ≡ false
no_longer px v c j k h a = by (alike px v c k) refl
  where
    by : (t : Bool) → alike px v c k ≡ t → alike px v c k ≡ false
    by true e = absurd (true≢false (sym (fewer_alike px v c j k h e) ∙ a))
    by false e = e

-- A block that stops growing below the top.
pub level_stopped : (px : List ℕ) (c l top : ℕ) → l < top → alike px (get_or px c 0) c (4 ^ l) ≡ true → alike px (get_or px c 0) c (4 ^ (l + 1)) ≡ false
    → l ≡ level_up_to px c top
level_stopped px c l zero h a b = absurd (omega arith)
level_stopped px c l (suc top) h a b =
    let stop : alike px (get_or px c 0) c (4 ^ suc top) ≡ false = no_longer px (get_or px c 0) c (4 ^ (l + 1)) (4 ^ suc top) (pow4_mono (omega arith)) b in
    elim (ℕ_discrete l top) [
      | yes e ↦ level_reached px c l a ∙ ap (level_up_to px c) e ∙ sym (level_part px c top stop)
      | no d ↦ level_stopped px c l top (omega arith) a b ∙ sym (level_part px c top stop)
    ]

-- One pixel is a block.
pub one_pixel : (px : List ℕ) (c : ℕ) → alike px (get_or px c 0) c (4 ^ 0) ≡ true
one_pixel px c = each_alike px (get_or px c 0) c (4 ^ 0) (λ i h. let e : c + i ≡ c = omega arith in ap (λ (d : ℕ). get_or px d 0) e)
