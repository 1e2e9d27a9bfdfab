-- Four successive pixels of an image from a multiple of 4 on: whether they have one colour, and what merging gives where they do not.
use Rattle.std.specs.Prelude.{◌≡◌, refl, ◌≢◌, Bool, true, false, length, get_or, eqb}
use Rattle.std.proofs.Common.{sym, ◌∙◌, subst, length-append, eq-eqb, eqb-true}
use Rattle.std.proofs.Math.Path.{ap, ap₂}
use Rattle.std.proofs.lemmas.Bool.{false≢true}
use mathlib.Core.List.{List, [], ◌∷◌, ◌++◌, append_assoc}
use Prim.Native.Nat.{ℕ, zero, suc, ◌+◌, ◌-◌, ◌%◌, ◌^◌, ◌≤◌, ◌<◌}
use Rattle.std.proofs.Math.Decide.{ℕ_discrete}
use native.Mathlib.Omega.{arith}
use Rattle.sequences.specs.Powers.{pow4_mono}
use Rattle.sequences.specs.Cases.{same_test}
use Rattle.location.specs.Levels.{top_level}
use Rattle.location.specs.TopLevels.{level_divides}
use Rattle.quadtree.specs.Blocks.{Block}
use Rattle.quadtree.specs.Quadtree.{alike}
use Rattle.quadtree.specs.Painting.{block, alike_each, each_alike}
use Rattle.quadtree.specs.Merging.{level_up_to, block_from, merged_from, level_none, level_part, merged_more}
use Rattle.squares.specs.Quadrants.{lower_multiple, level_of_other}
use Rattle.runs.specs.Runs.{Run}
use Rattle.runs.specs.MergedRuns.{RunColoured}
use Rattle.runs.specs.Maximal.{Apart}

-- The image px has these four colours from the code c on.
pub record HasFour (px : List ℕ) (c : ℕ) (four : List ℕ) : Type 0 where
  pub each : (i : ℕ) → i < 4 → get_or px (c + i) 0 ≡ get_or four i 0

-- Whether four colours are one.
abbrev pub one_colour : List ℕ → Bool
one_colour four = alike four (get_or four 0 0) 0 4

-- Whether the four pixels from the code c on have one colour.
abbrev pub four_alike : List ℕ → ℕ → Bool
four_alike px c = alike px (get_or px c 0) c 4

-- The first k of four pixels from the code c on, each a block.
unfoldable pub pixel_blocks : List ℕ → ℕ → ℕ → List Block
pixel_blocks four c zero = []
pixel_blocks four c (suc k) = pixel_blocks four c k ++ block (c + k) 0 (get_or four k 0) ∷ []

pub length_pixel_blocks : (four : List ℕ) (c k : ℕ) → length (pixel_blocks four c k) ≡ k
unfolding pixel_blocks
length_pixel_blocks four c zero = refl
length_pixel_blocks four c (suc k) = omega (arith, length-append (pixel_blocks four c k) (block (c + k) 0 (get_or four k 0) ∷ []), length_pixel_blocks four c k)

-- What holds of each of four.
pub for_four : (P : ℕ → Type 0) → P 0 → P 1 → P 2 → P 3 → (i : ℕ) → i < 4 → P i
for_four P a b c d zero h = a
for_four P a b c d (suc zero) h = b
for_four P a b c d (suc (suc zero)) h = c
for_four P a b c d (suc (suc (suc zero))) h = d
for_four P a b c d (suc (suc (suc (suc i)))) h = absurd (omega arith)

-- ---- whether they have one colour

pub same_colour : (four : List ℕ) → one_colour four ≡ true → (i : ℕ) → i < 4 → get_or four i 0 ≡ get_or four 0 0
same_colour four h i l = let e : i ≡ 0 + i = omega arith in ap (λ (j : ℕ). get_or four j 0) e ∙ alike_each four (get_or four 0 0) 0 4 h i l

pub other_colour : (four : List ℕ) (i : ℕ) → i < 4 → get_or four i 0 ≢ get_or four 0 0 → false ≡ one_colour four
other_colour four i l d = same_test false (one_colour four) (λ h. absurd (false≢true h)) (λ h. absurd (d (same_colour four h i l)))

pub told_by_last : (four : List ℕ) → get_or four 1 0 ≡ get_or four 0 0 → get_or four 2 0 ≡ get_or four 0 0 → eqb (get_or four 3 0) (get_or four 0 0) ≡ one_colour four
told_by_last four e f =
    let v = get_or four 0 0 in
    same_test (eqb (get_or four 3 0) v) (one_colour four)
    (λ h. each_alike four v 0 4 (for_four (λ (i : ℕ). get_or four (0 + i) 0 ≡ v) refl e f (eqb-true (get_or four 3 0) v h)))
    (λ h. eq-eqb (get_or four 3 0) v (same_colour four h 3 (omega arith)))

-- The pixels of an image that has four colours are alike where these are one.
pub alike_by_colours : {px four : List ℕ} {c : ℕ} → HasFour px c four → one_colour four ≡ four_alike px c
alike_by_colours {px} {four} {c} has =
    same_test (one_colour four) (four_alike px c)
    (λ h. each_alike px (get_or px c 0) c 4 (λ i l. has.each i l ∙ same_colour four h i l ∙ sym first))
    (λ h. each_alike four (get_or four 0 0) 0 4 (λ i l.
    let e : 0 + i ≡ i = omega arith in
    ap (λ (j : ℕ). get_or four j 0) e ∙ sym (has.each i l) ∙ alike_each px (get_or px c 0) c 4 h i l ∙ first))
  where
    first : get_or px c 0 ≡ get_or four 0 0
    first = let e : c ≡ c + 0 = omega arith in ap (λ (j : ℕ). get_or px j 0) e ∙ has.each 0 (omega arith)

-- ---- where they do not

module _ (n : ℕ) (px : List ℕ) (c : ℕ) (multiple : c % 4 ≡ 0) (inside : c + 4 ≤ 4 ^ n) (unlike : four_alike px c ≡ false) where
  -- No square from c on that has more than one pixel has one colour.
  none_larger : (l : ℕ) → alike px (get_or px c 0) c (4 ^ suc l) ≡ false
  none_larger l =
      let more : 4 ^ 1 ≤ 4 ^ suc l = pow4_mono {i = 1} {j = suc l} (omega arith) in
      same_test (alike px (get_or px c 0) c (4 ^ suc l)) false
      (λ h. sym unlike ∙ each_alike px (get_or px c 0) c 4 (λ i k. alike_each px (get_or px c 0) c (4 ^ suc l) h i (omega arith)))
      (λ h. absurd (false≢true h))

  first_single : (top : ℕ) → level_up_to px c top ≡ 0
  first_single zero = level_none px c
  first_single (suc l) = level_part px c l (none_larger l) ∙ first_single l

  single : (k : ℕ) → k < 4 → level_up_to px (c + k) (top_level n (c + k)) ≡ 0
  single k h = pick (ℕ_discrete k 0)
    where
      pick : Dec (k ≡ 0) → level_up_to px (c + k) (top_level n (c + k)) ≡ 0
      pick (yes e) = let here : c ≡ c + k = omega arith in subst (λ (d : ℕ). level_up_to px d (top_level n d) ≡ 0) here (first_single (top_level n c))
      pick (no e) =
          let low : top_level n (c + k) ≡ 0 = level_of_other (c + k) (top_level n (c + k)) (level_divides n (c + k)) (λ m. omega arith) in
          ap (level_up_to px (c + k)) low ∙ level_none px (c + k)

  -- Merging gives four blocks of one pixel there.
  pub merged_pixels : {four : List ℕ} → HasFour px c four → (k : ℕ) → k ≤ 4 → pixel_blocks four c k ++ merged_from n px (c + k) ≡ merged_from n px c
  unfolding pixel_blocks block_from
  merged_pixels has zero h = let e : c + 0 ≡ c = omega arith in ap (merged_from n px) e
  merged_pixels {four} has (suc k) h =
      let b : Block = block (c + k) 0 (get_or four k 0) in
      let next : c + suc k ≡ c + k + 4 ^ 0 = omega arith in
      append_assoc (pixel_blocks four c k) (b ∷ []) (merged_from n px (c + suc k))
      ∙ ap (λ (d : ℕ). pixel_blocks four c k ++ b ∷ merged_from n px d) next
      ∙ ap (λ (l : List Block). pixel_blocks four c k ++ l)
      (sym (merged_more n px (c + k) (omega arith)
      ∙ ap₂ (λ (l v : ℕ). block (c + k) l v ∷ merged_from n px (c + k + 4 ^ l)) (single k (omega arith)) (has.each k (omega arith))))
      ∙ merged_pixels has k (omega arith)

  -- A square of one colour that has pixels of a run before them does not pass its end: it would have all four.
  pub run_apart : (r : Run) → RunColoured px r → r.to ≡ c → Apart n px r.from r.to r.colour
  run_apart r of here = record {
    inside = omega arith;
    same = of;
    passing = λ q l low high m past room.
        same_test (alike px r.colour q (4 ^ l)) false
        (λ h. sym unlike ∙ each_alike px (get_or px c 0) c 4 (λ i k. covered q l high m past h i k ∙ sym (covered_first q l high m past h)))
        (λ h. absurd (false≢true h));
  }
    where
      passed : (q l : ℕ) → q < r.to → q % 4 ^ l ≡ 0 → r.to < q + 4 ^ l → c + 4 ≤ q + 4 ^ l
      passed q zero high m past = absurd (omega arith)
      passed q (suc l) high m past = omega (arith, lower_multiple q 1 (suc l) (omega arith) m)

      covered : (q l : ℕ) → q < r.to → q % 4 ^ l ≡ 0 → r.to < q + 4 ^ l → alike px r.colour q (4 ^ l) ≡ true → (i : ℕ) → i < 4 → get_or px (c + i) 0 ≡ r.colour
      covered q l high m past h i k =
          let e : c + i ≡ q + (c + i - q) = omega arith in
          ap (λ (j : ℕ). get_or px j 0) e ∙ alike_each px r.colour q (4 ^ l) h (c + i - q) (omega (arith, passed q l high m past))

      covered_first : (q l : ℕ) → q < r.to → q % 4 ^ l ≡ 0 → r.to < q + 4 ^ l → alike px r.colour q (4 ^ l) ≡ true → get_or px c 0 ≡ r.colour
      covered_first q l high m past h = let e : c ≡ c + 0 = omega arith in ap (λ (j : ℕ). get_or px j 0) e ∙ covered q l high m past h 0 (omega arith)
