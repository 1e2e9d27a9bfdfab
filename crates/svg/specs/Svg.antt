-- SVG path data of one cycle form: "M, x, one space, y of the first corner, then H with x and V with y by turns for the
-- later corners, then Z. No other spaces, no leading zeros" (document 01, "Path, chain and picture").
use Rattle.std.specs.Prelude.{◌≡◌, refl, true, false, List, [], ◌∷◌, ◌++◌, ℕ, zero, suc, ◌+◌, ◌*◌, ◌%◌, ◌≤◌, ◌<◌, length, get_or, drop}
use Rattle.std.proofs.Math.Decide.{ℕ_discrete}
use Rattle.std.proofs.Common.{arith, add-one, length-append, drop_of_length-le, drop-cons}
use Rattle.sequences.specs.Cases.{then_both}
use Rattle.lattice.specs.Parity.{is_even, even_yes, even_not}
use Rattle.lattice.specs.Directions.{x_of, y_of}
use Rattle.lattice.specs.CycleForm.{inside, all_inside, cycle_form, parts, inside_says}
use Rattle.decimals.specs.Decimal.{decimal, decimal-length}
use Rattle.answers.specs.Answers.{Writes, writer_number}
use Rattle.answers.specs.declared.Written.{Written}

-- What is written for the corner at the place i: M (byte 77), x, a space (32) and y for the first; then H (72) with x at the
-- places 1, 3, .. and V (86) with y at the places 2, 4, ...
unfoldable pub word : ℕ → ℕ → List ℕ
word zero c = (77 ∷ decimal (x_of c)) ++ (32 ∷ decimal (y_of c))
word (suc i) c = elim (is_even (suc i)) [ true ↦ 86 ∷ decimal (y_of c) | false ↦ 72 ∷ decimal (x_of c) ]

-- From the place i on, and then Z (90).
unfoldable pub path_data_from : ℕ → List ℕ → List ℕ
unfolding word
path_data_from i [] = 90 ∷ []
path_data_from i (c ∷ cs) = word i c ++ path_data_from (suc i) cs

unfoldable pub path_data : List ℕ → List ℕ
unfolding path_data_from
path_data cs = path_data_from 0 cs

-- "SVG, 9 plus 4 a corner" (document 01, needs).
unfoldable pub svg_need : List ℕ → ℕ
svg_need cs = 9 + 4 * length cs

unfoldable pub svg_number : List ℕ → List ℕ → ℕ
svg_number cs text = writer_number 16 (cycle_form cs) (svg_need cs) (length text)

-- What the writer of path data promises of the corners, the text before and after, and the answer.
abbrev pub Svg : List ℕ → List ℕ → List ℕ → Written → Type 0
Svg cs text text' answer = Writes (svg_number cs text) (path_data cs) text text' answer

pub word_first : (i c : ℕ) → i ≡ 0 → word i c ≡ (77 ∷ decimal (x_of c)) ++ (32 ∷ decimal (y_of c))
unfolding word
word_first zero c h = refl
word_first (suc i) c h = absurd (omega arith)

pub word_even : (i c : ℕ) → (i ≡ 0 → ⊥) → i % 2 ≡ 0 → word i c ≡ 86 ∷ decimal (y_of c)
unfolding word
word_even zero c n h = absurd (n refl)
word_even (suc i) c n h = rw (even_yes (suc i) h, word) refl

pub word_odd : (i c : ℕ) → i % 2 ≡ 1 → word i c ≡ 72 ∷ decimal (x_of c)
unfolding word
word_odd zero c h = absurd (omega arith)
word_odd (suc i) c h = rw (even_not (suc i) h, word) refl

-- 8 bytes at most for the first corner, 4 for each later one.
word-length : (i c : ℕ) → inside c ≡ true → (length (word i c) ≤ 8) × (0 < i → length (word i c) ≤ 4)
word-length i c h = pick (ℕ_discrete i 0) (ℕ_discrete (i % 2) 0)
  where
    xs : length (decimal (x_of c)) ≤ 3
    xs = decimal-length (x_of c) (omega (arith, (inside_says c h).0))

    ys : length (decimal (y_of c)) ≤ 3
    ys = decimal-length (y_of c) (omega (arith, (inside_says c h).1))

    pick : Dec (i ≡ 0) → Dec (i % 2 ≡ 0) → (length (word i c) ≤ 8) × (0 < i → length (word i c) ≤ 4)
    pick (yes z) e = rw (word_first i c z) (omega (arith, length-append (77 ∷ decimal (x_of c)) (32 ∷ decimal (y_of c)), xs, ys), λ p. absurd (omega arith))
    pick (no n) (yes e) = rw (word_even i c n e) (omega (arith, ys), λ p. omega (arith, ys))
    pick (no n) (no o) = rw (word_odd i c (omega arith)) (omega (arith, xs), λ p. omega (arith, xs))

later_length : (i : ℕ) (cs : List ℕ) → 0 < i → all_inside cs ≡ true → length (path_data_from i cs) ≤ 1 + 4 * length cs
unfolding path_data_from all_inside
later_length i [] p h = omega arith
later_length i (c ∷ cs) p h =
    let b = then_both (inside c) (all_inside cs) h in
    omega (arith, length-append (word i c) (path_data_from (suc i) cs), (word-length i c b.0).1 p, later_length (suc i) cs (omega arith) b.1)

within_need : (cs : List ℕ) → all_inside cs ≡ true → length (path_data cs) ≤ svg_need cs
unfolding path_data path_data_from all_inside svg_need
within_need [] h = omega arith
within_need (c ∷ cs) h =
    let b = then_both (inside c) (all_inside cs) h in
    omega (arith, length-append (word 0 c) (path_data_from 1 cs), (word-length 0 c b.0).0, later_length 1 cs (omega arith) b.1)

-- The need of 9 plus 4 a corner always suffices.
pub need_suffices : (cs : List ℕ) → cycle_form cs ≡ true → length (path_data cs) ≤ 9 + 4 * length cs
unfolding svg_need
need_suffices cs h = within_need cs (parts cs h).within

-- The words from the place i on, taken off one by one.
pub path_next : (cs : List ℕ) (i : ℕ) → i < length cs → path_data_from i (drop i cs) ≡ word i (get_or cs i 0) ++ path_data_from (i + 1) (drop (i + 1) cs)
unfolding path_data_from
path_next cs i h = rw (add-one, drop-cons cs i 0) refl

pub path_end : (cs : List ℕ) (i : ℕ) → length cs ≤ i → path_data_from i (drop i cs) ≡ 90 ∷ []
unfolding path_data_from
path_end cs i h = rw (drop_of_length-le cs h) refl

-- How far the text has come after the word at i.
pub word_bounds : (i c at n : ℕ) → inside c ≡ true → n ≡ length (word i c) → at ≤ 8 * i → at ≤ 4 * i + 4 → (at + n ≤ 8 * (i + 1)) × (at + n ≤ 4 * (i + 1) + 4)
word_bounds i c at n h e p q = pick (ℕ_discrete i 0) (word-length i c h)
  where
    pick : Dec (i ≡ 0) → (length (word i c) ≤ 8) × (0 < i → length (word i c) ≤ 4) → (at + n ≤ 8 * (i + 1)) × (at + n ≤ 4 * (i + 1) + 4)
    pick (yes z) w = (omega (arith, w.0), omega (arith, w.0))
    pick (no k) w = (omega (arith, w.1 (omega arith)), omega (arith, w.1 (omega arith)))
