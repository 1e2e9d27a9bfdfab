-- The edges that cross the ray east of a place, and the winding number; the area as a difference of two sums.
use Rattle.std.specs.Prelude.{◌≡◌, refl, ◌≢◌, List, [], ◌∷◌, ℕ, zero, suc, ◌+◌, ◌*◌, ◌<◌, pos, ◌+ℤ◌, ◌*ℤ◌}
use Rattle.std.proofs.Common.{ap, ap₂, ◌∙◌, one-mul, arith}
use Rattle.sequences.specs.Differences.{difference, difference-add, difference_times}
use Rattle.lattice.specs.Directions.{x_of, tail, digit}
use Rattle.lattice.specs.Area.{change_of_y, area}
use Rattle.winding.specs.Sums.{same, at_most, same_yes, same_no}
use Rattle.winding.specs.Tallies.{tally}
use Rattle.winding.specs.Edges.{row_of}

-- 1 where the edge e has the digit d, 1 north or 3 south, and crosses the ray that runs east from the place (X, Y), else 0.
unfoldable pub crosses : ℕ → ℕ → ℕ → ℕ → ℕ
unfolding x_of tail digit same at_most row_of
crosses d X Y e = same (digit e) d * at_most X (x_of (tail e)) * same Y (row_of e)

pub crosses_yes : (d X Y e : ℕ) → digit e ≡ d → crosses d X Y e ≡ at_most X (x_of (tail e)) * same Y (row_of e)
unfolding crosses
crosses_yes d X Y e h = rw (same_yes (digit e) d h) (ap (λ (k : ℕ). k * same Y (row_of e)) (one-mul (at_most X (x_of (tail e)))))

pub crosses_no : (d X Y e : ℕ) → digit e ≢ d → crosses d X Y e ≡ 0
unfolding crosses
crosses_no d X Y e h = rw (same_no (digit e) d h) (omega arith)

-- How many edges of the list do so.
unfoldable pub crossings : ℕ → List ℕ → ℕ → ℕ → ℕ
unfolding tally crosses
crossings d es X Y = tally (crosses d X Y) es

-- The winding number around the place (X, Y), the southward crossings less the northward ones, is k.
abbrev pub Winds : ℕ → List ℕ → ℕ → ℕ → Type 0
Winds k es X Y = crossings 3 es X Y ≡ crossings 1 es X Y + k

-- The sum of x over the edges with the digit d.
unfoldable pub x_sum : ℕ → List ℕ → ℕ
unfolding x_of tail digit same tally
x_sum d es = tally (λ e. x_of (tail e) * same (digit e) d) es

change_is_difference : (d : ℕ) → d < 4 → change_of_y d ≡ difference (same d 3) (same d 1)
unfolding change_of_y difference same
change_is_difference zero h = refl
change_is_difference (suc zero) h = refl
change_is_difference (suc (suc zero)) h = refl
change_is_difference (suc (suc (suc zero))) h = refl
change_is_difference (suc (suc (suc (suc d)))) h = absurd (omega arith)

-- The area is the sum of x over the southward edges less that over the northward ones.
pub area_is_difference : (es : List ℕ) → area es ≡ difference (x_sum 3 es) (x_sum 1 es)
unfolding area x_sum tally difference digit
area_is_difference [] = refl
area_is_difference (e ∷ es) =
    let x : ℕ = x_of (tail e) in
    let d : ℕ = digit e in
    ap₂ ◌+ℤ◌ (ap (λ z. pos x *ℤ z) (change_is_difference d (omega arith)) ∙ difference_times x (same d 3) (same d 1)) (area_is_difference es)
    ∙ difference-add (x * same d 3) (x * same d 1) (x_sum 3 es) (x_sum 1 es)
