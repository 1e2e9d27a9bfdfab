-- The map with a margin that a list holds in rows, looked at from the four sides of a point.
use Rattle.std.specs.Prelude.{◌≡◌, refl, true, false, List, ℕ, zero, suc, ◌+◌, ◌-◌, ◌*◌, ◌%◌, ◌≤◌, ◌<◌, length, get_or, ltb}
use Rattle.std.proofs.Common.{sym, ◌∙◌, mul-le-mul_right, add-one, arith, lt-ltb, le-ltb}
use Rattle.std.proofs.Math.Path.{fun_ext}
use Rattle.std.proofs.Math.Decide.{ℕ_discrete, dec_lt}
use Rattle.std.proofs.Math.Arith.{digits_lt}
use Rattle.lattice.specs.Directions.{x_of, y_of}
use Rattle.grid.specs.Map.{around}
use Rattle.grid.specs.Margins.{Margin}

-- What a mark adds to an entry of the map: a number of 17 binary digits holds 1 plus any region's number without it.
abbrev pub mark_bit : ℕ
mark_bit = 131072

-- What a list of `side` rows holds at (X, Y) of the map with a margin: 0 outside, and no mark.
unfoldable pub map_at : ℕ → List ℕ → ℕ → ℕ → ℕ
map_at side map zero Y = 0
map_at side map (suc x) zero = 0
map_at side map (suc x) (suc y) =
    elim (ltb x side) [
      | false ↦ 0
      | true ↦ elim (ltb y side) [ false ↦ 0 | true ↦ get_or map (y * side + x) 0 % mark_bit ]
    ]

-- The list has an entry for each pixel of an image of that side.
pub record Square (side : ℕ) (map : List ℕ) : Type 0 where
  pub small : side ≤ 256
  pub room : side * side ≤ length map

pub at_inside : (side : ℕ) (map : List ℕ) (x y : ℕ) → x < side → y < side → map_at side map (suc x) (suc y) ≡ get_or map (y * side + x) 0 % mark_bit
unfolding map_at
at_inside side map x y h k = rw (lt-ltb x side h, lt-ltb y side k, map_at)

pub at_west : (side : ℕ) (map : List ℕ) (X Y : ℕ) → X ≡ 0 → map_at side map X Y ≡ 0
unfolding map_at
at_west side map X Y h = rw h refl

pub at_north : (side : ℕ) (map : List ℕ) (X Y : ℕ) → Y ≡ 0 → map_at side map X Y ≡ 0
unfolding map_at
at_north side map zero Y h = refl
at_north side map (suc x) Y h = rw h refl

pub at_east : (side : ℕ) (map : List ℕ) (X Y : ℕ) → side < X → map_at side map X Y ≡ 0
unfolding map_at
at_east side map zero Y h = refl
at_east side map (suc x) zero h = refl
at_east side map (suc x) (suc y) h = rw (le-ltb x side (omega arith), map_at)

pub at_south : (side : ℕ) (map : List ℕ) (X Y : ℕ) → side < Y → map_at side map X Y ≡ 0
unfolding map_at
at_south side map zero Y h = refl
at_south side map (suc x) zero h = refl
at_south side map (suc x) (suc y) h =
    elim (dec_lt x side) [
      | yes a ↦ rw (lt-ltb x side a, le-ltb y side (omega arith), map_at)
      | no a ↦ rw (le-ltb x side (omega arith), map_at)
    ]

-- Lists that differ in marks only are one map.
pub at_same : (side : ℕ) (map map' : List ℕ) → ((j : ℕ) → get_or map' j 0 % mark_bit ≡ get_or map j 0 % mark_bit) → map_at side map' ≡ map_at side map
at_same side map map' same = fun_ext (λ X. fun_ext (λ Y. at X Y))
  where
    inside : (x y : ℕ) → Dec (x < side) → Dec (y < side) → map_at side map' (suc x) (suc y) ≡ map_at side map (suc x) (suc y)
    inside x y (no a) b = at_east side map' (suc x) (suc y) (omega arith) ∙ sym (at_east side map (suc x) (suc y) (omega arith))
    inside x y (yes a) (no b) = at_south side map' (suc x) (suc y) (omega arith) ∙ sym (at_south side map (suc x) (suc y) (omega arith))
    inside x y (yes a) (yes b) = at_inside side map' x y a b ∙ same (y * side + x) ∙ sym (at_inside side map x y a b)

    at : (X Y : ℕ) → map_at side map' X Y ≡ map_at side map X Y
    at zero Y = at_west side map' 0 Y refl ∙ sym (at_west side map 0 Y refl)
    at (suc x) zero = at_north side map' (suc x) 0 refl ∙ sym (at_north side map (suc x) 0 refl)
    at (suc x) (suc y) = inside x y (dec_lt x side) (dec_lt y side)

-- Inside, as the code reaches it: one less in X and in Y.
pub at_entry : (side : ℕ) (map : List ℕ) (X Y : ℕ) → 0 < X → 0 < Y → X ≤ side → Y ≤ side → map_at side map X Y ≡ get_or map ((Y - 1) * side + (X - 1)) 0 % mark_bit
at_entry side map zero Y a b h k = absurd (omega arith)
at_entry side map (suc x) zero a b h k = absurd (omega arith)
at_entry side map (suc x) (suc y) a b h k =
    let ex : suc x - 1 ≡ x = omega arith in
    let ey : suc y - 1 ≡ y = omega arith in
    rw (ex, ey) (at_inside side map x y (omega arith) (omega arith))

pub entry-below : (side X Y : ℕ) → 0 < X → 0 < Y → X ≤ side → Y ≤ side → (Y - 1) * side + (X - 1) < side * side
entry-below side X Y a b h k = digits_lt (omega arith) (omega arith)

pub row_small : (side y : ℕ) → side ≤ 256 → y ≤ 256 → y * side ≤ 65536
row_small side y h k = omega (arith, mul-le-mul_right side k)

-- Where a map is no 0 is inside.
pub at_margin : (side : ℕ) (map : List ℕ) → side ≤ 256 → Margin (map_at side map)
at_margin side map small X Y pos =
    elim (ℕ_discrete X 0) [
      | yes h ↦ absurd (omega (arith, at_west side map X Y h))
      | no a ↦ elim (ℕ_discrete Y 0) [
        | yes h ↦ absurd (omega (arith, at_north side map X Y h))
        | no b ↦ elim (dec_lt side X) [
          | yes h ↦ absurd (omega (arith, at_east side map X Y h))
          | no c ↦ elim (dec_lt side Y) [
            | yes h ↦ absurd (omega (arith, at_south side map X Y h))
            | no d ↦ (omega arith, omega arith, omega arith, omega arith)
          ]
        ]
      ]
    ]

-- Where the pixel of the digit d around a point of the column x and the row y stands in the map with a margin.
unfoldable pub column_at : ℕ → ℕ → ℕ
column_at x zero = x + 1
column_at x (suc zero) = x + 1
column_at x (suc (suc d)) = x

unfoldable pub row_at : ℕ → ℕ → ℕ
row_at y zero = y + 1
row_at y (suc zero) = y
row_at y (suc (suc zero)) = y
row_at y (suc (suc (suc d))) = y + 1

pub around_at : (m : ℕ → ℕ → ℕ) (p d : ℕ) → m (column_at (x_of p) d) (row_at (y_of p) d) ≡ around m p d
unfolding column_at row_at around
around_at m p zero = rw (add-one (x_of p), add-one (y_of p)) refl
around_at m p (suc zero) = rw (add-one (x_of p)) refl
around_at m p (suc (suc zero)) = refl
around_at m p (suc (suc (suc d))) = rw (add-one (y_of p)) refl
