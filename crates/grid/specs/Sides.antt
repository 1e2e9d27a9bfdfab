-- The four sides of a pixel: which of them are edges of its region, and that every edge is one of them.
use Rattle.std.specs.Prelude.{◌≡◌, refl, ◌≢◌, ◌↔◌, ℕ, zero, suc, ◌+◌, ◌-◌, ◌*◌, ◌/◌, ◌%◌, ◌<◌}
use Rattle.std.proofs.Common.{sym, ap, ◌∙◌, subst, arith}
use Rattle.lattice.specs.Directions.{point, x_of, y_of, left_of, edge, tail, digit}
use Rattle.grid.specs.Map.{around}
use Rattle.grid.specs.Margins.{Margin}
use Rattle.grid.specs.Steps.{Side, Edge}
use Rattle.grid.specs.Undoing.{fits, no_digit, digit-below_four}

-- The side of the pixel (x, y) that is walked in the direction d with the pixel on its right: "north side eastward, east side
-- southward, south side westward, west side northward" (document 01, "Outlines").
unfoldable pub side_at : ℕ → ℕ → ℕ → ℕ
unfolding point edge
side_at x y zero = edge (point x y) 0
side_at x y (suc zero) = edge (point x (suc y)) 1
side_at x y (suc (suc zero)) = edge (point (suc x) (suc y)) 2
side_at x y (suc (suc (suc d))) = edge (point (suc x) y) 3

-- What the map has beyond that side: north, west, south and east of the pixel (x, y), which stands at (x + 1, y + 1) of the map.
unfoldable pub beyond : (ℕ → ℕ → ℕ) → ℕ → ℕ → ℕ → ℕ
beyond m x y zero = m (suc x) y
beyond m x y (suc zero) = m x (suc y)
beyond m x y (suc (suc zero)) = m (suc x) (suc (suc y))
beyond m x y (suc (suc (suc d))) = m (suc (suc x)) (suc y)

-- The tail and the direction of a side, and the pixels on both sides of it.
pub record Parts (m : ℕ → ℕ → ℕ) (x y d : ℕ) : Type 0 where
  pub direction : digit (side_at x y d) ≡ d
  pub here : around m (tail (side_at x y d)) d ≡ m (suc x) (suc y)
  pub there : around m (tail (side_at x y d)) (left_of d) ≡ beyond m x y d

pub side_parts : (m : ℕ → ℕ → ℕ) (x y d : ℕ) → x < 511 → d < 4 → Parts m x y d
unfolding side_at beyond around point x_of y_of edge tail digit left_of
side_parts m x y zero a h =
    let ex : (4 * (512 * y + x) + 0) / 4 % 512 ≡ x = omega arith in
    let ey : (4 * (512 * y + x) + 0) / 4 / 512 ≡ y = omega arith in
    record { direction = omega arith; here = rw (ex, ey) refl; there = rw (ex, ey) refl }
side_parts m x y (suc zero) a h =
    let ex : (4 * (512 * suc y + x) + 1) / 4 % 512 ≡ x = omega arith in
    let ey : (4 * (512 * suc y + x) + 1) / 4 / 512 ≡ suc y = omega arith in
    record { direction = omega arith; here = rw (ex, ey) refl; there = rw (ex, ey) refl }
side_parts m x y (suc (suc zero)) a h =
    let ex : (4 * (512 * suc y + suc x) + 2) / 4 % 512 ≡ suc x = omega arith in
    let ey : (4 * (512 * suc y + suc x) + 2) / 4 / 512 ≡ suc y = omega arith in
    record { direction = omega arith; here = rw (ex, ey) refl; there = rw (ex, ey) refl }
side_parts m x y (suc (suc (suc zero))) a h =
    let ex : (4 * (512 * y + suc x) + 3) / 4 % 512 ≡ suc x = omega arith in
    let ey : (4 * (512 * y + suc x) + 3) / 4 / 512 ≡ y = omega arith in
    record { direction = omega arith; here = rw (ex, ey) refl; there = rw (ex, ey) refl }
side_parts m x y (suc (suc (suc (suc d)))) a h = no_digit d h

-- "A unit side of a pixel in region R is an edge of R if the pixel beyond is in another region or outside the image."
pub side_is_edge : (m : ℕ → ℕ → ℕ) (r x y d : ℕ) → x < 511 → d < 4 → 0 < r → m (suc x) (suc y) ≡ r → Edge m r (side_at x y d) ↔ (beyond m x y d ≢ r)
side_is_edge m r x y d a h pos e =
    let p : Parts m x y d = side_parts m x y d a h in (
      λ g. subst (λ v. v ≢ r) (ap (λ o. around m (tail (side_at x y d)) (left_of o)) p.direction ∙ p.there) g.side.on_left,
      λ n. record {
        a_region = pos;
        side = record {
          digit-below = digit-below_four (side_at x y d);
          on_right = ap (around m (tail (side_at x y d))) p.direction ∙ p.here ∙ e;
          on_left = subst (λ v. v ≢ r) (sym (ap (λ o. around m (tail (side_at x y d)) (left_of o)) p.direction ∙ p.there)) n;
        };
      },
    )

-- The pixel on the right of the unit edge with the tail p and the digit d.
unfoldable pub right_x : ℕ → ℕ → ℕ
unfolding x_of
right_x p zero = x_of p
right_x p (suc zero) = x_of p
right_x p (suc (suc d)) = x_of p - 1

unfoldable pub right_y : ℕ → ℕ → ℕ
unfolding y_of
right_y p zero = y_of p
right_y p (suc zero) = y_of p - 1
right_y p (suc (suc zero)) = y_of p - 1
right_y p (suc (suc (suc d))) = y_of p

pub record RightOf (m : ℕ → ℕ → ℕ) (r e x y : ℕ) : Type 0 where
  pub the_side : e ≡ side_at x y (digit e)
  pub in_region : m (suc x) (suc y) ≡ r
  pub x_below : x < 256
  pub y_below : y < 256

right_of : (m : ℕ → ℕ → ℕ) → Margin m → (r e d : ℕ) → digit e ≡ d → 0 < r → Side m r (tail e) d → RightOf m r e (right_x (tail e) d) (right_y (tail e) d)
unfolding side_at right_x right_y around point x_of y_of edge tail digit
right_of m g r e zero h pos s =
    let f = fits m g r (suc (e / 4 % 512)) (suc (e / 4 / 512)) pos s.on_right in
    record { the_side = rw h (omega arith); in_region = s.on_right; x_below = omega arith; y_below = omega arith }
right_of m g r e (suc zero) h pos s =
    let f = fits m g r (suc (e / 4 % 512)) (e / 4 / 512) pos s.on_right in
    let ey : suc (e / 4 / 512 - 1) ≡ e / 4 / 512 = omega arith in
    record { the_side = rw (h, ey) (omega arith); in_region = rw ey s.on_right; x_below = omega arith; y_below = omega arith }
right_of m g r e (suc (suc zero)) h pos s =
    let f = fits m g r (e / 4 % 512) (e / 4 / 512) pos s.on_right in
    let ex : suc (e / 4 % 512 - 1) ≡ e / 4 % 512 = omega arith in
    let ey : suc (e / 4 / 512 - 1) ≡ e / 4 / 512 = omega arith in
    record { the_side = rw (h, ex, ey) (omega arith); in_region = rw (ex, ey) s.on_right; x_below = omega arith; y_below = omega arith }
right_of m g r e (suc (suc (suc zero))) h pos s =
    let f = fits m g r (e / 4 % 512) (suc (e / 4 / 512)) pos s.on_right in
    let ex : suc (e / 4 % 512 - 1) ≡ e / 4 % 512 = omega arith in
    record { the_side = rw (h, ex) (omega arith); in_region = rw ex s.on_right; x_below = omega arith; y_below = omega arith }
right_of m g r e (suc (suc (suc (suc d)))) h pos s = no_digit d s.digit-below

-- Every edge of a region is the side of a pixel of the region, which lies on its right.
pub edge_is_side : (m : ℕ → ℕ → ℕ) → Margin m → (r e : ℕ) → Edge m r e → RightOf m r e (right_x (tail e) (digit e)) (right_y (tail e) (digit e))
edge_is_side m g r e h = right_of m g r e (digit e) refl h.a_region h.side
