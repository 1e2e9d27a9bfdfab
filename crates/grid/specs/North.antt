-- North sides of pixels: the eastward edges, one for one, and the location codes of the pixels on their right.
use Rattle.std.specs.Prelude.{◌≡◌, ◌≢◌, ◌↔◌, List, get_or}
use Rattle.std.proofs.Math.Path.{sym, ap₂, subst}
use Rattle.std.proofs.Common.{ap, ◌∙◌}
use Prim.Native.Nat.{ℕ, suc, ◌^◌, ◌≤◌, ◌<◌}
use native.Mathlib.Omega.{arith}
use Rattle.sequences.specs.Powers.{pow2_mono}
use Rattle.interleaving.specs.Codes.{code, column, row}
use Rattle.interleaving.specs.Interleaving.{code_below, column-below, column_of_code, row_of_code, code_of_coordinates}
use Rattle.lattice.specs.Directions.{point, x_of, y_of, left_of, edge, tail, digit}
use Rattle.grid.specs.Map.{region_at, around}
use Rattle.grid.specs.Margins.{Pixel, pixel_at, region_of_code}
use Rattle.grid.specs.Steps.{Edge}
use Rattle.grid.specs.Cycles.{corner_of, north_side, code_right}
use Rattle.grid.specs.Undoing.{digit-below_four}

module _ (n : ℕ) (small : n ≤ 8) where
  pub side_small : 2 ^ n ≤ 256
  side_small = let w : 2 ^ n ≤ 2 ^ 8 = pow2_mono small in omega arith

  pub corner_x : (c : ℕ) → x_of (corner_of n c) ≡ column n c
  unfolding corner_of point x_of
  corner_x c = let w = side_small in omega (arith, column-below n c)

  pub corner_y : (c : ℕ) → y_of (corner_of n c) ≡ row n c
  unfolding corner_of point y_of
  corner_y c = let w = side_small in omega (arith, column-below n c)

pub north-tail : (n c : ℕ) → tail (north_side n c) ≡ corner_of n c
unfolding north_side edge tail
north-tail n c = omega arith

pub north-digit : (n c : ℕ) → digit (north_side n c) ≡ 0
unfolding north_side edge digit
north-digit n c = omega arith

-- The pixel on the right of the north side of the pixel with the code c is that pixel.
pub north-code : (n c : ℕ) → n ≤ 8 → c < 4 ^ n → code_right n (north_side n c) ≡ c
unfolding code_right
north-code n c small h =
    ap (λ p. code n (x_of p) (y_of p)) (north-tail n c) ∙ ap₂ (code n) (corner_x n small c) (corner_y n small c) ∙ code_of_coordinates n c h

module _ (n : ℕ) (nums : List ℕ) (small : n ≤ 8) where
  pub corner-here : (c : ℕ) → c < 4 ^ n → around (region_at n nums) (corner_of n c) 0 ≡ suc (get_or nums c 0)
  unfolding around
  corner-here c h =
      ap₂ (λ x y. region_at n nums (suc x) (suc y)) (corner_x n small c) (corner_y n small c) ∙ region_of_code n nums c h

  pub corner-north : (c : ℕ) → around (region_at n nums) (corner_of n c) 1 ≡ region_at n nums (suc (column n c)) (row n c)
  unfolding around
  corner-north c = ap₂ (λ x y. region_at n nums (suc x) y) (corner_x n small c) (corner_y n small c)

  -- The north side of a pixel is an edge exactly where the pixel to the north is not in its region.
  pub north-edge : (c : ℕ) → c < 4 ^ n → Edge (region_at n nums) (suc (get_or nums c 0)) (north_side n c) ↔ (around (region_at n nums) (corner_of n c) 1 ≢ suc (get_or nums c 0))
  unfolding left_of
  north-edge c h = (
    λ g. subst (λ v. v ≢ suc (get_or nums c 0)) (ap₂ (λ p d. around (region_at n nums) p (left_of d)) (north-tail n c) (north-digit n c)) g.side.on_left,
    λ k. record {
      a_region = omega arith;
      side = record {
        digit-below = digit-below_four (north_side n c);
        on_right = ap₂ (around (region_at n nums)) (north-tail n c) (north-digit n c) ∙ corner-here c h;
        on_left = subst (λ v. v ≢ suc (get_or nums c 0)) (sym (ap₂ (λ p d. around (region_at n nums) p (left_of d)) (north-tail n c) (north-digit n c))) k;
      };
    },
  )

  -- An eastward edge is the north side of a pixel of its region.
  pub record Eastward (r e : ℕ) : Type 0 where
    pub x_below : x_of (tail e) < 2 ^ n
    pub y_below : y_of (tail e) < 2 ^ n
    pub below : code_right n e < 4 ^ n
    pub number : suc (get_or nums (code_right n e) 0) ≡ r
    pub north : e ≡ north_side n (code_right n e)

  joined : (e : ℕ) → digit e ≡ 0 → edge (point (x_of (tail e)) (y_of (tail e))) 0 ≡ e
  unfolding edge point x_of y_of tail digit
  joined e h = omega arith

  pub eastward : (r e : ℕ) → Edge (region_at n nums) r e → digit e ≡ 0 → Eastward r e
  unfolding around code_right north_side corner_of
  eastward r e h z =
      let here : region_at n nums (suc (x_of (tail e))) (suc (y_of (tail e))) ≡ r = subst (λ d. around (region_at n nums) (tail e) d ≡ r) z h.side.on_right in
      let p : Pixel n nums (suc (x_of (tail e))) (suc (y_of (tail e))) r = pixel_at n nums (suc (x_of (tail e))) (suc (y_of (tail e))) r h.a_region here in
      let ex : x_of (tail e) ≡ p.x = omega (arith, p.from_x) in
      let ey : y_of (tail e) ≡ p.y = omega (arith, p.from_y) in
      let a : x_of (tail e) < 2 ^ n = omega (arith, p.x_below) in
      let b : y_of (tail e) < 2 ^ n = omega (arith, p.y_below) in
      record {
        x_below = a;
        y_below = b;
        below = code_below n (x_of (tail e)) (y_of (tail e));
        number = ap₂ (λ x y. suc (get_or nums (code n x y) 0)) ex ey ∙ p.number;
        north = sym (joined e z) ∙ ap₂ (λ x y. edge (point x y) 0) (sym (column_of_code n (x_of (tail e)) (y_of (tail e)) a)) (sym (row_of_code n (x_of (tail e)) (y_of (tail e)) b));
      }
