-- A cycle of a region of an image: it is a closed walk within the image, with one winding number around all pixels of the region.
use Rattle.std.specs.Prelude.{◌≡◌, List, get_or}
use Rattle.std.proofs.Math.Path.{refl}
use Rattle.std.proofs.Common.{sym, ap, ◌∙◌, subst, subst₂, arith}
use Prim.Native.Nat.{ℕ, zero, suc, ◌%◌, ◌^◌, ◌≤◌, ◌<◌}
use Rattle.interleaving.specs.Codes.{code, column, row}
use Rattle.interleaving.specs.Interleaving.{code_below, column-below, column_of_code, row_of_code}
use Rattle.lattice.specs.Directions.{x_of, tail, digit}
use Rattle.lattice.specs.Corners.{Walk}
use Rattle.grid.specs.Map.{region_at}
use Rattle.grid.specs.Margins.{Pixel, pixel_at, region_of_code}
use Rattle.grid.specs.Steps.{Edge}
use Rattle.grid.specs.Cycles.{north_side, cycle}
use Rattle.grid.specs.Returning.{Ring, ring}
use Rattle.grid.specs.North.{side_small}
use Rattle.grid.specs.Starting.{StartAt, margin}
use Rattle.grid.specs.Closing.{cycle-first, closed_walk}
use Rattle.components.specs.Joined.{Step, north, east, south, west, start, on, Joined}
use Rattle.components.proofs.Joined.{connected_from, connected_to}
use Rattle.components.specs.Numbers.{numbers}
use Rattle.components.proofs.Numbered.{one_number_exactly_when_joined}
use Rattle.winding.specs.Edges.{row_of, RightOnly, right_only}
use Rattle.winding.specs.Pixels.{WithinImage}
use Rattle.winding.specs.Neighbours.{ClosedWalk, SameWinding, beside_north, beside_west, both_inside}

-- A cycle from its start is a closed walk.
pub cycle_closed : (n : ℕ) (nums : List ℕ) (small : n ≤ 8) (c : ℕ) → StartAt n nums c → ClosedWalk (region_at n nums) (suc (get_or nums c 0)) (cycle n nums c)
unfolding cycle
cycle_closed n nums small c s =
    let m : ℕ → ℕ → ℕ = region_at n nums in
    let r : ℕ = suc (get_or nums c 0) in
    let e : ℕ = north_side n c in
    let g : Ring m r e = ring m (margin n nums small) r e s.north in
    record {
      from = tail e;
      walk = subst (λ (es : List ℕ). Walk (tail e) es (tail e)) (sym (cycle-first m e)) (closed_walk m (margin n nums small) r e s.north);
      edges = g.edges;
      once = g.once;
    }

-- The vertical edges of a region lie within the image.
module _ (n : ℕ) (nums : List ℕ) (r e : ℕ) (g : Edge (region_at n nums) r e) where
  fits_beside : (X : ℕ) → x_of (tail e) ≤ X → region_at n nums X (row_of e) ≡ r → WithinImage (2 ^ n) e
  fits_beside X h k =
      let p : Pixel n nums X (row_of e) r = pixel_at n nums X (row_of e) r g.a_region k in
      record {
        x_within = omega (arith, p.from_x, p.x_below);
        row_above = omega (arith, p.from_y);
        row_within = omega (arith, p.from_y, p.y_below);
      }

  pub vertical_fits : digit e % 2 ≡ 1 → WithinImage (2 ^ n) e
  unfolding RightOnly
  vertical_fits v = pick (digit e) v (right_only (region_at n nums) r (record { direction = refl; column = refl; row = refl }) g)
    where
      pick : (d : ℕ) → d % 2 ≡ 1 → RightOnly (region_at n nums) r d (x_of (tail e)) (row_of e) → WithinImage (2 ^ n) e
      pick zero v p = absurd (omega arith)
      pick (suc zero) v p = fits_beside (suc (x_of (tail e))) (omega arith) p.0
      pick (suc (suc zero)) v p = absurd (omega arith)
      pick (suc (suc (suc d))) v p = fits_beside (x_of (tail e)) (omega arith) p.0

-- The region is connected, so a walk along its edges winds around all its pixels as often as around one.
module _ (n : ℕ) (px : List ℕ) (small : n ≤ 8) (v : ℕ) (es : List ℕ) (c : ClosedWalk (region_at n (numbers n px)) (suc v) es) where
  abbrev nums : List ℕ
  nums = numbers n px

  abbrev m : ℕ → ℕ → ℕ
  m = region_at n (numbers n px)

  -- The pixel a lies in the region; the winding number is the same around the pixels a and b.
  abbrev Inside : ℕ → Type 0
  Inside a = m (suc (column n a)) (suc (row n a)) ≡ suc v

  abbrev SameAround : ℕ → ℕ → Type 0
  SameAround a b = SameWinding es (suc (column n a)) (suc (row n a)) (suc (column n b)) (suc (row n b))

  low : (a : ℕ) → column n a < 511
  low a = omega (arith, column-below n a, side_small n small)

  -- One step north, one step west, any step, and a path of them.
  to_north : (a b : ℕ) → column n b ≡ column n a → suc (row n b) ≡ row n a → Inside a → Inside b → SameAround a b
  to_north a b x y i =
      subst₂ (λ p q. m (suc p) q ≡ suc v → SameWinding es (suc (column n a)) (suc (row n a)) (suc p) q) (sym x) (sym y)
      (both_inside (beside_north m (suc v) es c (column n a) (row n a) (low a)) i)

  to_west : (a b : ℕ) → suc (column n b) ≡ column n a → row n b ≡ row n a → Inside a → Inside b → SameAround a b
  to_west a b x y i =
      subst₂ (λ p q. m p (suc q) ≡ suc v → SameWinding es (suc (column n a)) (suc (row n a)) p (suc q)) (sym x) (sym y)
      (both_inside (beside_west m (suc v) es c.edges (column n a) (row n a) (low a)) i)

  one-step : (a b : ℕ) → Step n a b → Inside a → Inside b → SameAround a b
  one-step a b (north x y) i j = to_north a b x y i j
  one-step a b (east x y) i j = omega (arith, to_west b a (sym x) (sym y) j i)
  one-step a b (south x y) i j = omega (arith, to_north b a (sym x) (sym y) j i)
  one-step a b (west x y) i j = to_west a b x y i j

  along : (a : ℕ) → get_or nums a 0 ≡ v → {d : ℕ} → Joined n px a d → SameAround a d
  along a value (start h) = refl
  along a value (on {d} {e} p s l q) = omega (arith, along a value p, one-step d e s.step (inside d p) (inside e (on p s l q)))
    where
      inside : (b : ℕ) → Joined n px a b → Inside b
      inside b j =
          region_of_code n nums b (connected_to j)
          ∙ ap suc (sym ((one_number_exactly_when_joined n px a b (connected_from j) (connected_to j)).1 j) ∙ value)

  pub same_in_region : (a : ℕ) → a < 4 ^ n → get_or nums a 0 ≡ v → (X Y : ℕ) → m X Y ≡ suc v → SameWinding es (suc (column n a)) (suc (row n a)) X Y
  same_in_region a l e X Y h =
      let p : Pixel n nums X Y (suc v) = pixel_at n nums X Y (suc v) (omega arith) h in
      let d : ℕ = code n p.x p.y in
      let j : Joined n px a d = (one_number_exactly_when_joined n px a d l (code_below n p.x p.y)).0 (omega (arith, p.number, e)) in
      subst₂ (SameWinding es (suc (column n a)) (suc (row n a)))
      (ap suc (column_of_code n p.x p.y p.x_below) ∙ sym p.from_x) (ap suc (row_of_code n p.x p.y p.y_below) ∙ sym p.from_y)
      (along a e j)
