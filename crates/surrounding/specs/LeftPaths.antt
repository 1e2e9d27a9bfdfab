-- A path outside a region along the left of one of its cycles, from place to place of the map with its margin: it reaches the image's edge,
-- or comes to the pixel there.
use Rattle.std.specs.Prelude.{◌≡◌, ◌≢◌, ◌⊎◌, List}
use Rattle.std.proofs.Common.{sym, ap, ◌∙◌, inl, inr}
use Rattle.std.proofs.Math.Path.{subst}
use Prim.Native.Nat.{ℕ, zero, suc, ◌/◌, ◌%◌, ◌^◌, ◌≤◌, ◌<◌}
use Rattle.std.proofs.Math.Decide.{dec_le}
use native.Mathlib.Omega.{arith}
use Rattle.interleaving.specs.Codes.{code, column, row}
use Rattle.interleaving.specs.Interleaving.{code_below, column-below, row_below, column_of_code, row_of_code}
use Rattle.lattice.specs.Directions.{x_of, y_of, move, left_of, tail, digit, head}
use Rattle.orbits.specs.Orbits.{iter}
use Rattle.grid.specs.Map.{region_at, around}
use Rattle.grid.specs.Margins.{Margin, region-inside}
use Rattle.grid.specs.Steps.{Side, Edge, step}
use Rattle.grid.specs.Undoing.{fits, no_digit, step-tail, step-edge}
use Rattle.grid.specs.East.{iterate_edge}
use Rattle.grid.specs.Starting.{margin}
use Rattle.surrounding.specs.Surrounds.{Outside, on, west, north, east, south, Escapes}
use Rattle.surrounding.specs.Paths.{outside_to}

-- The place on the left of the unit edge with the tail p and the digit d.
unfoldable pub left_x : ℕ → ℕ → ℕ
unfolding x_of
left_x p zero = suc (x_of p)
left_x p (suc zero) = x_of p
left_x p (suc (suc zero)) = x_of p
left_x p (suc (suc (suc d))) = suc (x_of p)

unfoldable pub left_y : ℕ → ℕ → ℕ
unfolding y_of
left_y p zero = y_of p
left_y p (suc zero) = y_of p
left_y p (suc (suc zero)) = suc (y_of p)
left_y p (suc (suc (suc d))) = suc (y_of p)

-- That of the edge e.
abbrev pub x_left : ℕ → ℕ
x_left e = left_x (tail e) (digit e)

abbrev pub y_left : ℕ → ℕ
y_left e = left_y (tail e) (digit e)

-- One of the four places around the point p.
record Around (p X Y : ℕ) : Type 0 where
  pub columns : (x_of p ≤ X) × (X ≤ suc (x_of p))
  pub rows : (y_of p ≤ Y) × (Y ≤ suc (y_of p))

around-tail : (p d : ℕ) → Around p (left_x p d) (left_y p d)
unfolding left_x left_y
around-tail p zero = record { columns = omega arith; rows = omega arith }
around-tail p (suc zero) = record { columns = omega arith; rows = omega arith }
around-tail p (suc (suc zero)) = record { columns = omega arith; rows = omega arith }
around-tail p (suc (suc (suc d))) = record { columns = omega arith; rows = omega arith }

module _ (m : ℕ → ℕ → ℕ) (margin : Margin m) (r : ℕ) where
  around-head : (p d : ℕ) → 0 < r → Side m r p d → Around (move d p) (left_x p d) (left_y p d)
  unfolding left_x left_y move x_of y_of around
  around-head p zero pos s =
      let b = fits m margin r (suc (p % 512)) (suc (p / 512)) pos s.on_right in record { columns = omega arith; rows = omega arith }
  around-head p (suc zero) pos s =
      let b = fits m margin r (suc (p % 512)) (p / 512) pos s.on_right in record { columns = omega arith; rows = omega arith }
  around-head p (suc (suc zero)) pos s =
      let b = fits m margin r (p % 512) (p / 512) pos s.on_right in record { columns = omega arith; rows = omega arith }
  around-head p (suc (suc (suc zero))) pos s =
      let b = fits m margin r (p % 512) (suc (p / 512)) pos s.on_right in record { columns = omega arith; rows = omega arith }
  around-head p (suc (suc (suc (suc d)))) pos s = no_digit d s.digit-below

  outside_left : (p d : ℕ) → Side m r p d → m (left_x p d) (left_y p d) ≢ r
  unfolding left_x left_y around left_of
  outside_left p zero s = s.on_left
  outside_left p (suc zero) s = s.on_left
  outside_left p (suc (suc zero)) s = s.on_left
  outside_left p (suc (suc (suc zero))) s = s.on_left
  outside_left p (suc (suc (suc (suc d)))) s = no_digit d s.digit-below

-- A path from the pixel c outside the region t has come to the pixel at the place (X, Y).
pub record Reached (n : ℕ) (nums : List ℕ) (t c X Y : ℕ) : Type 0 where
  pub pixel : ℕ
  pub from_x : X ≡ suc (column n pixel)
  pub from_y : Y ≡ suc (row n pixel)
  pub path : Outside n nums t c pixel

module _ (n : ℕ) (nums : List ℕ) (small : n ≤ 8) (t c : ℕ) where
  abbrev m : ℕ → ℕ → ℕ
  m = region_at n nums

  -- It has reached the image's edge, or has come to the place (X, Y).
  abbrev pub OutOr : ℕ → ℕ → Type 0
  OutOr X Y = Escapes n nums t c ⊎ Reached n nums t c X Y

  further : (X Y P Q : ℕ) → Reached n nums t c X Y → (X ≤ suc P) × (P ≤ suc X) → (Y ≤ suc Q) × (Q ≤ suc Y) → m P Q ≢ suc t → OutOr P Q
  further X Y zero Q h u v k = inl (record { end = h.pixel; path = h.path; at_edge = west (omega (arith, h.from_x)) })
  further X Y (suc x) zero h u v k = inl (record { end = h.pixel; path = h.path; at_edge = north (omega (arith, h.from_y)) })
  further X Y (suc x) (suc y) h u v k = pick (dec_le (2 ^ n) x) (dec_le (2 ^ n) y)
    where
      pick : Dec (2 ^ n ≤ x) → Dec (2 ^ n ≤ y) → OutOr (suc x) (suc y)
      pick (yes a) b = inl (record { end = h.pixel; path = h.path; at_edge = east (omega (arith, h.from_x, column-below n h.pixel)) })
      pick (no a) (yes b) = inl (record { end = h.pixel; path = h.path; at_edge = south (omega (arith, h.from_y, row_below n h.pixel)) })
      pick (no a) (no b) =
          let p : x < 2 ^ n = omega arith in
          let q : y < 2 ^ n = omega arith in
          let cx : column n (code n x y) ≡ x = column_of_code n x y p in
          let cy : row n (code n x y) ≡ y = row_of_code n x y q in
          inr (record {
            pixel = code n x y;
            from_x = ap suc (sym cx);
            from_y = ap suc (sym cy);
            path = on h.path (record {
              from = outside_to h.path;
              to = code_below n x y;
              columns = omega (arith, h.from_x, cx);
              rows = omega (arith, h.from_y, cy);
            }) (λ e. k (region-inside n nums x y p q ∙ ap suc e));
          })

  one_on : (X Y P Q : ℕ) → OutOr X Y → (X ≤ suc P) × (P ≤ suc X) → (Y ≤ suc Q) × (Q ≤ suc Y) → m P Q ≢ suc t → OutOr P Q
  one_on X Y P Q (inl w) u v k = inl w
  one_on X Y P Q (inr h) u v k = further X Y P Q h u v k

  -- Along the left of a cycle.
  pub along_left : (e : ℕ) → Edge m (suc t) e → OutOr (x_left e) (y_left e) → (k : ℕ) → OutOr (x_left (iter (step m) k e)) (y_left (iter (step m) k e))
  unfolding iter head
  along_left e h w zero = w
  along_left e h w (suc k) =
      let g : Margin m = margin n nums small in
      let a : ℕ = iter (step m) k e in
      let b : ℕ = step m a in
      let i : Edge m (suc t) a = iterate_edge m g (suc t) e h k in
      let behind : Around (head a) (x_left a) (y_left a) = around-head m g (suc t) (tail a) (digit a) i.a_region i.side in
      let ahead : Around (head a) (x_left b) (y_left b) = subst (λ p. Around p (x_left b) (y_left b)) (step-tail m g (suc t) a i) (around-tail (tail b) (digit b)) in
      one_on _ _ _ _ (along_left e h w k) (omega (arith, behind.columns, ahead.columns)) (omega (arith, behind.rows, ahead.rows))
      (outside_left m g (suc t) (tail b) (digit b) (step-edge m g (suc t) a i).side)

  -- Straight north, out of the image.
  pub straight-north : (X Y : ℕ) → ((Z : ℕ) → Z ≤ Y → m X Z ≢ suc t) → OutOr X Y → Escapes n nums t c
  straight-north X zero f (inl w) = w
  straight-north X zero f (inr h) = let z : ⊥ = omega (arith, h.from_y) in absurd z
  straight-north X (suc Y) f w = straight-north X Y (λ Z l. f Z (omega arith)) (one_on X (suc Y) X Y w (omega arith) (omega arith) (f Y (omega arith)))
