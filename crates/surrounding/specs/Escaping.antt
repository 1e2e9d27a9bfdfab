-- Where the side between a region's least pixel and the pixel north of it is in the first cycle of the region there, that region does
-- not surround: along the left of the cycle a path leads to north of that region's least pixel, and from there straight north.
use Rattle.std.specs.Prelude.{◌≡◌, refl, List, get_or}
use Rattle.std.proofs.Common.{sym, ap₂, ◌∙◌, subst, subst₂, arith}
use Rattle.std.proofs.Math.Path.{ap}
use Rattle.std.proofs.Math.Logic.{inr}
use Prim.Native.Nat.{ℕ, suc, ◌+◌, ◌*◌, ◌/◌, ◌%◌, ◌≤◌, ◌<◌}
use Rattle.interleaving.specs.Codes.{column, row}
use Rattle.interleaving.specs.Interleaving.{column-below}
use Rattle.lattice.specs.Directions.{point, x_of, y_of, edge, tail, digit}
use Rattle.orbits.specs.Members.{In}
use Rattle.orbits.specs.Orbits.{On}
use Rattle.grid.specs.Map.{region_at}
use Rattle.grid.specs.Steps.{Edge, step}
use Rattle.grid.specs.Cycles.{north_side, cycle}
use Rattle.grid.specs.Sides.{side_at}
use Rattle.grid.specs.Returning.{ring, met_back}
use Rattle.grid.specs.North.{side_small, north-tail, north-digit, corner_x, corner_y}
use Rattle.grid.specs.Starting.{margin}
use Rattle.grid.specs.Outer.{north_apart, least_starts}
use Rattle.components.specs.Numbers.{north_of}
use Rattle.surrounding.specs.Surrounds.{start, Escapes, Surrounds}
use Rattle.surrounding.specs.SouthSides.{south_side}
use Rattle.surrounding.specs.NorthOfLeast.{Below, north-column, north-row, other_region, side_between}
use Rattle.surrounding.specs.LeftPaths.{left_x, left_y, x_left, y_left, OutOr, along_left, straight-north}

-- The place on the left of the south side of a pixel, and of its north side.
left_of_south : (x y : ℕ) → x < 256 → (x_left (side_at x y 2) ≡ suc x) × (y_left (side_at x y 2) ≡ suc (suc y))
unfolding side_at point edge tail digit left_x left_y x_of y_of
left_of_south x y l =
    let ex : (4 * (512 * suc y + suc x) + 2) / 4 % 512 ≡ suc x = omega arith in
    let ey : (4 * (512 * suc y + suc x) + 2) / 4 / 512 ≡ suc y = omega arith in
    let d : (4 * (512 * suc y + suc x) + 2) % 4 ≡ 2 = omega arith in
    (ap (left_x (tail (side_at x y 2))) d ∙ ex, ap (left_y (tail (side_at x y 2))) d ∙ ap suc ey)

left_of_north : (n a : ℕ) → n ≤ 8 → (x_left (north_side n a) ≡ suc (column n a)) × (y_left (north_side n a) ≡ row n a)
unfolding left_x left_y
left_of_north n a small = (
  ap₂ left_x (north-tail n a) (north-digit n a) ∙ ap suc (corner_x n small a),
  ap₂ left_y (north-tail n a) (north-digit n a) ∙ corner_y n small a,
)

module _ (n : ℕ) (nums : List ℕ) (small : n ≤ 8) (c t a : ℕ) (b : Below n nums c t a) (held : In (south_side n (north_of n c)) (cycle n nums a)) where
  abbrev m : ℕ → ℕ → ℕ
  m = region_at n nums

  abbrev e : ℕ
  e = south_side n (north_of n c)

  from_side : On (step m) e (north_side n a)
  unfolding cycle
  from_side =
      let r : ℕ = suc (get_or nums a 0) in
      let first : Edge m r (north_side n a) = (least_starts n nums small a b.first).north in
      met_back m (margin n nums small) r (north_side n a) e first (((ring m (margin n nums small) r (north_side n a) first).holds e).1 held)

  escapes : Escapes n nums t c
  unfolding On south_side
  escapes =
      let q : ℕ = north_of n c in
      let here : OutOr n nums small t c (suc (column n q)) (suc (suc (row n q))) =
      inr (record {
        pixel = c;
        from_x = ap suc (north-column b);
        from_y = ap suc (north-row b);
        path = start b.least.inside (other_region b);
      }) in
      let s = left_of_south (column n q) (row n q) (omega (arith, column-below n q, side_small n small)) in
      let f = left_of_north n a small in
      straight-north n nums small t c (suc (column n a)) (row n a) (λ Z l z. north_apart n nums a b.first Z l (z ∙ ap suc (sym b.of_region_lem)))
      (subst₂ (OutOr n nums small t c) f.0 f.1 (subst (λ f. OutOr n nums small t c (x_left f) (y_left f)) from_side.1
      (along_left n nums small t c e (side_between b small) (subst₂ (OutOr n nums small t c) (sym s.0) (sym s.1) here) from_side.0)))

  pub not_surrounded_if_first : ¬ Surrounds n nums t (get_or nums c 0)
  not_surrounded_if_first s = s.shut c refl escapes
