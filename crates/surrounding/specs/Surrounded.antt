-- Where the side between a region's least pixel and the pixel north of it is not in the first cycle of the region there, that region
-- surrounds: the cycle through the side has the winding number -1 around the least pixel, and 0 at the image's edge.
use Rattle.std.specs.Prelude.{◌≡◌, ◌≢◌, List}
use Rattle.std.proofs.Math.Path.{sym, subst, subst₂}
use Rattle.std.proofs.Common.{◌∙◌}
use Prim.Native.Nat.{ℕ, suc, ◌≤◌, ◌<◌}
use native.Mathlib.Omega.{arith}
use Rattle.std.proofs.Math.ListN.{get_or}
use Rattle.interleaving.specs.Codes.{column, row}
use Rattle.interleaving.specs.Interleaving.{column-below}
use Rattle.orbits.specs.Members.{In}
use Rattle.grid.specs.Map.{region_at}
use Rattle.grid.specs.Cycles.{cycle}
use Rattle.grid.specs.Sides.{side_at}
use Rattle.grid.specs.North.{side_small}
use Rattle.grid.specs.Starting.{Started, some_start}
use Rattle.components.specs.Numbers.{numbers, north_of}
use Rattle.winding.specs.Crossings.{crossings, Winds}
use Rattle.winding.specs.Neighbours.{ClosedWalk, beside_north, neighbours_back, crossed}
use Rattle.winding.specs.Inside.{cycle_closed}
use Rattle.winding.specs.LeastPixels.{inside, not_around_least}
use Rattle.surrounding.specs.Surrounds.{Surrounds, Escapes}
use Rattle.surrounding.specs.SouthSides.{south_side}
use Rattle.surrounding.specs.Paths.{outside_from, outside_to, outside_end, escapes_through, outside_in_region}
use Rattle.surrounding.specs.ImageEdge.{zero_at_edge, same_outside}
use Rattle.surrounding.specs.NorthOfLeast.{Below, north-column, north-row, other_region, region-north, side_between}

module _ (n : ℕ) (px : List ℕ) (small : n ≤ 8) (c t a : ℕ) (b : Below n (numbers n px) c t a)
    (other : In (south_side n (north_of n c)) (cycle n (numbers n px) a) → ⊥) where
  abbrev nums : List ℕ
  nums = numbers n px

  abbrev m : ℕ → ℕ → ℕ
  m = region_at n (numbers n px)

  abbrev q : ℕ
  q = north_of n c

  -- The cycle through the side between them.
  through : Started n nums small (suc t) (south_side n q)
  through = some_start n nums small (suc t) (south_side n q) (side_between b small)

  number : get_or nums through.start 0 ≡ t
  number = omega (arith, through.number)

  es : List ℕ
  es = cycle n nums through.start

  closed : ClosedWalk m (suc (get_or nums through.start 0)) es
  unfolding es
  closed = cycle_closed n nums small through.start through.starts

  zero_on_region : Winds 0 es (suc (column n q)) (suc (row n q))
  unfolding es
  zero_on_region =
      let s : ℕ = through.start in
      let owner : get_or nums a 0 ≡ get_or nums s 0 = b.of_region_lem ∙ sym number in
      let elsewhere : s ≢ a = λ e. other (subst (λ x. In (south_side n q) (cycle n nums x)) e through.on_cycle) in
      inside n px small s through.starts a b.first owner 0 (not_around_least n px small s through.starts a b.first owner elsewhere)
      (suc (column n q)) (suc (row n q)) (region-north b ∙ sym through.number)

  one_less : suc (crossings 3 es (suc (column n c)) (suc (row n c))) ≡ crossings 1 es (suc (column n c)) (suc (row n c))
  unfolding es south_side side_at
  one_less =
      let low : column n q < 511 = omega (arith, column-below n q, side_small n small) in
      subst₂ (λ x y. suc (crossings 3 es (suc x) (suc y)) ≡ crossings 1 es (suc x) (suc y)) (north-column b) (north-row b)
      (omega (
        arith,
        zero_on_region,
        crossed (neighbours_back (beside_north m (suc (get_or nums through.start 0)) es closed (column n q) (suc (row n q)) low)) closed.once
            through.on_cycle,
      ))

  pub surrounded_unless_first : Surrounds n nums t (get_or nums c 0)
  unfolding es
  surrounded_unless_first = subst (λ r. Surrounds n nums r (get_or nums c 0)) number (record {
    differ = λ e. other_region b (sym e ∙ number);
    shut = λ d e w.
        let k : get_or nums c 0 ≢ get_or nums through.start 0 = λ z. other_region b (z ∙ number) in
        let v : Escapes n nums (get_or nums through.start 0) c =
        escapes_through (outside_in_region n px (get_or nums through.start 0) c d b.least.inside (outside_from w.path) (sym e) k) w in
        omega (
          arith,
          one_less,
          same_outside n nums small through.start through.starts c v.path,
          zero_at_edge n nums small through.start through.starts v.end (outside_to v.path) (outside_end v.path) v.at_edge,
        );
  })
