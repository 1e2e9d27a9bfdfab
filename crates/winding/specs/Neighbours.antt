-- The winding numbers around two places that share a side, for edges of one region; across a north side, for a closed walk along them.
use Rattle.std.specs.Prelude.{◌≡◌, ◌≢◌, List, ℕ, suc, ◌+◌, ◌<◌}
use Rattle.std.proofs.Common.{arith}
use Rattle.lattice.specs.Directions.{point, edge}
use Rattle.lattice.specs.Corners.{Walk}
use Rattle.orbits.specs.Members.{In, Distinct}
use Rattle.grid.specs.Steps.{Edge}
use Rattle.winding.specs.Sums.{same}
use Rattle.winding.specs.Tallies.{occurrences, occurrences_none, occurrences_one}
use Rattle.winding.specs.Edges.{LiesAt, edge_lies_at, RightOnly, right_only}
use Rattle.winding.specs.Crossings.{crossings}
use Rattle.winding.specs.Changes.{crossings_east, crossings_south}

-- A closed walk along edges of the region r, none of them twice.
pub record ClosedWalk (m : ℕ → ℕ → ℕ) (r : ℕ) (es : List ℕ) : Type 0 where
  pub from : ℕ
  pub walk : Walk from es from
  pub edges : (e : ℕ) → In e es → Edge m r e
  pub once : Distinct es

module _ (es : List ℕ) where
  -- The winding number around (A, B) is that around (X, Y); it is larger by 1.
  abbrev pub SameWinding : ℕ → ℕ → ℕ → ℕ → Type 0
  SameWinding A B X Y = crossings 3 es A B + crossings 1 es X Y ≡ crossings 3 es X Y + crossings 1 es A B

  abbrev pub OneMore : ℕ → ℕ → ℕ → ℕ → Type 0
  OneMore A B X Y = crossings 3 es A B + crossings 1 es X Y ≡ suc (crossings 3 es X Y + crossings 1 es A B)

-- The places (A, B) and (X, Y) share a side: the edge `right` on it has the first on its right, the edge `left` the second. The
-- winding number changes by those of them that stand in the list, and what stands in it has the region on its right only.
pub record Neighbours (m : ℕ → ℕ → ℕ) (r : ℕ) (es : List ℕ) (right left A B X Y : ℕ) : Type 0 where
  pub changes : crossings 3 es A B + crossings 1 es X Y + occurrences left es ≡ crossings 3 es X Y + crossings 1 es A B + occurrences right es
  pub on_right : In right es → (m A B ≡ r) × (m X Y ≢ r)
  pub on_left : In left es → (m X Y ≡ r) × (m A B ≢ r)

module _ (m : ℕ → ℕ → ℕ) (r : ℕ) (es : List ℕ) (edges : (e : ℕ) → In e es → Edge m r e) where
  region_right : {s d x Y : ℕ} → LiesAt s d x Y → In s es → RightOnly m r d x Y
  region_right {s} at i = right_only m r at (edges s i)

  -- Across the west side of the pixel (x, y), for any edges of the region, and across its north side, for a closed walk along them.
  pub beside_west : (x y : ℕ) → x < 511 → Neighbours m r es (edge (point x (suc y)) 1) (edge (point x y) 3) (suc x) (suc y) x (suc y)
  unfolding RightOnly same
  beside_west x y h =
      let north : LiesAt (edge (point x (suc y)) 1) 1 x (suc y) = edge_lies_at x (suc y) 1 (suc y) (omega arith) (omega arith) (omega arith) in
      let south : LiesAt (edge (point x y) 3) 3 x (suc y) = edge_lies_at x y 3 (suc y) (omega arith) (omega arith) (omega arith) in
      record { changes = omega (arith, crossings_east north es, crossings_east south es); on_right = region_right north; on_left = region_right south }

pub beside_north : (m : ℕ → ℕ → ℕ) (r : ℕ) (es : List ℕ) → ClosedWalk m r es
    → (x y : ℕ) → x < 511 → Neighbours m r es (edge (point x y) 0) (edge (point (suc x) y) 2) (suc x) (suc y) (suc x) y
unfolding RightOnly same
beside_north m r es c x y h =
    let east : LiesAt (edge (point x y) 0) 0 x y = edge_lies_at x y 0 y (omega arith) (omega arith) (omega arith) in
    let west : LiesAt (edge (point (suc x) y) 2) 2 (suc x) y = edge_lies_at (suc x) y 2 y (omega arith) (omega arith) (omega arith) in
    record {
      changes = omega (arith, crossings_south x y east west c.from es c.walk);
      on_right = region_right m r es c.edges east;
      on_left = region_right m r es c.edges west;
    }

module _ {m : ℕ → ℕ → ℕ} {r : ℕ} {es : List ℕ} {right left A B X Y : ℕ} (n : Neighbours m r es right left A B X Y) where
  pub neighbours_back : Neighbours m r es left right X Y A B
  neighbours_back = record { changes = omega (arith, n.changes); on_right = n.on_left; on_left = n.on_right }

  -- The list has no edge on the side; it has the one with the first place on its right.
  pub not_crossed : (In right es → ⊥) → (In left es → ⊥) → SameWinding es A B X Y
  not_crossed a b = omega (arith, n.changes, occurrences_none right es a, occurrences_none left es b)

  pub crossed : Distinct es → In right es → OneMore es A B X Y
  crossed once i = omega (arith, n.changes, occurrences_one right es once i, occurrences_none left es (λ j. (n.on_right i).1 (n.on_left j).0))

  -- Both places lie in the region; neither does.
  pub both_inside : m A B ≡ r → m X Y ≡ r → SameWinding es A B X Y
  both_inside a b = not_crossed (λ i. (n.on_right i).1 b) (λ i. (n.on_left i).1 a)

  pub both_outside : m A B ≢ r → m X Y ≢ r → SameWinding es A B X Y
  both_outside a b = not_crossed (λ i. a (n.on_right i).0) (λ i. b (n.on_left i).0)
