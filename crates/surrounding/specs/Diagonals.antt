-- The winding number of a cycle is the same around two pixels outside its region that touch in a side or in a corner: where the pixel
-- beside both is in the region, its two sides towards them are one after the other in the cycle, or not in it.
use Rattle.std.specs.Prelude.{◌≡◌, ◌≢◌, List, get_or}
use Rattle.std.proofs.Math.Path.{refl, ap}
use Rattle.std.proofs.Common.{sym, ap₂, ◌∙◌, subst₂}
use Prim.Native.Nat.{ℕ, suc, ◌+◌, ◌-◌, ◌*◌, ◌/◌, ◌%◌, ◌≤◌, ◌<◌}
use Rattle.std.proofs.Math.Decide.{ℕ_discrete, dec_le}
use native.Mathlib.Omega.{arith}
use Rattle.lattice.specs.Directions.{point, x_of, y_of, move, right_of, edge, tail, digit, head}
use Rattle.orbits.specs.Members.{In, Distinct, in_dec}
use Rattle.orbits.specs.Orbits.{iter, On}
use Rattle.grid.specs.Map.{region_at, around}
use Rattle.grid.specs.Steps.{Edge, step}
use Rattle.grid.specs.Cycles.{north_side, cycle}
use Rattle.grid.specs.Undoing.{go_right, step_is}
use Rattle.grid.specs.Sides.{side_at, beyond, side_is_edge}
use Rattle.grid.specs.Returning.{Ring, ring, met_back, met_then}
use Rattle.grid.specs.Starting.{StartAt, margin}
use Rattle.winding.specs.Neighbours.{ClosedWalk, SameWinding, Neighbours, beside_west, beside_north, neighbours_back, not_crossed, crossed, both_outside}
use Rattle.winding.specs.Inside.{cycle_closed}

-- Two sides of one place, towards (X, Y) and (P, Q) outside the region: the list holds both or neither.
across_both : {m : ℕ → ℕ → ℕ} {r : ℕ} {es : List ℕ} {s t u v A B X Y P Q : ℕ}
    → Neighbours m r es s t A B X Y → Neighbours m r es u v A B P Q → Distinct es → m X Y ≢ r → m P Q ≢ r
    → (In s es → In u es) → (In u es → In s es) → SameWinding es X Y P Q
across_both {m} {r} {es} {s} {t} {u} {v} {A} {B} {X} {Y} {P} {Q} n k once h g to from = pick (in_dec s es)
  where
    pick : Dec (In s es) → SameWinding es X Y P Q
    pick (yes i) = omega (arith, crossed n once i, crossed k once (to i))
    pick (no i) = omega (arith, not_crossed n i (λ j. h (n.on_left j).0), not_crossed k (λ j. i (from j)) (λ j. g (k.on_left j).0))

-- The cycle from the start c.
module _ (n : ℕ) (nums : List ℕ) (small : n ≤ 8) (c : ℕ) (begins : StartAt n nums c) where
  abbrev m : ℕ → ℕ → ℕ
  m = region_at n nums

  abbrev r : ℕ
  r = suc (get_or nums c 0)

  abbrev es : List ℕ
  es = cycle n nums c

  closed : ClosedWalk m r es
  closed = cycle_closed n nums small c begins

  ring_here : Ring m r (north_side n c)
  ring_here = ring m (margin n nums small) r (north_side n c) begins.north

  -- An edge of the region and the next stand in the cycle, or neither does.
  next_in : (a b : ℕ) → step m a ≡ b → In a es → In b es
  unfolding cycle On iter
  next_in a b s i = let o : On (step m) (north_side n c) a = (ring_here.holds a).1 i in (ring_here.holds b).0 (suc o.0, ap (step m) o.1 ∙ s)

  before_in : (a b : ℕ) → Edge m r a → step m a ≡ b → In b es → In a es
  unfolding cycle On iter
  before_in a b h s i =
      (ring_here.holds a).0
      (met_then m (margin n nums small) r (north_side n c) b a ((ring_here.holds b).1 i) (met_back m (margin n nums small) r a b h (1, s)))

  turns_right : (e f p d : ℕ) → Edge m r e → digit e ≡ d → head e ≡ p → around m p d ≢ r → f ≡ edge p (right_of d) → step m e ≡ f
  turns_right e f p d h a b k q =
      step_is m (margin n nums small) r e h
      ∙ ap (edge (head e)) (go_right m r (head e) (digit e) (subst₂ (λ u v. around m u v ≢ r) (sym b) (sym a) k))
      ∙ ap₂ (λ u v. edge u (right_of v)) b a ∙ sym q

  -- The south side of the pixel (x, y) and then its west side, where the pixel to the west is outside the region.
  south_then_west : (x y : ℕ) → x < 256 → Edge m r (side_at x y 2) → m x (suc y) ≢ r → step m (side_at x y 2) ≡ side_at x y 1
  unfolding side_at around right_of head move digit tail edge point x_of y_of
  south_then_west x y l h k =
      let ex : (512 * suc y + x) % 512 ≡ x = omega arith in
      let ey : (512 * suc y + x) / 512 ≡ suc y = omega arith in
      let d : (4 * (512 * suc y + suc x) + 2) % 4 ≡ 2 = omega arith in
      let t : (4 * (512 * suc y + suc x) + 2) / 4 - 1 ≡ 512 * suc y + x = omega arith in
      turns_right (side_at x y 2) (side_at x y 1) (point x (suc y)) 2 h d (ap (λ o. move o (tail (side_at x y 2))) d ∙ t)
      (subst₂ (λ u v. m u v ≢ r) (sym ex) (sym ey) k) refl

  -- The east side of the pixel (x, y) and then its south side, where the pixel to the south is outside the region.
  east_then_south : (x y : ℕ) → x < 256 → Edge m r (side_at x y 3) → m (suc x) (suc (suc y)) ≢ r → step m (side_at x y 3) ≡ side_at x y 2
  unfolding side_at around right_of head move digit tail edge point x_of y_of
  east_then_south x y l h k =
      let ex : (512 * suc y + suc x) % 512 ≡ suc x = omega arith in
      let ey : (512 * suc y + suc x) / 512 ≡ suc y = omega arith in
      let d : (4 * (512 * y + suc x) + 3) % 4 ≡ 3 = omega arith in
      let t : (4 * (512 * y + suc x) + 3) / 4 + 512 ≡ 512 * suc y + suc x = omega arith in
      turns_right (side_at x y 3) (side_at x y 2) (point (suc x) (suc y)) 3 h d (ap (λ o. move o (tail (side_at x y 3))) d ∙ t)
      (subst₂ (λ u v. m u (suc v) ≢ r) (sym ex) (sym ey) k) refl

  -- The pixel (x, y) is outside the region; the winding number is the same around the pixels (a, b) and (x, y).
  abbrev Out : ℕ → ℕ → Type 0
  Out x y = m (suc x) (suc y) ≢ r

  abbrev Same : ℕ → ℕ → ℕ → ℕ → Type 0
  Same a b x y = SameWinding es (suc a) (suc b) (suc x) (suc y)

  to_west : (x y : ℕ) → suc x < 256 → Neighbours m r es (side_at (suc x) y 1) (side_at x y 3) (suc (suc x)) (suc y) (suc x) (suc y)
  unfolding side_at
  to_west x y l = beside_west m r es closed.edges (suc x) y (omega arith)

  to_south_lem : (x y : ℕ) → x < 256 → Neighbours m r es (side_at x y 2) (side_at x (suc y) 0) (suc x) (suc y) (suc x) (suc (suc y))
  unfolding side_at
  to_south_lem x y l = neighbours_back (beside_north m r es closed x (suc y) (omega arith))

  -- From northwest to southeast, by the pixel in the northeast.
  falling : (x y : ℕ) → suc x < 256 → Out x y → Out (suc x) (suc y) → Same x y (suc x) (suc y)
  unfolding beyond
  falling x y l h k = pick (ℕ_discrete (m (suc (suc x)) (suc y)) r)
    where
      pick : Dec (m (suc (suc x)) (suc y) ≡ r) → Same x y (suc x) (suc y)
      pick (no o) = omega (arith, both_outside (to_west x y l) o h, both_outside (to_south_lem (suc x) y l) o k)
      pick (yes o) =
          let south : Edge m r (side_at (suc x) y 2) = (side_is_edge m r (suc x) y 2 (omega arith) (omega arith) (omega arith) o).1 k in
          let next : step m (side_at (suc x) y 2) ≡ side_at (suc x) y 1 = south_then_west (suc x) y l south h in
          across_both (to_west x y l) (to_south_lem (suc x) y l) closed.once h k
          (before_in (side_at (suc x) y 2) (side_at (suc x) y 1) south next) (next_in (side_at (suc x) y 2) (side_at (suc x) y 1) next)

  -- From northeast to southwest, by the pixel in the northwest.
  rising : (x y : ℕ) → suc x < 256 → Out (suc x) y → Out x (suc y) → Same (suc x) y x (suc y)
  unfolding beyond
  rising x y l h k = pick (ℕ_discrete (m (suc x) (suc y)) r)
    where
      to_east_lem : Neighbours m r es (side_at x y 3) (side_at (suc x) y 1) (suc x) (suc y) (suc (suc x)) (suc y)
      to_east_lem = neighbours_back (to_west x y l)

      pick : Dec (m (suc x) (suc y) ≡ r) → Same (suc x) y x (suc y)
      pick (no o) = omega (arith, both_outside to_east_lem o h, both_outside (to_south_lem x y (omega arith)) o k)
      pick (yes o) =
          let east : Edge m r (side_at x y 3) = (side_is_edge m r x y 3 (omega arith) (omega arith) (omega arith) o).1 h in
          let next : step m (side_at x y 3) ≡ side_at x y 2 = east_then_south x y (omega arith) east k in
          across_both to_east_lem (to_south_lem x y (omega arith)) closed.once h k
          (next_in (side_at x y 3) (side_at x y 2) next) (before_in (side_at x y 3) (side_at x y 2) east next)

  -- Two pixels at most one column and at most one row apart.
  pub same_near : (a b x y : ℕ) → a < 256 → x < 256 → (a ≤ suc x) × (x ≤ suc a) → (b ≤ suc y) × (y ≤ suc b) → Out a b → Out x y → Same a b x y
  same_near a b x y l g s t h k = pick (ℕ_discrete a x) (ℕ_discrete b y) (dec_le a x) (dec_le b y)
    where
      at : (a' b' x' y' : ℕ) → a ≡ a' → b ≡ b' → x ≡ x' → y ≡ y' → (Out a' b' → Out x' y' → Same a' b' x' y') → Same a b x y
      at a' b' x' y' e f i j go =
          subst₂ (λ u v. Same u v x y) (sym e) (sym f) (subst₂ (λ u v. Same a' b' u v) (sym i) (sym j) (go (subst₂ Out e f h) (subst₂ Out i j k)))

      pick : Dec (a ≡ x) → Dec (b ≡ y) → Dec (a ≤ x) → Dec (b ≤ y) → Same a b x y
      pick (yes e) (yes f) u v = at x y x y e f refl refl (λ o p. refl)
      pick (yes e) (no f) u (yes v) = at a b a (suc b) refl refl (sym e) (omega arith) (both_outside (to_south_lem a b l))
      pick (yes e) (no f) u (no v) = at x (suc y) x y e (omega arith) refl refl (both_outside (neighbours_back (to_south_lem x y g)))
      pick (no e) (yes f) (yes u) v = at a b (suc a) b refl refl (omega arith) (sym f) (both_outside (neighbours_back (to_west a b (omega arith))))
      pick (no e) (yes f) (no u) v = at (suc x) y x y (omega arith) f refl refl (both_outside (to_west x y (omega arith)))
      pick (no e) (no f) (yes u) (yes v) = at a b (suc a) (suc b) refl refl (omega arith) (omega arith) (falling a b (omega arith))
      pick (no e) (no f) (no u) (no v) = at (suc x) (suc y) x y (omega arith) (omega arith) refl refl (λ o p. omega (arith, falling x y (omega arith) p o))
      pick (no e) (no f) (no u) (yes v) = at (suc x) b x (suc b) (omega arith) refl refl (omega arith) (rising x b (omega arith))
      pick (no e) (no f) (yes u) (no v) = at a (suc y) (suc a) y refl (omega arith) (omega arith) refl (λ o p. omega (arith, rising a y (omega arith) p o))
