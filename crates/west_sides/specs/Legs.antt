-- One leg of an outline, walked straight from a corner to the next: a leg that does not go north stores nothing, and of one that goes north
-- it is enough to look at the corner where it begins.
use Rattle.std.specs.Prelude.{◌≡◌, ◌≢◌, ◌⊎◌, true, false, ℕ, zero, suc, ◌+◌, ◌-◌, ◌*◌, ◌/◌, ◌%◌, ◌≤◌, ◌<◌, length, set}
use Rattle.std.proofs.Math.Path.{refl, ap}
use Rattle.std.proofs.Common.{sym, ap₂, ◌∙◌, subst, inl, inr, length-set}
use mathlib.Core.List.{List, ◌∷◌}
use native.Mathlib.Omega.{arith}
use borrow.Author.Tests.{ne_eqb, le-ltb}
use Rattle.lattice.specs.Directions.{point, x_of, y_of, move, edge, tail, digit}
use Rattle.lattice.specs.Walks.{run, straight}
use Rattle.lattice.specs.Legs.{straight_is, one_of_four}
use Rattle.lattice.specs.Outlines.{x_of_point, y_of_point, tail-edge, digit-edge}
use Rattle.orbits.specs.Members.{In, in_first, in_cases, in_none}
use Rattle.west_sides.specs.Northward.{place_right, PixelInside, stores, norths, Fits, Stored}
use Rattle.west_sides.specs.Northward.{store-north, norths-north, stores_none, norths_none, all_stored, not_stored}

-- ---- a northward run

run-digit : (d k p e : ℕ) → d < 4 → In e (run d k p) → digit e ≡ d
unfolding run
run-digit d zero p e h i = in_none e i
run-digit d (suc k) p e h i = pick (in_cases e (edge p d) (run d k (move d p)) i) (λ j. run-digit d k (move d p) e h j)
  where
    there : digit (edge p d) ≡ d
    there = digit-edge p d h

    pick : (e ≡ edge p d) ⊎ In e (run d k (move d p)) → (In e (run d k (move d p)) → digit e ≡ d) → digit e ≡ d
    pick (inl q) ih = ap digit q ∙ there
    pick (inr j) ih = ih j

norths-run : (k p : ℕ) → norths (run 1 k p) ≡ k
unfolding run norths move
norths-run zero p = refl
norths-run (suc k) p = norths-north (edge p 1) (run 1 k (p - 512)) (digit-edge p 1 (omega arith)) ∙ ap suc (norths-run k (p - 512))

run_inside : (side k p e : ℕ) → x_of p < side → y_of p ≤ side → k ≤ y_of p → In e (run 1 k p) → PixelInside side e
unfolding run move x_of y_of
run_inside side zero p e a b h i = in_none e i
run_inside side (suc k) p e a b h i =
    pick (in_cases e (edge p 1) (run 1 k (p - 512)) i) (λ j. run_inside side k (p - 512) e (omega arith) (omega arith) (omega arith) j)
  where
    t : tail (edge p 1) ≡ p
    t = tail-edge p 1 (omega arith)

    pick : (e ≡ edge p 1) ⊎ In e (run 1 k (p - 512)) → (In e (run 1 k (p - 512)) → PixelInside side e) → PixelInside side e
    pick (inl q) ih =
        subst (PixelInside side) (sym q)
        (record {
          x_inside = subst (λ (z : ℕ). z % 512 < side) (sym t) a;
          y_positive = subst (λ (z : ℕ). 0 < z / 512) (sym t) (omega arith);
          y_inside = subst (λ (z : ℕ). z / 512 ≤ side) (sym t) b;
        })
    pick (inr j) ih = ih j

-- ---- a leg from p to q

module _ (side r p q : ℕ) where
  -- A leg that does not go north has no northward edge.
  not_north : (e : ℕ) → y_of p ≤ y_of q → In e (straight p q) → digit e ≢ 1
  not_north e h i z = one_of_four (λ d k. In e (run d k p) → ⊥) p q
      (λ s l j. omega (arith, run-digit 0 _ p e (omega arith) j, z))
      (λ s l j. omega (arith, run-digit 2 _ p e (omega arith) j, z))
      (λ s l j. omega (arith, run-digit 3 _ p e (omega arith) j, z))
      (λ s l j. s (omega arith))
      (subst (In e) (straight_is p q) i)

  pub leg_not_north : (units : ℕ) (w : List ℕ) → y_of p ≤ y_of q → Stored side r units (straight p q) w w true units
  leg_not_north units w h =
      let none : norths (straight p q) ≡ 0 = norths_none (straight p q) (λ e i. not_north e h i) in
      all_stored refl (record {
        fits = record { inside = λ e i z. absurd (not_north e h i z); few = omega arith };
        stored = sym (stores_none side r (straight p q) w (λ e i. not_north e h i));
        units_left = omega arith;
      })

  module _ (north : y_of q < y_of p) where
    straight-north : straight p q ≡ run 1 (y_of p - y_of q) p
    unfolding straight
    straight-north = rw (ne_eqb (y_of p) (y_of q) (omega arith), le-ltb (y_of p) (y_of q) (omega arith), straight)

    norths_leg : norths (straight p q) ≡ y_of p - y_of q
    norths_leg = ap norths straight-north ∙ norths-run (y_of p - y_of q) p

    -- The first edge of a northward leg that can be stored begins inside the image.
    leg_begins_inside : (units : ℕ) → Fits side units (straight p q) → (x_of p < side) × (y_of p ≤ side)
    unfolding run
    leg_begins_inside units f = from (y_of p - y_of q) refl
      where
        t : tail (edge p 1) ≡ p
        t = tail-edge p 1 (omega arith)

        from : (k : ℕ) → y_of p - y_of q ≡ k → (x_of p < side) × (y_of p ≤ side)
        from zero e = absurd (omega arith)
        from (suc k) e =
            let s : straight p q ≡ edge p 1 ∷ run 1 k (move 1 p) = straight-north ∙ ap (λ (j : ℕ). run 1 j p) e in
            let u : PixelInside side (edge p 1) =
            f.inside (edge p 1) (subst (In (edge p 1)) (sym s) (in_first (edge p 1) (run 1 k (move 1 p)))) (digit-edge p 1 (omega arith)) in
            (subst (λ (z : ℕ). x_of z < side) t u.x_inside, subst (λ (z : ℕ). y_of z ≤ side) t u.y_inside)

    -- The three causes for which a northward leg is not stored.
    module _ (units left : ℕ) (w : List ℕ) where
      pub leg_east_of_image : side ≤ x_of p → Stored side r units (straight p q) w w false left
      leg_east_of_image h = not_stored refl (λ f. let z : ⊥ = omega (arith, (leg_begins_inside units f).0) in z)

      pub leg_south_of_image : side < y_of p → Stored side r units (straight p q) w w false left
      leg_south_of_image h = not_stored refl (λ f. let z : ⊥ = omega (arith, (leg_begins_inside units f).1) in z)

      pub leg_too_long : units < y_of p - y_of q → Stored side r units (straight p q) w w false left
      leg_too_long h = not_stored refl (λ f. let z : ⊥ = omega (arith, f.few, norths_leg) in z)

    pub leg_stored : (units : ℕ) {w w' : List ℕ} → x_of p < side → y_of p ≤ side → y_of p - y_of q ≤ units → length w' ≡ length w
        → w' ≡ stores side r (run 1 (y_of p - y_of q) (point (x_of p) (y_of p))) w → Stored side r units (straight p q) w w' true (units - (y_of p - y_of q))
    unfolding point x_of y_of
    leg_stored units {w} a b c long e =
        let here : point (x_of p) (y_of p) ≡ p = omega arith in
        all_stored long (record {
          fits = record {
            inside = λ d i z. run_inside side (y_of p - y_of q) p d a b (omega arith) (subst (In d) straight-north i);
            few = omega (arith, norths_leg);
          };
          stored = e ∙ ap (λ (s : ℕ). stores side r (run 1 (y_of p - y_of q) s) w) here ∙ ap (λ (es : List ℕ). stores side r es w) (sym straight-north);
          units_left = ap (λ (k : ℕ). units - k) (sym norths_leg);
        })

-- ---- the loop that stores a northward leg, from the south

-- What is left to store in w, from the row y on, is all that was to be stored in w₀.
pub record StoringNorth (side x from to r : ℕ) (w₀ w : List ℕ) (y : ℕ) : Type 0 where
  pub low : y ≤ from
  pub long : length w ≡ length w₀
  pub rest : stores side r (run 1 (y - to) (point x y)) w ≡ stores side r (run 1 (from - to) (point x from)) w₀

point-north : (x y : ℕ) → point x (suc y) - 512 ≡ point x y
unfolding point
point-north x y = omega arith

one_stored : (side x r k y : ℕ) (w : List ℕ) → x < 512
    → stores side r (run 1 (suc k) (point x (suc y))) w ≡ stores side r (run 1 k (point x y)) (set w (y * side + x) r)
unfolding run stores move place_right
one_stored side x r k y w h =
    let p : ℕ = point x (suc y) in
    let at : place_right side (edge p 1) ≡ y * side + x =
    ap (λ (t : ℕ). (y_of t - 1) * side + x_of t) (tail-edge p 1 (omega arith))
    ∙ ap₂ (λ (a b : ℕ). (a - 1) * side + b) (y_of_point x (suc y) h) (x_of_point x (suc y) h)
    ∙ ap (λ (a : ℕ). a * side + x) (omega arith) in
    ap (stores side r (run 1 k (p - 512))) (store-north side r w (edge p 1) (digit-edge p 1 (omega arith)) ∙ ap (λ (i : ℕ). set w i r) at)
    ∙ ap (λ (t : ℕ). stores side r (run 1 k t) (set w (y * side + x) r)) (point-north x y)

module _ {side x from to r y : ℕ} {w₀ w : List ℕ} (narrow : side ≤ 256) (x_below : x < side) (less : to < y)
    (g : StoringNorth side x from to r w₀ w y) where
  pub north_again : StoringNorth side x from to r w₀ (set w ((y - 1) * side + x) r) (y - 1)
  north_again = record {
    low = omega (arith, g.low);
    long = length-set w ((y - 1) * side + x) r ∙ g.long;
    rest =
        sym (one_stored side x r (y - 1 - to) (y - 1) w (omega arith))
        ∙ ap₂ (λ (k q : ℕ). stores side r (run 1 k (point x q)) w) count (omega arith)
        ∙ g.rest;
  }
    where
      count : suc (y - 1 - to) ≡ y - to
      count = omega arith

pub north_end : {side x from to r y : ℕ} {w₀ w : List ℕ} → StoringNorth side x from to r w₀ w y → y ≤ to
    → w ≡ stores side r (run 1 (from - to) (point x from)) w₀
unfolding stores run
north_end {side} {x} {from} {to} {r} {y} {w₀} {w} g h =
    let z : 0 ≡ y - to = omega arith in
    ap (λ (k : ℕ). stores side r (run 1 k (point x y)) w) z ∙ g.rest
