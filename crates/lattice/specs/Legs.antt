-- The step from one corner to the next: its digit, its length, and that walking it straight is a run of unit edges.
use Rattle.std.specs.Prelude.{◌≡◌, ℕ, ◌-◌, ◌%◌, ◌<◌, ◌≤◌, Bool, true, false, cond, ◌≢◌, ◌==◌, nat_lt}
use Rattle.std.proofs.Math.Path.{refl}
use Rattle.std.proofs.Math.Decide.{ℕ_discrete, dec_lt}
use Rattle.std.proofs.Common.{arith}
use borrow.Author.Tests.{eq-eqb, ne_eqb, lt-ltb, le-ltb}
use Rattle.lattice.specs.Directions.{x_of, y_of}
use Rattle.lattice.specs.Walks.{run, straight}
use Rattle.lattice.specs.Straight.{far, OnGrid}
use Rattle.lattice.specs.CycleForm.{along, AlongX, AlongY, along_x_says, along_y_says}

-- The digit of the straight walk from p to q, and its number of unit edges.
unfoldable pub heading : ℕ → ℕ → ℕ
unfolding x_of y_of
heading p q =
    elim (y_of p == y_of q) [
      | true ↦ elim (nat_lt (x_of p) (x_of q)) [ true ↦ 0 | false ↦ 2 ]
      | false ↦ elim (nat_lt (y_of p) (y_of q)) [ true ↦ 3 | false ↦ 1 ]
    ]

unfoldable pub distance : ℕ → ℕ → ℕ
unfolding x_of y_of
distance p q =
    elim (y_of p == y_of q) [
      | true ↦ elim (nat_lt (x_of p) (x_of q)) [ true ↦ x_of q - x_of p | false ↦ x_of p - x_of q ]
      | false ↦ elim (nat_lt (y_of p) (y_of q)) [ true ↦ y_of q - y_of p | false ↦ y_of p - y_of q ]
    ]

pub straight_is : (p q : ℕ) → straight p q ≡ run (heading p q) (distance p q) p
unfolding straight heading distance
straight_is p q = pick (y_of p == y_of q) refl (nat_lt (x_of p) (x_of q)) refl (nat_lt (y_of p) (y_of q)) refl
  where
    pick : (a : Bool) → (y_of p == y_of q) ≡ a → (b : Bool) → nat_lt (x_of p) (x_of q) ≡ b → (c : Bool) → nat_lt (y_of p) (y_of q) ≡ c
        → straight p q ≡ run (heading p q) (distance p q) p
    pick true ea true eb c ec = rw (ea, eb, straight, heading, distance) refl
    pick true ea false eb c ec = rw (ea, eb, straight, heading, distance) refl
    pick false ea b eb true ec = rw (ea, ec, straight, heading, distance) refl
    pick false ea b eb false ec = rw (ea, ec, straight, heading, distance) refl

-- What is known of a step along x (`x` holds) or along y.
pub record Leg (x : Bool) (p q : ℕ) : Type 0 where
  pub digit-below : heading p q < 4
  pub axis : heading p q % 2 ≡ cond x 0 1
  pub positive : 0 < distance p q
  pub room : OnGrid (heading p q) (distance p q) p
  pub arrives : far (heading p q) (distance p q) p ≡ q

leg_of : (x : Bool) (p q d k : ℕ) → heading p q ≡ d → distance p q ≡ k → d < 4 → d % 2 ≡ cond x 0 1 → 0 < k → OnGrid d k p → far d k p ≡ q → Leg x p q
leg_of x p q d k h e below ax pos r there =
    record {
      digit-below = rw h below;
      axis = rw h ax;
      positive = rw e pos;
      room = rw (h, e) r;
      arrives = rw (h, e) there;
    }

module _ (p q : ℕ) where
  pub heading_east : y_of p ≡ y_of q → x_of p < x_of q → heading p q ≡ 0
  unfolding heading
  heading_east s l = rw (eq-eqb (y_of p) (y_of q) s, lt-ltb (x_of p) (x_of q) l, heading) refl

  pub heading-west : y_of p ≡ y_of q → x_of q ≤ x_of p → heading p q ≡ 2
  unfolding heading
  heading-west s l = rw (eq-eqb (y_of p) (y_of q) s, le-ltb (x_of p) (x_of q) l, heading) refl

  pub heading_south : y_of p ≢ y_of q → y_of p < y_of q → heading p q ≡ 3
  unfolding heading
  heading_south s l = rw (ne_eqb (y_of p) (y_of q) s, lt-ltb (y_of p) (y_of q) l, heading) refl

  pub heading-north : y_of p ≢ y_of q → y_of q ≤ y_of p → heading p q ≡ 1
  unfolding heading
  heading-north s l = rw (ne_eqb (y_of p) (y_of q) s, le-ltb (y_of p) (y_of q) l, heading) refl

  pub distance_east : y_of p ≡ y_of q → x_of p < x_of q → distance p q ≡ x_of q - x_of p
  unfolding distance
  distance_east s l = rw (eq-eqb (y_of p) (y_of q) s, lt-ltb (x_of p) (x_of q) l, distance) refl

  pub distance-west : y_of p ≡ y_of q → x_of q ≤ x_of p → distance p q ≡ x_of p - x_of q
  unfolding distance
  distance-west s l = rw (eq-eqb (y_of p) (y_of q) s, le-ltb (x_of p) (x_of q) l, distance) refl

  pub distance_south : y_of p ≢ y_of q → y_of p < y_of q → distance p q ≡ y_of q - y_of p
  unfolding distance
  distance_south s l = rw (ne_eqb (y_of p) (y_of q) s, lt-ltb (y_of p) (y_of q) l, distance) refl

  pub distance-north : y_of p ≢ y_of q → y_of q ≤ y_of p → distance p q ≡ y_of p - y_of q
  unfolding distance
  distance-north s l = rw (ne_eqb (y_of p) (y_of q) s, le-ltb (y_of p) (y_of q) l, distance) refl

leg_x : (p q : ℕ) → AlongX p q → Leg true p q
unfolding far OnGrid x_of y_of
leg_x p q a = pick (dec_lt (x_of p) (x_of q))
  where
    pick : Dec (x_of p < x_of q) → Leg true p q
    pick (yes l) =
        leg_of true p q 0 (x_of q - x_of p) (heading_east p q a.same_row l) (distance_east p q a.same_row l)
        (omega arith) refl (omega arith) (omega arith) (omega (arith, a.same_row))
    pick (no n) =
        leg_of true p q 2 (x_of p - x_of q) (heading-west p q a.same_row (omega arith)) (distance-west p q a.same_row (omega arith))
        (omega arith) refl (omega (arith, a.moves)) (omega arith) (omega (arith, a.same_row))

leg_y : (p q : ℕ) → AlongY p q → Leg false p q
unfolding far OnGrid x_of y_of
leg_y p q a = pick (dec_lt (y_of p) (y_of q))
  where
    pick : Dec (y_of p < y_of q) → Leg false p q
    pick (yes l) =
        leg_of false p q 3 (y_of q - y_of p) (heading_south p q a.moves l) (distance_south p q a.moves l)
        (omega arith) refl (omega arith) refl (omega (arith, a.same_column))
    pick (no n) =
        leg_of false p q 1 (y_of p - y_of q) (heading-north p q a.moves (omega arith)) (distance-north p q a.moves (omega arith))
        (omega arith) refl (omega (arith, a.moves)) (omega arith) (omega (arith, a.same_column))

pub leg : (x : Bool) (p q : ℕ) → along x p q ≡ true → Leg x p q
leg true p q h = leg_x p q (along_x_says p q h)
leg false p q h = leg_y p q (along_y_says p q h)

-- One of the four headings, with its distance.
module _ (P : ℕ → ℕ → Type 0) (p q : ℕ)
    (east : y_of p ≡ y_of q → x_of p < x_of q → P 0 (x_of q - x_of p)) (west : y_of p ≡ y_of q → x_of q ≤ x_of p → P 2 (x_of p - x_of q))
    (south : y_of p ≢ y_of q → y_of p < y_of q → P 3 (y_of q - y_of p)) (north : y_of p ≢ y_of q → y_of q ≤ y_of p → P 1 (y_of p - y_of q)) where
  pub one_of_four : P (heading p q) (distance p q)
  one_of_four = pick (ℕ_discrete (y_of p) (y_of q)) (dec_lt (x_of p) (x_of q)) (dec_lt (y_of p) (y_of q))
    where
      pick : Dec (y_of p ≡ y_of q) → Dec (x_of p < x_of q) → Dec (y_of p < y_of q) → P (heading p q) (distance p q)
      pick (yes s) (yes l) c = rw (heading_east p q s l, distance_east p q s l) (east s l)
      pick (yes s) (no n) c = rw (heading-west p q s (omega arith), distance-west p q s (omega arith)) (west s (omega arith))
      pick (no s) b (yes l) = rw (heading_south p q s l, distance_south p q s l) (south s l)
      pick (no s) b (no n) = rw (heading-north p q s (omega arith), distance-north p q s (omega arith)) (north s (omega arith))

pub heading-below : (p q : ℕ) → heading p q < 4
heading-below p q = one_of_four (λ d k. d < 4) p q (λ s l. omega arith) (λ s l. omega arith) (λ s l. omega arith) (λ s l. omega arith)
