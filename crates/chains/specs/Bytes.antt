-- The bytes of a chain, and the units that they stand for: what the tests of one byte say.
use Rattle.std.specs.Prelude.{◌≡◌, refl, ◌≢◌, true, not, ◌&&◌, ℕ, zero, suc, ◌+◌, ◌-◌, ◌≤◌, ◌<◌, eqb, leb}
use Rattle.std.proofs.Common.{ap, arith, ne_eqb, leb-true, le-leb, ltb-true}
use Rattle.std.proofs.lemmas.Bool.{eqb-false}
use Rattle.sequences.specs.Cases.{and_both, both_and, not_flips}
use Rattle.lattice.specs.Directions.{x_of, y_of, move, right_of, opposite}
use Rattle.lattice.specs.CycleForm.{inside, inside_says, says_inside}
use Rattle.chains.specs.ChainForm.{digit_of, is_direction, free, allowed}

-- Two right turns lead straight back.
pub two_right : (d : ℕ) → d < 4 → right_of (right_of d) ≡ opposite d
unfolding right_of opposite
two_right zero h = refl
two_right (suc zero) h = refl
two_right (suc (suc zero)) h = refl
two_right (suc (suc (suc zero))) h = refl
two_right (suc (suc (suc (suc d)))) h = absurd (omega arith)

-- What an allowed byte is.
pub record Allowed (d p b : ℕ) : Type 0 where
  pub low : 48 ≤ b
  pub high : b ≤ 51
  pub onward : digit_of b ≢ opposite d
  pub stays : free (digit_of b) p ≡ true

pub allowed_says : (d p b : ℕ) → allowed d p b ≡ true → Allowed d p b
unfolding allowed is_direction
allowed_says d p b h =
    let x = and_both (leb 48 b && leb b 51) (not (eqb (digit_of b) (opposite d)) && free (digit_of b) p) h in
    let y = and_both (leb 48 b) (leb b 51) x.0 in
    let z = and_both (not (eqb (digit_of b) (opposite d))) (free (digit_of b) p) x.1 in
    record {
      low = leb-true 48 b y.0;
      high = leb-true b 51 y.1;
      onward = eqb-false (digit_of b) (opposite d) (not_flips (eqb (digit_of b) (opposite d)) z.0);
      stays = z.1;
    }

pub says_allowed : (d p b : ℕ) → Allowed d p b → allowed d p b ≡ true
unfolding allowed is_direction
says_allowed d p b a =
    both_and (leb 48 b && leb b 51) (not (eqb (digit_of b) (opposite d)) && free (digit_of b) p)
    (both_and (leb 48 b) (leb b 51) (le-leb 48 b a.low) (le-leb b 51 a.high))
    (both_and (not (eqb (digit_of b) (opposite d))) (free (digit_of b) p) (ap not (ne_eqb (digit_of b) (opposite d) a.onward)) a.stays)

pub digit-below : {d p b : ℕ} → Allowed d p b → digit_of b < 4
unfolding digit_of
digit-below {d} {p} {b} a = omega (arith, a.low, a.high)

-- What a free unit is, by its digit.
pub record Free (d p : ℕ) : Type 0 where
  pub east : d ≡ 0 → x_of p < 256
  pub north : d ≡ 1 → 0 < y_of p
  pub west : d ≡ 2 → 0 < x_of p
  pub south : d ≡ 3 → y_of p < 256

pub free_says : (d p : ℕ) → d < 4 → free d p ≡ true → Free d p
unfolding free
free_says zero p h f = record { east = λ e. ltb-true (x_of p) 256 f; north = λ e. absurd (omega arith); west = λ e. absurd (omega arith); south = λ e. absurd (omega arith) }
free_says (suc zero) p h f = record { east = λ e. absurd (omega arith); north = λ e. ltb-true 0 (y_of p) f; west = λ e. absurd (omega arith); south = λ e. absurd (omega arith) }
free_says (suc (suc zero)) p h f = record { east = λ e. absurd (omega arith); north = λ e. absurd (omega arith); west = λ e. ltb-true 0 (x_of p) f; south = λ e. absurd (omega arith) }
free_says (suc (suc (suc d))) p h f = record { east = λ e. absurd (omega arith); north = λ e. absurd (omega arith); west = λ e. absurd (omega arith); south = λ e. ltb-true (y_of p) 256 f }

-- A free unit from a point within 0 to 256 ends within.
pub move-inside : (d p : ℕ) → d < 4 → inside p ≡ true → free d p ≡ true → inside (move d p) ≡ true
unfolding move x_of y_of
move-inside zero p h i f =
    let s = free_says 0 p h f in
    says_inside (p + 1) (omega (arith, s.east refl, inside_says p i)) (omega (arith, s.east refl, inside_says p i))
move-inside (suc zero) p h i f =
    let s = free_says 1 p h f in
    says_inside (p - 512) (omega (arith, s.north refl, inside_says p i)) (omega (arith, s.north refl, inside_says p i))
move-inside (suc (suc zero)) p h i f =
    let s = free_says 2 p h f in
    says_inside (p - 1) (omega (arith, s.west refl, inside_says p i)) (omega (arith, s.west refl, inside_says p i))
move-inside (suc (suc (suc zero))) p h i f =
    let s = free_says 3 p h f in
    says_inside (p + 512) (omega (arith, s.south refl, inside_says p i)) (omega (arith, s.south refl, inside_says p i))
move-inside (suc (suc (suc (suc d)))) p h i f = absurd (omega arith)
