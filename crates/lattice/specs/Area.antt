-- The area of a walk, edge by edge and run by run.
use Rattle.std.specs.Prelude.{◌≡◌, ℕ, zero, suc, ◌+◌, ◌-◌, ◌*◌, ◌/◌, ◌%◌, ◌≤◌, List, [], ◌∷◌, ◌++◌, length, ℤ, pos, negsuc, ◌+ℤ◌, ◌-ℤ◌, ◌*ℤ◌, neg_ℤ, unsigned_abs}
use Rattle.std.proofs.Common.{sym, ap, ap₂, ◌∙◌, arith}
use Rattle.std.proofs.Math.Decide.{ℕ_discrete}
use Rattle.std.proofs.Math.IntN.{+ℤ_idl, +ℤ_idr, +ℤ_assoc}
use Rattle.sequences.specs.Differences.{difference, difference-add, difference_same, difference_times, size_of_sum}
use Rattle.lattice.specs.Directions.{x_of, y_of, move, tail, digit}
use Rattle.lattice.specs.Straight.{OnGrid}

-- The change of y along a unit edge with the digit d: y grows southward.
unfoldable pub change_of_y : ℕ → ℤ
change_of_y zero = pos 0
change_of_y (suc zero) = negsuc 0
change_of_y (suc (suc zero)) = pos 0
change_of_y (suc (suc (suc d))) = pos 1

-- "a signed 32-bit area, the sum over its unit edges of x times the change of y" (document 02, request c), as an integer without a width.
unfoldable pub area : List ℕ → ℤ
unfolding x_of tail digit change_of_y
area [] = pos 0
area (e ∷ es) = pos (x_of (tail e)) *ℤ change_of_y (digit e) +ℤ area es

pub area-append : (xs ys : List ℕ) → area (xs ++ ys) ≡ area xs +ℤ area ys
unfolding area
area-append [] ys = sym (+ℤ_idl (area ys))
area-append (e ∷ xs) ys =
    ap (λ z. pos (x_of (tail e)) *ℤ change_of_y (digit e) +ℤ z) (area-append xs ys)
    ∙ sym (+ℤ_assoc (pos (x_of (tail e)) *ℤ change_of_y (digit e)) (area xs) (area ys))

pub area_push : (es : List ℕ) (e : ℕ) → area (es ++ (e ∷ [])) ≡ area es +ℤ pos (x_of (tail e)) *ℤ change_of_y (digit e)
unfolding area
area_push es e = area-append es (e ∷ []) ∙ ap (λ z. area es +ℤ z) (+ℤ_idr (pos (x_of (tail e)) *ℤ change_of_y (digit e)))

-- ---- runs

-- What a run in the column x from the row y to the row z adds: x times its change of y.
unfoldable pub leg_area : ℕ → ℕ → ℕ → ℤ
leg_area x y z = pos x *ℤ (pos z -ℤ pos y)

pub leg_area_is : (x y z : ℕ) → leg_area x y z ≡ difference (x * z) (x * y)
unfolding leg_area difference
leg_area_is x y z = difference_times x z y

-- The same by its two ends.
abbrev pub leg_between : ℕ → ℕ → ℤ
leg_between p q = leg_area (x_of p) (y_of p) (y_of q)

-- The point q lies in the column of p where the digit d leads north or south, else in its row.
pub record Aligned (d p q : ℕ) : Type 0 where
  pub column : d % 2 ≡ 1 → x_of q ≡ x_of p
  pub row : d % 2 ≡ 0 → y_of q ≡ y_of p

pub aligned_then : {d p q s : ℕ} → Aligned d p q → Aligned d q s → Aligned d p s
aligned_then a b = record { column = λ h. b.column h ∙ a.column h; row = λ h. b.row h ∙ a.row h }

-- One run and another straight on.
pub legs_joined : (d p q s : ℕ) → Aligned d p q → Aligned d q s → leg_between p q +ℤ leg_between q s ≡ leg_between p s
legs_joined d p q s a b =
    ap₂ ◌+ℤ◌ (leg_area_is (x_of p) (y_of p) (y_of q)) (leg_area_is (x_of q) (y_of q) (y_of s))
    ∙ difference-add (x_of p * y_of q) (x_of p * y_of p) (x_of q * y_of s) (x_of q * y_of q)
    ∙ difference_same (x_of p * y_of q + x_of q * y_of s) (x_of p * y_of p + x_of q * y_of q) (x_of p * y_of s) (x_of p * y_of p) (pick (ℕ_discrete (d % 2) 1))
    ∙ sym (leg_area_is (x_of p) (y_of p) (y_of s))
  where
    pick : Dec (d % 2 ≡ 1) → x_of p * y_of q + x_of q * y_of s + x_of p * y_of p ≡ x_of p * y_of s + (x_of p * y_of p + x_of q * y_of q)
    pick (yes h) = rw (a.column h) (omega arith)
    pick (no h) = let r : d % 2 ≡ 0 = omega arith in rw (b.row r, a.row r) (omega arith)

-- A unit edge is the shortest run.
pub unit_aligned : (d p : ℕ) → OnGrid d 1 p → Aligned d p (move d p)
unfolding OnGrid move x_of y_of
unit_aligned zero p g = record { column = λ e. absurd (omega arith); row = λ e. omega arith }
unit_aligned (suc zero) p g = record { column = λ e. omega arith; row = λ e. absurd (omega arith) }
unit_aligned (suc (suc zero)) p g = record { column = λ e. absurd (omega arith); row = λ e. omega arith }
unit_aligned (suc (suc (suc d))) p g = record { column = λ e. omega arith; row = λ e. absurd (omega arith) }

-- Its change of y is the y where it ends less the y where it begins.
pub change_of_y_lem : (d p : ℕ) → OnGrid d 1 p → change_of_y d ≡ pos (y_of (move d p)) -ℤ pos (y_of p)
unfolding change_of_y difference OnGrid move x_of y_of
change_of_y_lem zero p g = difference_same 0 0 ((p + 1) / 512) (p / 512) (omega arith)
change_of_y_lem (suc zero) p g = difference_same 0 1 ((p - 512) / 512) (p / 512) (omega arith)
change_of_y_lem (suc (suc zero)) p g = difference_same 0 0 ((p - 1) / 512) (p / 512) (omega arith)
change_of_y_lem (suc (suc (suc d))) p g = difference_same 1 0 ((p + 512) / 512) (p / 512) (omega arith)

pub unit_leg : (d p : ℕ) → OnGrid d 1 p → pos (x_of p) *ℤ change_of_y d ≡ leg_between p (move d p)
unfolding leg_area
unit_leg d p g = ap (λ z. pos (x_of p) *ℤ z) (change_of_y_lem d p g)

-- ---- size

edge_size : (x d : ℕ) → unsigned_abs (pos x *ℤ change_of_y d) ≤ x
unfolding change_of_y
edge_size x zero = omega arith
edge_size x (suc zero) = size_of_negative (x * 1) x (omega arith)
  where
    size_of_negative : (k most : ℕ) → k ≤ most → unsigned_abs (neg_ℤ (pos k)) ≤ most
    size_of_negative zero most h = omega arith
    size_of_negative (suc k) most h = h
edge_size x (suc (suc zero)) = omega arith
edge_size x (suc (suc (suc d))) = omega arith

-- No x is above 511, so a walk of k edges has an area below 512 times k, above or below 0.
pub area_size : (es : List ℕ) → unsigned_abs (area es) ≤ 512 * length es
unfolding area x_of
area_size [] = omega arith
area_size (e ∷ es) =
    omega (
      arith,
      size_of_sum (pos (x_of (tail e)) *ℤ change_of_y (digit e)) (area es),
      edge_size (x_of (tail e)) (digit e),
      area_size es,
    )
