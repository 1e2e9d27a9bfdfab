-- The owners of northward edges stored row by row: each edge gives the pixel on its right a number, and later ones are laid over earlier
-- ones. How many northward edges there are, and that their pixels lie inside the image.
use Rattle.std.specs.Prelude.{◌≡◌, ◌≢◌, ◌⊎◌, Bool, cond, eqb, length, set}
use Rattle.std.proofs.Math.Path.{refl, sym, ap, ap₂}
use Rattle.std.proofs.Common.{◌∙◌, inl, inr, length-set, get_or-set_same, eq-eqb, ne_eqb}
use Rattle.std.proofs.Math.Bool.{true, false}
use Rattle.std.proofs.lemmas.Bool.{false≢true}
use mathlib.Core.List.{List, [], ◌∷◌, ◌++◌}
use Prim.Native.Nat.{ℕ, zero, suc, ◌+◌, ◌-◌, ◌*◌, ◌/◌, ◌%◌, ◌≤◌, ◌<◌}
use Rattle.std.proofs.Math.Decide.{ℕ_discrete}
use native.Mathlib.Omega.{arith}
use Rattle.std.proofs.Math.Arith.{digits_lt, digits_div, digits_mod}
use Rattle.std.proofs.Math.ListN.{get_or}
use Rattle.std.proofs.Math.Seq.{get_or-set_other}
use Rattle.sequences.specs.Cases.{first, when, first_some}
use Rattle.lattice.specs.Directions.{point, x_of, y_of, edge, tail, digit}
use Rattle.orbits.specs.Members.{In, in_first, in_later, in_append, in_left, in_right}
use Rattle.grid.specs.Sides.{side_at}
use Rattle.steps.specs.Look.{Square}
use Rattle.orbits.specs.Finding.{member, member-here, member_later}

-- The place, in rows of the length `side`, of the pixel on the right of a northward edge: its tail is the pixel's southwest corner.
unfoldable pub place_right : ℕ → ℕ → ℕ
unfolding x_of y_of tail
place_right side e = (y_of (tail e) - 1) * side + x_of (tail e)

-- That pixel lies inside an image of this side.
pub record PixelInside (side e : ℕ) : Type 0 where
  pub x_inside : x_of (tail e) < side
  pub y_positive : 0 < y_of (tail e)
  pub y_inside : y_of (tail e) ≤ side

-- What is stored for one edge, and for all edges of a list: r at the pixel on the right of each that goes north.
unfoldable pub store : ℕ → ℕ → List ℕ → ℕ → List ℕ
unfolding digit place_right
store side r w e = cond (eqb (digit e) 1) (set w (place_right side e) r) w

unfoldable pub stores : ℕ → ℕ → List ℕ → List ℕ → List ℕ
unfolding store
stores side r [] w = w
stores side r (e ∷ es) w = stores side r es (store side r w e)

-- How many edges of a list go north.
unfoldable pub norths : List ℕ → ℕ
unfolding when digit
norths [] = 0
norths (e ∷ es) = when (eqb (digit e) 1) 1 + norths es

-- The edges of a list can be stored: those that go north have their pixels inside the image, and there are no more of them than `units`.
pub record Fits (side units : ℕ) (es : List ℕ) : Type 0 where
  pub inside : (e : ℕ) → In e es → digit e ≡ 1 → PixelInside side e
  pub few : norths es ≤ units

-- All edges of a list are stored, and so many units are left.
pub record AllStored (side r units : ℕ) (es w w' : List ℕ) (left : ℕ) : Type 0 where
  pub fits : Fits side units es
  pub stored : w' ≡ stores side r es w
  pub units_left : left ≡ units - norths es

-- What storing them answers and leaves in the map: either all are stored, or they can't be, and then what the map holds is free.
pub record Stored (side r units : ℕ) (es w w' : List ℕ) (ok : Bool) (left : ℕ) : Type 0 where
  pub long : length w' ≡ length w
  pub done : ok ≡ true → AllStored side r units es w w' left
  pub none : ok ≡ false → Fits side units es → ⊥

-- ---- one edge

pub store-north : (side r : ℕ) (w : List ℕ) (e : ℕ) → digit e ≡ 1 → store side r w e ≡ set w (place_right side e) r
unfolding store
store-north side r w e h = simp (eq-eqb (digit e) 1 h)

store_other : (side r : ℕ) (w : List ℕ) (e : ℕ) → digit e ≢ 1 → store side r w e ≡ w
unfolding store
store_other side r w e h = simp (ne_eqb (digit e) 1 h)

length-store : (side r : ℕ) (w : List ℕ) (e : ℕ) → length (store side r w e) ≡ length w
length-store side r w e =
    elim (ℕ_discrete (digit e) 1) [
      | yes h ↦ ap (λ (l : List ℕ). length l) (store-north side r w e h) ∙ length-set w (place_right side e) r
      | no h ↦ ap (λ (l : List ℕ). length l) (store_other side r w e h)
    ]

pub norths-north : (e : ℕ) (es : List ℕ) → digit e ≡ 1 → norths (e ∷ es) ≡ suc (norths es)
unfolding norths when
norths-north e es h = ap (λ (t : Bool). when t 1 + norths es) (eq-eqb (digit e) 1 h) ∙ omega arith

pub norths_other : (e : ℕ) (es : List ℕ) → digit e ≢ 1 → norths (e ∷ es) ≡ norths es
unfolding norths when
norths_other e es h = ap (λ (t : Bool). when t 1 + norths es) (ne_eqb (digit e) 1 h) ∙ omega arith

-- ---- lists of edges

pub length-stores : (side r : ℕ) (es w : List ℕ) → length (stores side r es w) ≡ length w
unfolding stores
length-stores side r [] w = refl
length-stores side r (e ∷ es) w = length-stores side r es (store side r w e) ∙ length-store side r w e

pub stores-append : (side r : ℕ) (xs ys w : List ℕ) → stores side r (xs ++ ys) w ≡ stores side r ys (stores side r xs w)
unfolding stores
stores-append side r [] ys w = refl
stores-append side r (x ∷ xs) ys w = stores-append side r xs ys (store side r w x)

pub norths-append : (xs ys : List ℕ) → norths (xs ++ ys) ≡ norths xs + norths ys
unfolding norths
norths-append [] ys = omega arith
norths-append (x ∷ xs) ys = omega (arith, norths-append xs ys)

-- Edges of other directions store nothing.
pub stores_none : (side r : ℕ) (es w : List ℕ) → ((e : ℕ) → In e es → digit e ≢ 1) → stores side r es w ≡ w
unfolding stores
stores_none side r [] w f = refl
stores_none side r (e ∷ es) w f =
    ap (stores side r es) (store_other side r w e (f e (in_first e es))) ∙ stores_none side r es w (λ d i. f d (in_later d e es i))

pub norths_none : (es : List ℕ) → ((e : ℕ) → In e es → digit e ≢ 1) → norths es ≡ 0
unfolding norths
norths_none [] f = refl
norths_none (e ∷ es) f = norths_other e es (f e (in_first e es)) ∙ norths_none es (λ d i. f d (in_later d e es i))

-- One list after another can be stored where each can, with the units that the first leaves.
pub fits_both : (side units : ℕ) (xs ys : List ℕ) → Fits side units xs → Fits side (units - norths xs) ys → Fits side units (xs ++ ys)
fits_both side units xs ys f g = record {
  inside = λ e i z. pick e z (in_append e xs ys i);
  few = omega (arith, norths-append xs ys, f.few, g.few);
}
  where
    pick : (e : ℕ) → digit e ≡ 1 → In e xs ⊎ In e ys → PixelInside side e
    pick e z (inl i) = f.inside e i z
    pick e z (inr i) = g.inside e i z

pub fits_first : (side units : ℕ) (xs ys : List ℕ) → Fits side units (xs ++ ys) → Fits side units xs
fits_first side units xs ys f =
    record { inside = λ e i z. f.inside e (in_left e xs ys i) z; few = omega (arith, norths-append xs ys, f.few) }

pub fits_second : (side units : ℕ) (xs ys : List ℕ) → Fits side units (xs ++ ys) → Fits side (units - norths xs) ys
fits_second side units xs ys f =
    record { inside = λ e i z. f.inside e (in_right e xs ys i) z; few = omega (arith, norths-append xs ys, f.few) }

-- ---- the answer

pub all_stored : {side r units left : ℕ} {es w w' : List ℕ} → length w' ≡ length w → AllStored side r units es w w' left
    → Stored side r units es w w' true left
all_stored long a = record { long = long; done = λ z. a; none = λ z f. false≢true (sym z) }

pub not_stored : {side r units left : ℕ} {es w w' : List ℕ} → length w' ≡ length w → (Fits side units es → ⊥) → Stored side r units es w w' false left
not_stored long no_fit = record { long = long; done = λ z. absurd (false≢true z); none = λ z. no_fit }

-- A map that keeps its length has an entry for each pixel still.
pub still_square : {side : ℕ} {w w' : List ℕ} → length w' ≡ length w → Square side w → Square side w'
still_square long h = record { small = h.small; room = omega (arith, h.room) }

-- ---- what the place of a pixel holds then

module _ (side : ℕ) (narrow : side ≤ 256) (x y : ℕ) (x_below : x < side) (y_below : y < side) where
  abbrev here : ℕ
  here = y * side + x

  abbrev west : ℕ
  west = side_at x y 1

  -- The pixel's west side goes north, and the pixel is on its right.
  west_side : (digit (side_at x y 1) ≡ 1) × (place_right side (side_at x y 1) ≡ y * side + x)
  unfolding side_at edge point digit tail place_right x_of y_of
  west_side =
      let ex : (4 * (512 * suc y + x) + 1) / 4 % 512 ≡ x = omega arith in
      let ey : (4 * (512 * suc y + x) + 1) / 4 / 512 - 1 ≡ y = omega arith in
      (omega arith, ap₂ (λ (a b : ℕ). a * side + b) ey ex)

  -- Only the pixel's own west side is stored there.
  pub place_tells : (e : ℕ) → digit e ≡ 1 → PixelInside side e → place_right side e ≡ y * side + x → e ≡ side_at x y 1
  unfolding place_right side_at edge point digit tail x_of y_of
  place_tells e d u q =
      let ex : e / 4 % 512 ≡ x =
      sym (digits_mod (e / 4 / 512 - 1) u.x_inside) ∙ ap (λ (i : ℕ). i % side) q ∙ digits_mod y x_below in
      let ey : e / 4 / 512 - 1 ≡ y =
      sym (digits_div (e / 4 / 512 - 1) u.x_inside) ∙ ap (λ (i : ℕ). i / side) q ∙ digits_div y x_below in
      let pos : 0 < e / 4 / 512 = u.y_positive in
      omega arith

  first_itself : (t : Bool) (r : ℕ) → first (when t r) r ≡ r
  unfolding first when
  first_itself true zero = refl
  first_itself true (suc r) = refl
  first_itself false r = refl

  pub stored_by_edges : (r : ℕ) → 0 < r → (es w : List ℕ) → side * side ≤ length w → ((e : ℕ) → In e es → digit e ≡ 1 → PixelInside side e)
      → get_or (stores side r es w) (y * side + x) 0 ≡ first (when (member (side_at x y 1) es) r) (get_or w (y * side + x) 0)
  unfolding stores member first when
  stored_by_edges r pos [] w long fit = refl
  stored_by_edges r pos (e ∷ es) w long fit =
      stored_by_edges r pos es (store side r w e) (omega (arith, length-store side r w e)) (λ d i. fit d (in_later d e es i)) ∙ pick (ℕ_discrete west e)
    where
      elsewhere : west ≢ e → Dec (digit e ≡ 1) → get_or (store side r w e) here 0 ≡ get_or w here 0
      elsewhere n (yes d) =
          ap (λ (l : List ℕ). get_or l here 0) (store-north side r w e d)
          ∙ get_or-set_other w (place_right side e) here r 0 (λ q. n (sym (place_tells e d (fit e (in_first e es) d) (sym q))))
      elsewhere n (no d) = ap (λ (l : List ℕ). get_or l here 0) (store_other side r w e d)

      pick : Dec (west ≡ e)
          → first (when (member west es) r) (get_or (store side r w e) here 0) ≡ first (when (member west (e ∷ es)) r) (get_or w here 0)
      pick (yes q) =
          let d : digit e ≡ 1 = ap digit (sym q) ∙ west_side.0 in
          let s : place_right side e ≡ here = ap (place_right side) (sym q) ∙ west_side.1 in
          let v : get_or (store side r w e) here 0 ≡ r =
          ap (λ (l : List ℕ). get_or l here 0) (store-north side r w e d ∙ ap (λ (i : ℕ). set w i r) s)
          ∙ get_or-set_same w here r 0 (omega (arith, digits_lt {q = y} {m = side} {r = x} {c = side} y_below x_below)) in
          ap (first (when (member west es) r)) v ∙ first_itself (member west es) r
          ∙ sym (first_some r (get_or w here 0) pos)
          ∙ ap (λ (t : Bool). first (when t r) (get_or w here 0)) (sym (member-here west e es (sym q)))
      pick (no q) =
          ap (first (when (member west es) r)) (elsewhere q (ℕ_discrete (digit e) 1))
          ∙ ap (λ (t : Bool). first (when t r) (get_or w here 0)) (sym (member_later west e es (λ h. q (sym h))))
