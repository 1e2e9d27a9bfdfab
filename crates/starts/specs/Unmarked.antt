-- A pixel whose north side is an edge without a mark: how the map tells it.
use Rattle.std.specs.Prelude.{◌≡◌, refl, ◌≢◌, ◌⊎◌, List, Option, Some, None, ℕ, suc, ◌+◌, ◌-◌, ◌*◌, ◌%◌, ◌^◌, ◌≤◌, ◌<◌, length}
use Rattle.std.proofs.Math.Path.{sym, subst}
use Rattle.std.proofs.Common.{ap, ap₂, ◌∙◌, add-mul}
use Rattle.std.proofs.Math.Logic.{inl, inr}
use native.Mathlib.Omega.{arith}
use Rattle.std.proofs.Math.Arith.{digits_lt}
use Rattle.std.proofs.Math.ListN.{get_or}
use Rattle.sequences.specs.Powers.{pow2_mono, pow4_mono, square_of_side}
use Rattle.location.specs.Levels.{side_of, side_is_power}
use Rattle.interleaving.specs.Codes.{code}
use Rattle.interleaving.specs.Interleaving.{code_below, column_of_code, row_of_code}
use Rattle.quadtree.specs.Raster.{place}
use Rattle.quadtree.specs.Orders.{place_of_code}
use Rattle.grid.specs.Map.{region_at, around}
use Rattle.grid.specs.Margins.{region-inside}
use Rattle.grid.specs.Steps.{Edge}
use Rattle.grid.specs.Cycles.{corner_of, north_side}
use Rattle.grid.specs.North.{corner-north, north-edge}
use Rattle.steps.specs.Look.{mark_bit}
use Rattle.cycles.specs.Mapped.{nums_of, Mapped, Marked, entry_of_pixel}

-- A pixel of the map.
pub record PixelOf (n : ℕ) (map : List ℕ) (x y : ℕ) : Type 0 where
  pub small : n ≤ 8
  pub mapped : Mapped n map
  pub x_inside : x < 2 ^ n
  pub y_inside : y < 2 ^ n

-- The north side of the pixel with the code c is an edge of the pixel's region.
abbrev pub NorthEdge : ℕ → List ℕ → ℕ → Type 0
NorthEdge n nums c = Edge (region_at n nums) (suc (get_or nums c 0)) (north_side n c)

-- The north side is an edge and bears no mark: r is 1 plus the pixel's region.
pub record Unmarked (n : ℕ) (map : List ℕ) (c r : ℕ) : Type 0 where
  pub north : NorthEdge n (nums_of n map) c
  pub no_mark : ¬ Marked n map c
  pub region : r ≡ suc (get_or (nums_of n map) c 0)

-- The answer r tells which: 0 where the north side is no edge or bears a mark.
abbrev pub Tells : ℕ → List ℕ → ℕ → ℕ → Type 0
Tells n map c r = Unmarked n map c r ⊎ ((r ≡ 0) × (NorthEdge n (nums_of n map) c → ¬ Marked n map c → ⊥))

-- The answer as that number: 1 plus the region, 0 for none.
abbrev pub told : Option ℕ → ℕ
told None = 0
told (Some region) = suc region

module _ {n : ℕ} {map : List ℕ} {x y : ℕ} (ok : PixelOf n map x y) where
  pub place-below : y * 2 ^ n + x < 4 ^ n
  place-below = omega (arith, digits_lt ok.y_inside ok.x_inside, square_of_side n)

  pub side_small : 2 ^ n ≤ 256
  side_small = let w : 2 ^ n ≤ 2 ^ 8 = pow2_mono ok.small in omega arith

  at_place : place n (code n x y) ≡ y * 2 ^ n + x
  at_place = place_of_code n x y ok.x_inside ok.y_inside

  north_of_lem : around (region_at n (nums_of n map)) (corner_of n (code n x y)) 1 ≡ region_at n (nums_of n map) (suc x) y
  north_of_lem =
      corner-north n (nums_of n map) ok.small (code n x y)
      ∙ ap₂ (λ a b. region_at n (nums_of n map) (suc a) b) (column_of_code n x y ok.x_inside) (row_of_code n x y ok.y_inside)

  here : get_or map (y * 2 ^ n + x) 0 % mark_bit ≡ suc (get_or (nums_of n map) (code n x y) 0)
  here = entry_of_pixel n map x y ok.mapped ok.x_inside ok.y_inside

  -- an edge, from what is north of the pixel
  an_edge : region_at n (nums_of n map) (suc x) y ≢ suc (get_or (nums_of n map) (code n x y) 0) → NorthEdge n (nums_of n map) (code n x y)
  an_edge d = (north-edge n (nums_of n map) ok.small (code n x y) (code_below n x y)).1 (λ e. d (sym north_of_lem ∙ e))

  no_edge : region_at n (nums_of n map) (suc x) y ≡ suc (get_or (nums_of n map) (code n x y) 0) → ¬ NorthEdge n (nums_of n map) (code n x y)
  no_edge e g = (north-edge n (nums_of n map) ok.small (code n x y) (code_below n x y)).0 g (north_of_lem ∙ e)

  -- What the entry of the pixel says: a mark, or the number alone.
  pub tells_marked : mark_bit ≤ get_or map (y * 2 ^ n + x) 0 → Tells n map (code n x y) 0
  unfolding Marked
  tells_marked h = inr (refl, λ g no_mark. no_mark (subst (λ i. mark_bit ≤ get_or map i 0) (sym at_place) h))

  module _ (plain : get_or map (y * 2 ^ n + x) 0 < mark_bit) where
    number-here : get_or map (y * 2 ^ n + x) 0 ≡ suc (get_or (nums_of n map) (code n x y) 0)
    number-here = omega (arith, here)

    not_marked : ¬ Marked n map (code n x y)
    unfolding Marked
    not_marked m = let k : mark_bit ≤ get_or map (y * 2 ^ n + x) 0 = subst (λ i. mark_bit ≤ get_or map i 0) at_place m in omega arith

    -- North of the first row is nothing.
    pub tells_first_row : y ≡ 0 → Tells n map (code n x y) (get_or map (y * 2 ^ n + x) 0)
    unfolding region_at
    tells_first_row z =
        inl (record { north = an_edge (λ e. omega (arith, sym (ap (region_at n (nums_of n map) (suc x)) z) ∙ e)); no_mark = not_marked; region = number-here })

  module _ (some : y ≢ 0) where
    row_before : (y - 1) * 2 ^ n + x ≡ y * 2 ^ n + x - 2 ^ n
    row_before =
        let e : y ≡ y - 1 + 1 = omega arith in
        omega (arith, ap (λ (z : ℕ). z * 2 ^ n) e, add-mul (y - 1) 1 (2 ^ n))

    pub row_above : 2 ^ n ≤ y * 2 ^ n + x
    row_above =
        let e : y ≡ y - 1 + 1 = omega arith in
        omega (arith, ap (λ (z : ℕ). z * 2 ^ n) e, add-mul (y - 1) 1 (2 ^ n))

    north-entry : get_or map (y * 2 ^ n + x - 2 ^ n) 0 % mark_bit ≡ region_at n (nums_of n map) (suc x) y
    north-entry =
        let e : suc (y - 1) ≡ y = omega arith in
        let h : y - 1 < 2 ^ n = omega (arith, ok.y_inside) in
        ap (λ (i : ℕ). get_or map i 0 % mark_bit) (sym row_before) ∙ entry_of_pixel n map x (y - 1) ok.mapped ok.x_inside h
        ∙ sym (region-inside n (nums_of n map) x (y - 1) ok.x_inside h) ∙ ap (region_at n (nums_of n map) (suc x)) e

    module _ (plain : get_or map (y * 2 ^ n + x) 0 < mark_bit) where
      pub tells_same : get_or map (y * 2 ^ n + x - 2 ^ n) 0 % mark_bit ≡ get_or map (y * 2 ^ n + x) 0 → Tells n map (code n x y) 0
      tells_same e = inr (refl, λ g no_mark. no_edge (sym north-entry ∙ e ∙ number-here plain) g)

      pub tells_edge : get_or map (y * 2 ^ n + x - 2 ^ n) 0 % mark_bit ≢ get_or map (y * 2 ^ n + x) 0 → Tells n map (code n x y) (get_or map (y * 2 ^ n + x) 0)
      tells_edge d = inl (record { north = an_edge (λ e. d (north-entry ∙ e ∙ sym (number-here plain))); no_mark = not_marked plain; region = number-here plain })

-- The same with the side as the code has it.
module _ {n : ℕ} {map : List ℕ} {x y : ℕ} (ok : PixelOf n map x y) {side : ℕ} (e : side ≡ side_of n) where
  wide : side ≡ 2 ^ n
  wide = e ∙ side_is_power n (omega (arith, ok.small))

  pub row_fits : y * side ≤ 65536
  row_fits = rw wide (omega (arith, place-below ok, pow4_mono ok.small))

  pub entry-below : y * side + x < 65536
  entry-below = rw wide (omega (arith, place-below ok, pow4_mono ok.small))

  pub entry-inside : y * side + x < length map
  entry-inside = rw wide (omega (arith, place-below ok, ok.mapped.long))

  pub entry_marked : mark_bit ≤ get_or map (y * side + x) 0 → Tells n map (code n x y) 0
  entry_marked h = tells_marked ok (rw wide at h)

  module _ (plain : get_or map (y * side + x) 0 < mark_bit) where
    pub entry-first-row : y ≡ 0 → Tells n map (code n x y) (get_or map (y * side + x) 0)
    entry-first-row z = rw wide (tells_first_row ok (rw wide at plain) z)

    module _ (some : y ≡ 0 → ⊥) where
      pub north_same : get_or map (y * side + x - side) 0 % mark_bit ≡ get_or map (y * side + x) 0 → Tells n map (code n x y) 0
      north_same h = tells_same ok some (rw wide at plain) (rw wide at h)

      pub north_other : (get_or map (y * side + x - side) 0 % mark_bit ≡ get_or map (y * side + x) 0 → ⊥) → Tells n map (code n x y) (get_or map (y * side + x) 0)
      north_other d = rw wide (tells_edge ok some (rw wide at plain) (λ h. d (rw wide h)))

  pub row_above_entry : (y ≡ 0 → ⊥) → side ≤ y * side + x
  row_above_entry some = rw wide (row_above ok some)

  -- The entry of a pixel of the map is at least 1.
  pub number_low : 1 ≤ get_or map (y * side + x) 0
  number_low = rw wide (omega (arith, here ok))

  -- The entry tells the region as the number below it.
  pub region_told : Tells n map (code n x y) (get_or map (y * side + x) 0) → Tells n map (code n x y) (suc (get_or map (y * side + x) 0 - 1))
  region_told t =
      let e : get_or map (y * side + x) 0 ≡ suc (get_or map (y * side + x) 0 - 1) = omega (arith, number_low) in
      subst (λ r. Tells n map (code n x y) r) e t
