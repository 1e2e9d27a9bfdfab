-- From the stored owners and the filled rows to the numbers that the cycles tell.
use Rattle.std.specs.Prelude.{◌≡◌, refl, Bool, true, false, ℕ, zero, suc, ◌+◌, ◌-◌, ◌*◌, ◌/◌, ◌%◌, ◌^◌, ◌≤◌, ◌<◌, take}
use Rattle.std.proofs.Common.{sym, ◌∙◌, subst₂, div-add-mod', arith, length-take-le}
use Rattle.std.proofs.Math.Path.{ap, subst}
use Rattle.std.proofs.lemmas.Bool.{false≢true}
use mathlib.Core.List.{List, ◌++◌}
use Rattle.std.proofs.Math.Arith.{digits_lt}
use Rattle.std.proofs.Math.ListN.{length, get_or, drop, get_or-append}
use Rattle.std.proofs.Math.Seq.{length_front, get_or-drop}
use Rattle.sequences.specs.Cases.{first}
use Rattle.sequences.specs.Fill.{fill, length-fill, fill-inside}
use Rattle.sequences.specs.Powers.{pow2_pos, pow4_mono, square_of_side}
use Rattle.sequences.specs.Ranges.{tabulate_same}
use Rattle.interleaving.specs.Codes.{column, row}
use Rattle.interleaving.specs.Interleaving.{column-below, row_below}
use Rattle.location.specs.Levels.{side_of, pixels_of, side_is_power, pixels_are_power}
use Rattle.quadtree.specs.Raster.{place}
use Rattle.quadtree.specs.Orders.{column_in, row_in}
use Rattle.orbits.specs.Members.{get_or_right}
use Rattle.grid.specs.Listing.{Cycle}
use Rattle.grid.specs.Sides.{side_at}
use Rattle.grid.specs.North.{side_small}
use Rattle.steps.specs.Look.{mark_bit}
use Rattle.cycles.specs.Mapped.{nums_of}
use Rattle.given_outlines.specs.Given.{cycles_in}
use Rattle.given_outlines.specs.Agreeing.{Agreeing}
use Rattle.given_outlines.specs.Candidate.{owner_of, region_from, numbers_from}
use Rattle.given_outlines.specs.Needed.{NoImage, region_told}
use Rattle.west_sides.specs.Promise.{Tellable, RegionsTold}
use Rattle.west_sides.specs.Cycles.{AllFit, Storable, AllOutlinesStored, stored_by_all, region_at_most}
use Rattle.west_sides.specs.Needed.{none_where_not_fit}
use Rattle.west_sides.specs.Rows.{from_west, from_west_same, entry_at, RowsFilled}

-- What telling the regions asks for, with a map of one entry a pixel.
pub record TellableWhole (n count : ℕ) (os es cs map : List ℕ) : Type 0 where
  pub small : n ≤ 8
  pub agree : Agreeing os es cs
  pub few_regions : count ≤ 4 ^ n
  pub size : length map ≡ 4 ^ n

-- The entry of a pixel is 1 plus the region that the cycles tell.
pub record PixelTold (n count : ℕ) (l : List Cycle) (map : List ℕ) (x y : ℕ) : Type 0 where
  pub entry : entry_at (2 ^ n) map y x ≡ region_from l y x
  pub some : 0 < region_from l y x
  pub at_most : region_from l y x ≤ count

-- All pixels are told, or no image has these outlines: then what the map holds is free.
pub record WholeTold (n count : ℕ) (l : List Cycle) (map map' : List ℕ) (ok : Bool) : Type 0 where
  pub long : length map' ≡ length map
  pub told : ok ≡ true → (x y : ℕ) → x < 2 ^ n → y < 2 ^ n → PixelTold n count l map' x y
  pub none : ok ≡ false → NoImage n count l

-- ---- the whole map

from_west_is_region : (l : List Cycle) (y x : ℕ) → from_west (λ i. owner_of l (side_at i y 1)) x ≡ region_from l y x
unfolding from_west region_from
from_west_is_region l y zero = refl
from_west_is_region l y (suc x) = ap (first (owner_of l (side_at (suc x) y 1))) (from_west_is_region l y x)

first-zero_right : (a : ℕ) → first a 0 ≡ a
unfolding first
first-zero_right zero = refl
first-zero_right (suc a) = refl

first_positive : (a b : ℕ) → 0 < b → 0 < first a b
unfolding first
first_positive zero b h = h
first_positive (suc a) b h = omega arith

-- A row that has a region in its first column has one everywhere.
some_region : (l : List Cycle) (y x : ℕ) → 0 < owner_of l (side_at 0 y 1) → 0 < region_from l y x
unfolding region_from
some_region l y zero h = h
some_region l y (suc x) h = first_positive (owner_of l (side_at (suc x) y 1)) (region_from l y x) (some_region l y x h)

module _ {n count side : ℕ} {os es cs map zeros : List ℕ} (h : TellableWhole n count os es cs map) (e : side ≡ side_of n)
    (cleared : zeros ≡ fill map 0 (length map) 0) where
  abbrev l : List Cycle
  l = cycles_in os es cs

  side_is : side ≡ 2 ^ n
  side_is = e ∙ side_is_power n (omega (arith, h.small))

  narrow : side ≤ 256
  narrow = omega (arith, side_is, side_small n h.small)

  same_size : length zeros ≡ length map
  same_size = ap (λ (w : List ℕ). length w) cleared ∙ length-fill map 0 (length map) 0

  square : length zeros ≡ side * side
  square = same_size ∙ h.size ∙ sym (square_of_side n) ∙ ap (λ (s : ℕ). s * s) (sym side_is)

  pub cycles_held_lem : Storable side count os es cs zeros
  cycles_held_lem =
      let most : 4 ^ n ≤ 65536 = pow4_mono h.small in
      record { square = record { small = narrow; room = omega (arith, square) }; agree = h.agree; few_regions = omega (arith, h.few_regions) }

  module _ {w : List ℕ} {ok : Bool} (s : AllOutlinesStored side count (length zeros) l zeros w ok) where
    pub rows_to_fill : length w ≡ side * side
    rows_to_fill = s.long ∙ square

    pub not_told : ok ≡ false → WholeTold n count l map w false
    not_told z = record {
      long = s.long ∙ same_size;
      told = λ z. absurd (false≢true z);
      none = λ _. none_where_not_fit h.small
          (λ f. s.none z (subst₂ (λ (a b : ℕ). AllFit a count b l) (sym side_is) (sym (same_size ∙ h.size)) f));
    }

    module _ (stored : ok ≡ true) where
      -- Before the rows are filled each entry is the owner of the pixel's west side.
      owner-stored : (x y : ℕ) → x < side → y < side → entry_at side w y x ≡ owner_of l (side_at x y 1)
      owner-stored x y a b =
          let inside : y * side + x < side * side = digits_lt {q = y} {m = side} {r = x} {c = side} b a in
          let zero-there : entry_at side zeros y x ≡ 0 =
          ap (λ (t : List ℕ). entry_at side t y x) cleared
          ∙ fill-inside map 0 (length map) 0 (y * side + x) (omega arith) (omega arith) (omega (arith, square, same_size)) in
          ap (λ (t : List ℕ). entry_at side t y x) (s.done stored).1
          ∙ stored_by_all side narrow x y a b count (length zeros) l zeros (omega (arith, square)) (s.done stored).0
          ∙ ap (first (owner_of l (side_at x y 1))) zero-there
          ∙ first-zero_right (owner_of l (side_at x y 1))

      pub rows_tell : {w' : List ℕ} {all : Bool} → RowsFilled side w w' all → WholeTold n count l map w' all
      unfolding region_from
      rows_tell {w'} r = record {
        long = r.long ∙ s.long ∙ same_size;
        told = λ z x y a b.
            let c : x < side = omega (arith, side_is) in
            let d : y < side = omega (arith, side_is) in
            let t = r.told z y d in
            record {
              entry =
                  ap (λ (k : ℕ). entry_at k w' y x) (sym side_is)
                  ∙ t.1 x c
                  ∙ from_west_same (entry_at side w y) (λ i. owner_of l (side_at i y 1)) x (λ i less. owner-stored i y (omega arith) d)
                  ∙ from_west_is_region l y x;
              some = some_region l y x (omega (arith, t.0, owner-stored 0 y (omega arith) d));
              at_most = region_at_most side count (length zeros) l y x (s.done stored).0;
            };
        none = λ z. from (r.none z);
      }
        where
          from : (y : ℕ) × (y < side) × (entry_at side w y 0 ≡ 0) → NoImage n count l
          from (y, b, none) px e q =
              let some : 0 < region_from l y 0 =
              subst (λ (c : List Cycle). 0 < region_from c y 0) q (region_told px h.small 0 y (pow2_pos n) (omega (arith, side_is))) in
              let z : ⊥ = omega (arith, owner-stored 0 y (omega arith) b) in
              z

-- ---- the front of a longer map

module _ {n count : ℕ} {os es cs map : List ℕ} (h : Tellable n count os es cs map) {whole : ℕ} (e : whole ≡ pixels_of n) where
  pub whole_is : whole ≡ 4 ^ n
  whole_is = e ∙ pixels_are_power n (omega (arith, h.small))

  pub front_tellable : TellableWhole n count os es cs (take whole map)
  front_tellable = record {
    small = h.small;
    agree = h.agree;
    few_regions = h.few_regions;
    size = length-take-le whole map (omega (arith, h.room, whole_is)) ∙ whole_is;
  }

  module _ {l : List Cycle} {front : List ℕ} {ok : Bool} (s : WholeTold n count l (take whole map) front ok) where
    front_size : length front ≡ 4 ^ n
    front_size = s.long ∙ front_tellable.size

    -- Each entry of the front is 1 plus a region.
    pixel_told : ok ≡ true → (x y : ℕ) → x < 2 ^ n → y < 2 ^ n → PixelTold n count l (front ++ drop whole map) x y
    pixel_told z x y a b =
        let p = s.told z x y a b in
        let inside : y * 2 ^ n + x < 2 ^ n * 2 ^ n = digits_lt {q = y} {m = 2 ^ n} {r = x} {c = 2 ^ n} b a in
        record {
          entry = get_or-append front (drop whole map) 0 (y * 2 ^ n + x) (omega (arith, front_size, square_of_side n)) ∙ p.entry;
          some = p.some;
          at_most = p.at_most;
        }

    entry_bounds : ok ≡ true → (j : ℕ) → j < 4 ^ n → (0 < get_or (front ++ drop whole map) j 0) × (get_or (front ++ drop whole map) j 0 ≤ count)
    entry_bounds z j less =
        let p = pixel_told z (j % 2 ^ n) (j / 2 ^ n) (column_in n j) (row_in n j less) in
        let e : get_or (front ++ drop whole map) j 0 ≡ region_from l (j / 2 ^ n) (j % 2 ^ n) =
        ap (λ (i : ℕ). get_or (front ++ drop whole map) i 0) (sym (div-add-mod' j (2 ^ n))) ∙ p.entry in
        (omega (arith, p.some), omega (arith, p.at_most))

    pub front_told : RegionsTold n count l map (front ++ drop whole map) ok
    unfolding nums_of numbers_from place
    front_told = record {
      long = length_front map front whole s.long;
      beyond = λ j less.
          let e : whole + (j - length front) ≡ j = omega (arith, front_size, whole_is) in
          get_or_right front (drop whole map) j (omega (arith, front_size)) ∙ get_or-drop whole map (j - length front) 0 ∙ ap (λ (i : ℕ). get_or map i 0) e;
      told = λ z. record {
        mapped = record {
          long = omega (arith, length_front map front whole s.long, h.room);
          numbered = λ j less. let b = entry_bounds z j less in omega (arith, b.0, b.1, h.few_regions, bound);
          bounded = λ j less. omega (arith, (entry_bounds z j less).1, h.few_regions, bound);
        };
        below = λ j less. (entry_bounds z j less).1;
        numbers_are =
            tabulate_same (4 ^ n) (λ c. get_or (front ++ drop whole map) (row n c * 2 ^ n + column n c) 0 % mark_bit - 1)
            (λ c. region_from l (row n c) (column n c) - 1)
            (λ c less. let p = pixel_told z (column n c) (row n c) (column-below n c) (row_below n c) in
            omega (arith, p.entry, p.at_most, h.few_regions, bound));
      };
      none = s.none;
    }
      where
        bound : 4 ^ n ≤ 65536
        bound = pow4_mono h.small
