-- A map of regions with a colour for each number: what writing its blocks needs, and the colours of four pixels.
use Rattle.std.specs.Prelude.{◌≡◌, List, [], ◌∷◌, ℕ, zero, suc, ◌+◌, ◌-◌, ◌%◌, ◌^◌, ◌≤◌, ◌<◌, length, get_or}
use Rattle.std.proofs.Common.{sym, ap, ◌∙◌, arith}
use Rattle.sequences.specs.Powers.{pow4_mono}
use Rattle.location.specs.Levels.{side_of, side_is_power}
use Rattle.location.specs.Places.{place_of}
use Rattle.quadtree.specs.Raster.{place}
use Rattle.quadtree.specs.Orders.{place_in, place_worked_out}
use Rattle.quadtree.specs.BlockLists.{BlockList, RoomFor}
use Rattle.squares.specs.Quadrants.{FourPlaces, four_places}
use Rattle.steps.specs.Look.{mark_bit}
use Rattle.cycles.specs.Mapped.{nums_of, Mapped, nums_at, length-nums}
use Rattle.given_outlines.specs.Given.{coloured, coloured_at}
use Rattle.map_blocks.specs.Fours.{HasFour, for_four}

-- A map of an image of side 2^n, whose entries may bear marks, "the colour of each region" (document 02, request f), and three lists with room
-- for what is written.
pub record Paintable (n : ℕ) (map colours : List ℕ) (lists : BlockList) : Type 0 where
  pub small : n ≤ 8
  pub mapped : Mapped n map
  pub below : (j : ℕ) → j < 4 ^ n → get_or map j 0 % mark_bit ≤ length colours
  pub room : RoomFor (4 ^ n) lists

-- Four pixels of such a map, from a multiple of 4 on.
pub record FourPainted (n : ℕ) (map colours : List ℕ) (c : ℕ) : Type 0 where
  pub small : n ≤ 8
  pub multiple : c % 4 ≡ 0
  pub inside : c + 4 ≤ 4 ^ n
  pub mapped : Mapped n map
  pub below : (j : ℕ) → j < 4 ^ n → get_or map j 0 % mark_bit ≤ length colours

-- An entry of the map whose number has a colour.
abbrev pub HasColour : List ℕ → List ℕ → ℕ → Type 0
HasColour map colours j = (0 < get_or map j 0 % mark_bit) × (get_or map j 0 % mark_bit ≤ length colours)

-- The colour of the entry j, by its number.
abbrev pub entry_colour : List ℕ → List ℕ → ℕ → ℕ
entry_colour map colours j = get_or colours (get_or map j 0 % mark_bit - 1) 0

-- The pixel with the code c has the colour of the entry at its place.
pub pixel_colour : (n : ℕ) (map colours : List ℕ) (c : ℕ) → c < 4 ^ n → get_or (coloured colours (nums_of n map)) c 0 ≡ entry_colour map colours (place n c)
pixel_colour n map colours c h =
    coloured_at colours (nums_of n map) c (omega (arith, length-nums n map)) ∙ ap (λ (r : ℕ). get_or colours r 0) (nums_at n map c h)

module _ {n : ℕ} {map colours : List ℕ} {c : ℕ} (o : FourPainted n map colours c) {w at : ℕ} (ew : w ≡ side_of n) (ea : at ≡ place_of n c) where
  wide : w ≡ 2 ^ n
  wide = ew ∙ side_is_power n (omega (arith, o.small))

  here : at ≡ place n c
  here = ea ∙ place_worked_out n c (omega (arith, o.small)) (omega (arith, o.inside))

  places : FourPlaces n c
  places = four_places n c (some n (omega (arith, o.inside))) (omega (arith, o.inside)) o.multiple
    where
      some : (k : ℕ) → 4 ≤ 4 ^ k → 0 < k
      some zero h = absurd (omega arith)
      some (suc k) h = omega arith

  -- The places of the four pixels.
  pub record FourAt : Type 0 where
    pub nw : at ≡ place n (c + 0)
    pub ne : at + 1 ≡ place n (c + 1)
    pub sw : at + w ≡ place n (c + 2)
    pub se : at + w + 1 ≡ place n (c + 3)
    pub low : at + w + 1 < 65536
    pub in_map : at + w + 1 < length map

  pub four_at : FourAt
  four_at =
      let e : c ≡ c + 0 = omega arith in
      let last : at + w + 1 ≡ place n (c + 3) = omega (arith, here, wide, places.southeast) in
      record {
        nw = here ∙ ap (place n) e;
        ne = omega (arith, here, places.east);
        sw = omega (arith, here, wide, places.south);
        se = last;
        low = omega (arith, last, place_in n (c + 3), pow4_mono o.small);
        in_map = omega (arith, last, place_in n (c + 3), o.mapped.long);
      }

  -- An entry at the place of a pixel has a colour.
  pub has_colour : (d : ℕ) {j : ℕ} → j ≡ place n d → HasColour map colours j
  has_colour d {j} e = let h : j < 4 ^ n = omega (arith, e, place_in n d) in (o.mapped.numbered j h, o.below j h)

  pub four_known : {nw ne sw se : ℕ} → nw ≡ entry_colour map colours at → ne ≡ entry_colour map colours (at + 1) → sw ≡ entry_colour map colours (at + w)
      → se ≡ entry_colour map colours (at + w + 1) → HasFour (coloured colours (nums_of n map)) c (nw ∷ ne ∷ sw ∷ se ∷ [])
  four_known {nw} {ne} {sw} {se} e₀ e₁ e₂ e₃ = record {
    each =
        for_four (λ (i : ℕ). get_or (coloured colours (nums_of n map)) (c + i) 0 ≡ get_or (nw ∷ ne ∷ sw ∷ se ∷ []) i 0) (known 0 (omega arith) four_at.nw e₀)
        (known 1 (omega arith) four_at.ne e₁) (known 2 (omega arith) four_at.sw e₂) (known 3 (omega arith) four_at.se e₃);
  }
    where
      known : (i : ℕ) {j v : ℕ} → i < 4 → j ≡ place n (c + i) → v ≡ entry_colour map colours j → get_or (coloured colours (nums_of n map)) (c + i) 0 ≡ v
      known i h e k = pixel_colour n map colours (c + i) (omega (arith, o.inside)) ∙ sym (k ∙ ap (entry_colour map colours) e)
