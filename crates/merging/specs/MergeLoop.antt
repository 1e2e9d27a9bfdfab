-- The loop that merges a raster: what it needs, what it leaves, what holds at its head.
use Rattle.std.specs.Prelude.{◌≡◌, ℕ, ◌+◌, ◌%◌, ◌^◌, ◌≤◌, ◌<◌, set}
use Rattle.std.proofs.Math.Path.{refl, sym, ap}
use Rattle.std.proofs.Common.{ap₂, ◌∙◌, subst, arith}
use mathlib.Core.List.{List, [], ◌∷◌, ◌++◌, map, append_assoc, append-nil}
use Rattle.std.proofs.Math.ListN.{length, get_or, length-append, length-set}
use Rattle.std.proofs.lemmas.List.{length-map}
use Rattle.sequences.specs.Over.{over, over_none, over_push}
use Rattle.sequences.specs.Powers.{pow4_pos, pow4_mono}
use Rattle.location.specs.Levels.{top_level, side_of, side_is_power, pixels_of, pixels_are_power}
use Rattle.location.specs.TopLevels.{top_level_fits, level_divides}
use Rattle.location.specs.Squares.{square_in_image}
use Rattle.quadtree.specs.Blocks.{Block, pixels}
use Rattle.quadtree.specs.Fields.{codes, levels, colours}
use Rattle.quadtree.specs.Quadtree.{quadtree}
use Rattle.quadtree.specs.Painting.{pixels-quadtree}
use Rattle.quadtree.specs.Raster.{place, in_code_order}
use Rattle.quadtree.specs.Orders.{in_code_order_at, place_in}
use Rattle.quadtree.specs.Merging.{block_from, merged_from, merged_more, merged_end, level_below}
use Rattle.quadtree.specs.Merged.{merged_is_quadtree}
use Rattle.squares.specs.Fours.{four_stored}
use Rattle.squares.specs.Quadrants.{FourPlaces, four_places, level_of_other}

-- A raster of side 2^n.
pub record RasterOf (n : ℕ) (raster : List ℕ) : Type 0 where
  pub small : n ≤ 8
  pub whole : length raster ≡ 4 ^ n

-- A raster, and three lists that have room for its blocks.
pub record BlocksFit (n : ℕ) (raster codes levels colours : List ℕ) : Type 0 where
  pub small : n ≤ 8
  pub whole : length raster ≡ 4 ^ n
  pub for_codes : 4 ^ n ≤ length codes
  pub for_levels : 4 ^ n ≤ length levels
  pub for_colours : 4 ^ n ≤ length colours

pub raster_of : {n : ℕ} {raster codes levels colours : List ℕ} → BlocksFit n raster codes levels colours → RasterOf n raster
raster_of room = record { small = room.small; whole = room.whole }

-- What was written: the blocks of the quadtree, and their number returned.
pub record Merged (n : ℕ) (raster codes₀ levels₀ colours₀ codes₁ levels₁ colours₁ : List ℕ) (count : ℕ) : Type 0 where
  pub number : count ≡ length (quadtree n (in_code_order n raster))
  pub in_codes : codes₁ ≡ over (codes (quadtree n (in_code_order n raster))) codes₀
  pub in_levels : levels₁ ≡ over (levels (quadtree n (in_code_order n raster))) levels₀
  pub in_colours : colours₁ ≡ over (colours (quadtree n (in_code_order n raster))) colours₀

-- At the loop's head: the blocks done and those from the code c on are all of them.
pub record Merging (n : ℕ) (raster codes₀ levels₀ colours₀ codes₁ levels₁ colours₁ : List ℕ) (count c : ℕ) : Type 0 where
  pub ends : c ≤ 4 ^ n
  pub codes_long : length codes₁ ≡ length codes₀
  pub levels_long : length levels₁ ≡ length levels₀
  pub colours_long : length colours₁ ≡ length colours₀
  pub done : List Block
  pub counted : count ≡ length done
  pub few : count ≤ c
  pub in_codes : codes₁ ≡ over (codes done) codes₀
  pub in_levels : levels₁ ≡ over (levels done) levels₀
  pub in_colours : colours₁ ≡ over (colours done) colours₀
  pub total : done ++ merged_from n (in_code_order n raster) c ≡ merged_from n (in_code_order n raster) 0

-- The numbers of one turn.
pub record Turn (n : ℕ) (raster codes₁ levels₁ colours₁ : List ℕ) (count c level : ℕ) : Type 0 where
  pub image : 4 ^ n ≤ 65536
  pub low : level ≤ 8
  pub fits : c + 4 ^ level ≤ 4 ^ n
  pub grows : 0 < 4 ^ level
  pub in_codes : count < length codes₁
  pub in_levels : count < length levels₁
  pub in_colours : count < length colours₁

-- The numbers of a turn that writes four single pixels from the code c on, the first at the place `at` in rows of w.
pub record FourTurn (raster codes₁ levels₁ colours₁ : List ℕ) (count c at w : ℕ) : Type 0 where
  pub few : count ≤ c
  pub small : c + 4 ≤ 65536
  pub in_codes : count + 3 < length codes₁
  pub in_levels : count + 3 < length levels₁
  pub in_colours : count + 3 < length colours₁
  pub in_raster : at + w + 1 < length raster
  pub low : at + w + 1 < 65536
  pub on : c + 4 ≤ length raster

map_one_more : {A : Type 0} (f : A → ℕ) (l : List A) (b : A) → map f (l ++ (b ∷ [])) ≡ map f l ++ (f b ∷ [])
map_one_more f [] b = refl
map_one_more f (a ∷ l) b = ap (λ (t : List ℕ). f a ∷ t) (map_one_more f l b)

-- One block's field stored past those of the blocks done.
push_field : (f : Block → ℕ) (done : List Block) (b : Block) (list old : List ℕ) (v count : ℕ)
    → list ≡ over (map f done) old → v ≡ f b → count ≡ length done → count < length old → set list count v ≡ over (map f (done ++ (b ∷ []))) old
push_field f done b list old v count e h k r =
    ap₂ (λ (l : List ℕ) (x : ℕ). set l count x) e h ∙ over_push (map f done) old (f b) count (k ∙ sym (length-map done f)) r
    ∙ ap (λ (l : List ℕ). over l old) (sym (map_one_more f done b))

module _ {n : ℕ} {raster codes₀ levels₀ colours₀ : List ℕ} (room : BlocksFit n raster codes₀ levels₀ colours₀) where
  pub merging_none : Merging n raster codes₀ levels₀ colours₀ codes₀ levels₀ colours₀ 0 0
  merging_none = record {
    ends = omega arith;
    codes_long = refl;
    levels_long = refl;
    colours_long = refl;
    done = [];
    counted = refl;
    few = omega arith;
    in_codes = sym (over_none codes₀);
    in_levels = sym (over_none levels₀);
    in_colours = sym (over_none colours₀);
    total = refl;
  }

  module _ {codes₁ levels₁ colours₁ : List ℕ} {count c : ℕ} (m : Merging n raster codes₀ levels₀ colours₀ codes₁ levels₁ colours₁ count c) where
    module _ (inside : c < length raster) where
      pub in_image : c < 4 ^ n
      in_image = omega (arith, room.whole)

      pub turn : {level : ℕ} → level ≡ (block_from n (in_code_order n raster) c).level → Turn n raster codes₁ levels₁ colours₁ count c level
      unfolding block_from
      turn {level} e =
          let px = in_code_order n raster in
          let fits = top_level_fits n c in_image in
          let low = level_below px c (top_level n c) in
          record {
            image = pow4_mono room.small;
            low = omega (arith, e, room.small);
            fits = omega (arith, pow4_mono low, ap (λ (k : ℕ). 4 ^ k) e);
            grows = pow4_pos level;
            in_codes = omega (arith, in_image, m.few, room.for_codes, m.codes_long);
            in_levels = omega (arith, in_image, m.few, room.for_levels, m.levels_long);
            in_colours = omega (arith, in_image, m.few, room.for_colours, m.colours_long);
          }

      -- The pixels of the next block.
      pub next-pixels : {level added : ℕ} → level ≡ (block_from n (in_code_order n raster) c).level → added ≡ pixels_of level → added ≡ 4 ^ level
      next-pixels {level} {added} e a = a ∙ pixels_are_power level (omega (arith, (turn e).low))

      pub merging_more : {level colour : ℕ} → level ≡ (block_from n (in_code_order n raster) c).level → colour ≡ get_or raster (place n c) 0
          → Merging n raster codes₀ levels₀ colours₀ (set codes₁ count c) (set levels₁ count level) (set colours₁ count colour) (count + 1) (c + 4 ^ level)
      unfolding block_from
      merging_more {level} {colour} el ek =
          let px = in_code_order n raster in
          let b = block_from n px c in
          let same : colour ≡ b.colour = ek ∙ sym (in_code_order_at n raster c in_image) in
          let t = turn el in
          let fewer : count < 4 ^ n = omega (arith, in_image, m.few) in
          record {
            ends = t.fits;
            codes_long = length-set codes₁ count c ∙ m.codes_long;
            levels_long = length-set levels₁ count level ∙ m.levels_long;
            colours_long = length-set colours₁ count colour ∙ m.colours_long;
            done = m.done ++ (b ∷ []);
            counted = omega (arith, length-append m.done (b ∷ []), m.counted);
            few = omega (arith, m.few, t.grows);
            in_codes = push_field (λ (a : Block). a.code) m.done b codes₁ codes₀ c count m.in_codes refl m.counted (omega (arith, room.for_codes));
            in_levels = push_field (λ (a : Block). a.level) m.done b levels₁ levels₀ level count m.in_levels el m.counted (omega (arith, room.for_levels));
            in_colours = push_field (λ (a : Block). a.colour) m.done b colours₁ colours₀ colour count m.in_colours same m.counted (omega (arith, room.for_colours));
            total =
                ap (λ (k : ℕ). (m.done ++ (b ∷ [])) ++ merged_from n px (c + 4 ^ k)) el
                ∙ append_assoc m.done (b ∷ []) (merged_from n px (c + 4 ^ b.level))
                ∙ ap (λ (l : List Block). m.done ++ l) (sym (merged_more n px c in_image)) ∙ m.total;
          }

    pub merged : length raster ≤ c → Merged n raster codes₀ levels₀ colours₀ codes₁ levels₁ colours₁ count
    merged past =
        let px = in_code_order n raster in
        let all : m.done ≡ quadtree n px =
        sym (append-nil m.done) ∙ ap (λ (l : List Block). m.done ++ l) (sym (merged_end n px c (omega (arith, room.whole)))) ∙ m.total ∙ merged_is_quadtree n px room.small in
        record {
          number = m.counted ∙ ap length all;
          in_codes = m.in_codes ∙ ap (λ (l : List Block). over (codes l) codes₀) all;
          in_levels = m.in_levels ∙ ap (λ (l : List Block). over (levels l) levels₀) all;
          in_colours = m.in_colours ∙ ap (λ (l : List Block). over (colours l) colours₀) all;
        }

  -- A single pixel written, its colour read at its place.
  merging_single : {codes₁ levels₁ colours₁ : List ℕ} {count c colour : ℕ} (m : Merging n raster codes₀ levels₀ colours₀ codes₁ levels₁ colours₁ count c)
      (count' c' : ℕ) → count + 1 ≡ count' → c + 1 ≡ c' → c < length raster → 0 ≡ (block_from n (in_code_order n raster) c).level → colour ≡ get_or raster (place n c) 0
      → Merging n raster codes₀ levels₀ colours₀ (set codes₁ count c) (set levels₁ count 0) (set colours₁ count colour) count' c'
  merging_single {codes₁} {levels₁} {colours₁} {count} {c} {colour} m count' c' e f inside el ek =
      let next : c + 4 ^ 0 ≡ c' = f in
      subst (λ (k : ℕ). Merging n raster codes₀ levels₀ colours₀ (set codes₁ count c) (set levels₁ count 0) (set colours₁ count colour) k c') e
      (subst (Merging n raster codes₀ levels₀ colours₀ (set codes₁ count c) (set levels₁ count 0) (set colours₁ count colour) (count + 1)) next (merging_more m inside el ek))

  -- A code that is no multiple of 4 has a single pixel.
  single_after : (c : ℕ) → (c % 4 ≡ 0 → ⊥) → 0 ≡ (block_from n (in_code_order n raster) c).level
  unfolding block_from
  single_after c h =
      let top : top_level n c ≡ 0 = level_of_other c (top_level n c) (level_divides n c) h in
      omega (arith, level_below (in_code_order n raster) c (top_level n c))

  -- Four single pixels from a multiple of 4 on, at the place `at` in rows of w.
  module _ {codes₁ levels₁ colours₁ : List ℕ} {count c level at w : ℕ} (m : Merging n raster codes₀ levels₀ colours₀ codes₁ levels₁ colours₁ count c) (inside : c < length raster)
      (el : level ≡ (block_from n (in_code_order n raster) c).level) (ea : at ≡ place n c) (ew : w ≡ side_of n) (first : level + c % 4 ≡ 0) (some : 0 < n) where
    multiple : c % 4 ≡ 0
    multiple = omega arith

    places : FourPlaces n c
    places = four_places n c some (in_image m inside) multiple

    wide : w ≡ 2 ^ n
    wide = ew ∙ side_is_power n (omega (arith, room.small))

    four_inside : c + 4 ≤ 4 ^ n
    four_inside = (square_in_image n 1 c some (in_image m inside) multiple).2

    pub four_turn : FourTurn raster codes₁ levels₁ colours₁ count c at w
    four_turn = record {
      few = m.few;
      small = omega (arith, four_inside, pow4_mono room.small);
      in_codes = omega (arith, four_inside, m.few, room.for_codes, m.codes_long);
      in_levels = omega (arith, four_inside, m.few, room.for_levels, m.levels_long);
      in_colours = omega (arith, four_inside, m.few, room.for_colours, m.colours_long);
      in_raster = omega (arith, ea, wide, places.southeast, place_in n (c + 3), room.whole);
      low = omega (arith, ea, wide, places.southeast, place_in n (c + 3), pow4_mono room.small);
      on = omega (arith, four_inside, room.whole);
    }

    pub merging_four : {codes₂ levels₂ colours₂ : List ℕ} → codes₂ ≡ four_stored 2 count c (c + 1) (c + 2) (c + 3) codes₁ → levels₂ ≡ four_stored 2 count 0 0 0 0 levels₁
        → colours₂ ≡ four_stored 2 count (get_or raster at 0) (get_or raster (at + 1) 0) (get_or raster (at + w) 0) (get_or raster (at + w + 1) 0) colours₁
        → Merging n raster codes₀ levels₀ colours₀ codes₂ levels₂ colours₂ (count + 4) (c + 4)
    unfolding four_stored
    merging_four {codes₂} {levels₂} {colours₂} ec els ek =
        let within : (k : ℕ) → k < 4 → c + k < length raster = λ k h. omega (arith, four_inside, room.whole) in
        let read : (p k : ℕ) → p ≡ place n (c + k) → get_or raster p 0 ≡ get_or raster (place n (c + k)) 0 = λ p k e. ap (λ (j : ℕ). get_or raster j 0) e in
        let nw = merging_single m (count + 1) (c + 1) refl refl inside (omega (arith, el)) (ap (λ (j : ℕ). get_or raster j 0) ea) in
        let ne = merging_single nw (count + 2) (c + 2) (omega arith) (omega arith) (within 1 (omega arith)) (single_after (c + 1) (λ h. omega (arith, multiple))) (read (at + 1) 1 (omega (arith, ea, places.east))) in
        let sw = merging_single ne (count + 2 + 1) (c + 3) refl (omega arith) (within 2 (omega arith)) (single_after (c + 2) (λ h. omega (arith, multiple))) (read (at + w) 2 (omega (arith, ea, wide, places.south))) in
        let se = merging_single sw (count + 4) (c + 4) (omega arith) (omega arith) (within 3 (omega arith)) (single_after (c + 3) (λ h. omega (arith, multiple))) (read (at + w + 1) 3 (omega (arith, ea, wide, places.southeast))) in
        rw (ec, els, ek) se

blocks_few : (bs : List Block) → length bs ≤ pixels bs
unfolding pixels
blocks_few [] = omega arith
blocks_few (b ∷ bs) = omega (arith, blocks_few bs, pow4_pos b.level)

-- An image has no more blocks than pixels.
pub merged_few : {n : ℕ} {raster codes₀ levels₀ colours₀ codes₁ levels₁ colours₁ : List ℕ} {count : ℕ} → n ≤ 8
    → Merged n raster codes₀ levels₀ colours₀ codes₁ levels₁ colours₁ count → count ≤ 65536
merged_few {n} {raster} small m =
    omega (arith, m.number, blocks_few (quadtree n (in_code_order n raster)), pixels-quadtree n (in_code_order n raster), pow4_mono small)
