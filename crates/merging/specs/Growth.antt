-- The loop that lets a block grow from its first pixel: what holds at its head.
use Rattle.std.specs.Prelude.{◌≡◌, Bool, true, false, List, ℕ, ◌+◌, ◌%◌, ◌^◌, ◌≤◌, ◌<◌, length, get_or}
use Rattle.std.proofs.Math.Path.{sym, subst}
use Rattle.std.proofs.Common.{ap, ◌∙◌, arith}
use Rattle.sequences.specs.Powers.{pow4_mono}
use Rattle.location.specs.Levels.{top_level, side_of, side_is_power}
use Rattle.location.specs.TopLevels.{top_level_fits, level_divides}
use Rattle.location.specs.Places.{place_of}
use Rattle.quadtree.specs.Quadtree.{alike}
use Rattle.quadtree.specs.Raster.{place, in_code_order}
use Rattle.quadtree.specs.Orders.{in_code_order_at, place_in, place_worked_out}
use Rattle.quadtree.specs.Merging.{block_from}
use Rattle.squares.specs.Quadrants.{lower_multiple}
use Rattle.uniform.specs.Growing.{level_reached, level_stopped, one_pixel}
use Rattle.uniform.specs.Others.{OthersFit, beside_alike, others_fit, others_by_codes}
use Rattle.merging.specs.MergeLoop.{RasterOf}

-- A block of level l and colour v at the code c, which lies at the place `at` in rows of w.
pub record Growth (n : ℕ) (raster : List ℕ) (c top w at v l : ℕ) : Type 0 where
  pub highest : top ≡ top_level n c
  pub wide : w ≡ 2 ^ n
  pub here : at ≡ place n c
  pub colour : v ≡ get_or (in_code_order n raster) c 0
  pub within : l ≤ top
  pub one_colour_lem : alike (in_code_order n raster) (get_or (in_code_order n raster) c 0) c (4 ^ l) ≡ true

module _ {n : ℕ} {raster : List ℕ} {c : ℕ} (whole : RasterOf n raster) (inside : c < 4 ^ n) where
  pub code_placed : {at : ℕ} → at ≡ place_of n c → at ≡ place n c
  code_placed e = e ∙ place_worked_out n c (omega (arith, whole.small)) inside

  pub place_read : {at : ℕ} → at ≡ place n c → at < length raster
  place_read {at} e = omega (arith, e, place_in n c, whole.whole)

  pub place_low : {at : ℕ} → at ≡ place n c → at < 65536
  place_low {at} e = omega (arith, place_read e, whole.whole, pow4_mono whole.small)

  pub growth_none : {top w at v : ℕ} → top ≡ top_level n c → w ≡ side_of n → at ≡ place n c → v ≡ get_or raster at 0 → Growth n raster c top w at v 0
  growth_none {top} {w} {at} {v} et ew ea ev = record {
    highest = et;
    wide = ew ∙ side_is_power n (omega (arith, whole.small));
    here = ea;
    colour = ev ∙ ap (λ (i : ℕ). get_or raster i 0) ea ∙ sym (in_code_order_at n raster c inside);
    within = omega arith;
    one_colour_lem = one_pixel (in_code_order n raster) c;
  }

  module _ {top w at v l s : ℕ} (g : Growth n raster c top w at v l) (more : l < top) (es : s ≡ side_of l) where
    level : l + 1 ≤ n
    level = omega (arith, g.highest, top_level_fits n c inside)

    multiple : c % 4 ^ (l + 1) ≡ 0
    multiple = lower_multiple c (l + 1) (top_level n c) (omega (arith, g.highest)) (level_divides n c)

    side : s ≡ 2 ^ l
    side = es ∙ side_is_power l (omega (arith, level, whole.small))

    pub growth_fits : OthersFit (length raster) w at s
    growth_fits = rw (g.wide, g.here, side) (others_fit n l c level inside multiple whole.small (length raster) whole.whole)

    by_codes : beside_alike raster v w at s
        ≡ alike (in_code_order n raster) (get_or (in_code_order n raster) c 0) c (4 ^ (l + 1))
    by_codes = rw (g.wide, g.here, side, g.colour) (others_by_codes n l c level inside multiple raster (get_or (in_code_order n raster) c 0) g.one_colour_lem)

    pub growth_more : {r : Bool} → r ≡ beside_alike raster v w at s → r ≡ true
        → Growth n raster c top w at v (l + 1)
    growth_more {r} e h = record {
      highest = g.highest;
      wide = g.wide;
      here = g.here;
      colour = g.colour;
      within = omega arith;
      one_colour_lem = sym by_codes ∙ sym e ∙ h;
    }

    pub growth_stops : {r : Bool} → r ≡ beside_alike raster v w at s → r ≡ false
        → l ≡ (block_from n (in_code_order n raster) c).level
    unfolding block_from
    growth_stops {r} e h =
        level_stopped (in_code_order n raster) c l (top_level n c) (omega (arith, g.highest)) g.one_colour_lem (sym by_codes ∙ sym e ∙ h)

  pub growth_full : {top w at v l : ℕ} → Growth n raster c top w at v l → top ≤ l → l ≡ (block_from n (in_code_order n raster) c).level
  unfolding block_from
  growth_full {top} {w} {at} {v} {l} g h =
      let e : l ≡ top_level n c = omega (arith, g.within, g.highest) in
      subst (λ (k : ℕ). k ≡ (block_from n (in_code_order n raster) c).level) (sym e)
      (level_reached (in_code_order n raster) c (top_level n c) (subst (λ (k : ℕ). alike (in_code_order n raster) (get_or (in_code_order n raster) c 0) c (4 ^ k) ≡ true) e g.one_colour_lem))
