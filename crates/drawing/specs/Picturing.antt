-- From a raster to its lines: what is asked at each step, and what each step says.
use Rattle.std.specs.Prelude.{◌≡◌, List, ℕ, ◌*◌, ◌^◌, ◌≤◌, take, drop}
use Rattle.std.proofs.Common.{sym, ◌∙◌, subst, arith, length-take}
use Rattle.std.proofs.Math.Path.{ap}
use Rattle.std.proofs.Math.ListN.{length, length-append}
use Rattle.sequences.specs.Cases.{if_accepted}
use Rattle.sequences.specs.Over.{over}
use Rattle.sequences.specs.Powers.{pow4_mono}
use Rattle.quadtree.specs.Blocks.{blocks, paint}
use Rattle.quadtree.specs.Number.{number}
use Rattle.quadtree.specs.Raster.{in_code_order}
use Rattle.quadtree.specs.Orders.{length_in_code_order}
use Rattle.answers.specs.declared.Written.{Written}
use Rattle.answers.specs.Answers.{Writes}
use Rattle.block_answers.specs.BlockWriters.{number_answered, merged_paints}
use Rattle.merging.specs.Promise.{FromRaster, raster_accepted}
use Rattle.merging.specs.Callers.{merged_accepted}
use Rattle.grid.specs.Listing.{owners, ends, all_corners}
use Rattle.grid.specs.Stretches.{length-owners}
use Rattle.answers.specs.Put.{Put}
use Rattle.lines.specs.Lines.{by_cycles}
use Rattle.links.specs.Image.{image_outlines}
use Rattle.drawing.specs.Outlines.{image_text, lines_by_cycles, outline_forms, outlines_need}
use Rattle.held.specs.Held.{cycles_held, cycles_read_back}
use Rattle.lines.specs.Writing.{Drawable}

-- What is asked for the lines of a raster: a side of at most 64, and a text list of at least the need.
pub record RasterFits (n : ℕ) (raster text : List ℕ) : Type 0 where
  pub low : n ≤ 6
  pub whole : length raster ≡ 4 ^ n
  pub enough : 26 * 4 ^ n ≤ length text

-- What is asked for the lines of a block list: it is accepted, and has at most as many blocks.
pub record Traceable (n : ℕ) (cs ls ks text : List ℕ) : Type 0 where
  pub low : n ≤ 6
  pub few : length cs ≤ 4096
  pub accepted : number n cs ls ks ≡ 0
  pub enough : 26 * 4 ^ n ≤ length text

-- A side of at most 64 has at most 4,096 pixels.
pub few_pixels : {n : ℕ} → n ≤ 6 → 4 ^ n ≤ 4096
few_pixels {n} h = pow4_mono {i = n} {j = 6} h

-- No more is counted than the list holds.
count_within : {number : ℕ} {new old now : List ℕ} {r : Written} → Writes number new old now r → r.count ≤ length now
unfolding over
count_within {number} {new} {old} w =
    omega (arith, w.count_is, ap length w.list, length-append (if_accepted number new) (drop (length (if_accepted number new)) old))

module _ {n : ℕ} {raster cs ls ks cs₁ ls₁ ks₁ : List ℕ} {r : Written} (p : FromRaster n raster cs ls ks cs₁ ls₁ ks₁ r) where
  pub count_in_codes : r.count ≤ length cs₁
  count_in_codes = count_within p.writes.in_codes

  pub count_in_levels : r.count ≤ length ls₁
  count_in_levels = count_within p.writes.in_levels

  pub count_in_colours : r.count ≤ length ks₁
  count_in_colours = count_within p.writes.in_colours

-- The quadtree of the raster is merged into lists that have room for it.
module _ {n : ℕ} {raster text cs ls ks cs₁ ls₁ ks₁ : List ℕ} {r : Written} (d : RasterFits n raster text) (p : FromRaster n raster cs ls ks cs₁ ls₁ ks₁ r)
    (a : 4096 ≤ length cs) (b : 4096 ≤ length ls) (c : 4096 ≤ length ks) where
  merged_zero : r.number ≡ 0
  merged_zero =
      let few : 4 ^ n ≤ 4096 = few_pixels d.low in
      number_answered p.writes
      ∙ sym (raster_accepted n raster cs ls ks (omega (arith, d.low)) d.whole (omega arith) (omega arith) (omega arith))

  pub merged_traceable : length cs₁ ≤ 4096 → Traceable n (take r.count cs₁) (take r.count ls₁) (take r.count ks₁) text
  merged_traceable h =
      record { low = d.low; few = omega (arith, length-take r.count cs₁); accepted = merged_accepted p merged_zero; enough = d.enough }

  -- It paints the raster's image.
  merged_image : paint (blocks (take r.count cs₁) (take r.count ls₁) (take r.count ks₁)) ≡ in_code_order n raster
  merged_image = merged_paints n (in_code_order n raster) p.writes merged_zero (length_in_code_order n raster)

  pub merged_drawn : {text₁ text' : List ℕ} {k : ℕ} → Put (image_text n (paint (blocks (take r.count cs₁) (take r.count ls₁) (take r.count ks₁)))) text₁ text' k
      → Put (image_text n (in_code_order n raster)) text₁ text' k
  merged_drawn {text₁} {text'} {k} q = subst (λ (px : List ℕ). Put (image_text n px) text₁ text' k) merged_image q

-- The lists of a tracing, before (os₀, es₀, cs₀) and after, hold the outlines of an image.
pub record OutlinesHeld (n : ℕ) (px os₀ es₀ cs₀ os es cs : List ℕ) (count : ℕ) : Type 0 where
  pub counted : count ≡ length (image_outlines n px)
  pub in_owners : os ≡ over (owners (image_outlines n px)) os₀
  pub in_ends : es ≡ over (ends (image_outlines n px)) es₀
  pub in_corners : cs ≡ over (all_corners (image_outlines n px)) cs₀

module _ {n : ℕ} {px os₀ es₀ cs₀ os es cs : List ℕ} {count : ℕ} (small : n ≤ 8) (o : OutlinesHeld n px os₀ es₀ cs₀ os es cs count) where
  held : cycles_held os es cs count ≡ image_outlines n px
  held = rw (o.counted, o.in_owners, o.in_ends, o.in_corners) (cycles_read_back (image_outlines n px) os₀ es₀ cs₀)

  pub drawable : {text : List ℕ} → 26 * 4 ^ n ≤ length text → Drawable os es cs count text
  unfolding over
  drawable {text} h =
      record {
        owned = omega (arith, o.counted, ap length o.in_owners, length-append (owners (image_outlines n px)) (drop (length (owners (image_outlines n px))) os₀), length-owners (image_outlines n px));
        forms = rw held (outline_forms n px small);
        enough = rw held (omega (arith, outlines_need n px small));
      }

  pub drawn : {text text' : List ℕ} {r : ℕ} → Put (by_cycles (cycles_held os es cs count)) text text' r → Put (image_text n px) text text' r
  drawn {text} {text'} {r} p = subst (λ (l : List ℕ). Put l text text' r) (ap by_cycles held ∙ lines_by_cycles n px small) p
