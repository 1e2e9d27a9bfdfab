-- The outlines of an image: their listing goes region by region, each region has a cycle, and a text of 26 times 4^n bytes holds its lines.
use Rattle.std.specs.Prelude.{◌≡◌, refl, ℕ, ◌*◌, ◌^◌, ◌≤◌, ◌<◌, length, get_or}
use Rattle.std.proofs.Common.{sym, ap, ◌∙◌, arith}
use Rattle.std.proofs.Math.Path.{subst}
use mathlib.Core.List.{List, [], ◌∷◌, ◌++◌, map, flat_map, map-append}
use Rattle.std.proofs.Math.ListN.{length-map}
use Rattle.sequences.specs.Ranges.{range}
use Rattle.orbits.specs.Members.{In, in_first, in_later}
use Rattle.grid.specs.Listing.{Cycle, cycle_at, starts, start_codes, listing, cycle_count, corner_count}
use Rattle.grid.specs.Keeping.{in_starts}
use Rattle.grid.specs.Starting.{says_start}
use Rattle.grid.specs.Outer.{LeastPixel, least_pixel, least_starts}
use Rattle.grid.specs.Bounds.{cycles_fit, corner-count_fits}
use Rattle.grid.specs.Forms.{listed_is_cycle_form}
use Rattle.components.specs.Numbers.{numbers, regions}
use Rattle.components.proofs.Numbered.{each_number_given}
use Rattle.links.specs.Image.{image_outlines}
use Rattle.lines.specs.Lines.{lines, by_cycles, AllOf, Forms, Regionwise, each_form, cycles_give_lines, cycles_need, cycles_need_suffices}

-- "one line a region": the whole text of the image.
unfoldable pub image_text : ℕ → List ℕ → List ℕ
unfolding lines regions listing numbers
image_text n px = lines (regions n px) (image_outlines n px)

map-flat : (f : ℕ → Cycle) (g : ℕ → List ℕ) (xs : List ℕ) → map f (flat_map g xs) ≡ flat_map (λ x. map f (g x)) xs
unfolding flat_map
map-flat f g [] = refl
map-flat f g (x ∷ xs) = map-append f (g x) (flat_map g xs) ∙ ap (λ (l : List Cycle). map f (g x) ++ l) (map-flat f g xs)

module _ (n : ℕ) (nums : List ℕ) where
  region_cycles : ℕ → List Cycle
  region_cycles r = map (cycle_at n nums) (starts n nums r)

  by_region : (count : ℕ) → listing n nums count ≡ flat_map region_cycles (range 0 count)
  unfolding listing start_codes region_cycles
  by_region count = map-flat (cycle_at n nums) (starts n nums) (range 0 count)

  owned : (r : ℕ) (cs : List ℕ) → ((c : ℕ) → In c cs → get_or nums c 0 ≡ r) → AllOf r (map (cycle_at n nums) cs)
  unfolding cycle_at
  owned r [] h = tt
  owned r (c ∷ cs) h = (h c (in_first c cs), owned r cs (λ d i. h d (in_later d c cs i)))

  -- A region of the image has a cycle: one starts at its least pixel.
  starts_some : n ≤ 8 → (r d : ℕ) → d < 4 ^ n → get_or nums d 0 ≡ r → 0 < length (starts n nums r)
  starts_some small r d h e = from (least_pixel n nums d h)
    where
      from : (c : ℕ) × (get_or nums c 0 ≡ get_or nums d 0) × LeastPixel n nums c → 0 < length (starts n nums r)
      from (c, q, p) =
          let i : In c (starts n nums r) = (in_starts n nums r c).1 (p.inside, q ∙ e, says_start n nums small c (least_starts n nums small c p)) in
          omega (arith, i.1)

module _ (n : ℕ) (px : List ℕ) (small : n ≤ 8) where
  regionwise : Regionwise (region_cycles n (numbers n px)) 0 (regions n px)
  unfolding region_cycles
  regionwise r a h =
      let f = each_number_given n px r (omega arith) in (
        omega (arith, length-map (starts n (numbers n px) r) (cycle_at n (numbers n px)), starts_some n (numbers n px) small r f.pixel f.first.inside f.value),
        owned n (numbers n px) r (starts n (numbers n px) r) (λ c i. ((in_starts n (numbers n px) r c).0 i).1),
      )

  -- The lines of an image are its outlines, cycle after cycle, with LF where the next is of another region or none is left.
  pub lines_by_cycles : by_cycles (image_outlines n px) ≡ image_text n px
  unfolding image_text lines
  lines_by_cycles =
      subst (λ (l : List Cycle). by_cycles l ≡ lines (regions n px) l) (sym (by_region n (numbers n px) (regions n px)))
      (cycles_give_lines (region_cycles n (numbers n px)) 0 (regions n px) regionwise)

  pub outline_forms : Forms (image_outlines n px)
  outline_forms = each_form (listing n (numbers n px) (regions n px)) (listed_is_cycle_form n (numbers n px) (regions n px) small)

  -- 9 a cycle, 4 a corner and 1 a line: at most 4^n cycles, 4 times 4^n corners and not more lines than cycles.
  pub outlines_need : cycles_need (image_outlines n px) ≤ 26 * 4 ^ n
  unfolding cycles_need cycle_count corner_count
  outlines_need = omega (arith, cycles_fit n (numbers n px) (regions n px), corner-count_fits n (numbers n px) (regions n px) small)

  pub image_text_fits : length (image_text n px) ≤ 26 * 4 ^ n
  image_text_fits = omega (arith, ap length lines_by_cycles, cycles_need_suffices (image_outlines n px) outline_forms, outlines_need)
