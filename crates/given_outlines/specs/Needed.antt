-- What the outlines of every image have: where one of these fails there is no such image, and a check may refuse at once.
use Rattle.std.specs.Prelude.{◌≡◌, List, ℕ, ◌*◌, ◌^◌, ◌≤◌, ◌<◌, length, get_or}
use Rattle.std.proofs.Common.{sym, arith}
use Rattle.components.specs.Numbers.{numbers, regions}
use Rattle.components.proofs.Numbered.{number-below-regions, regions_at_most_pixels}
use Rattle.grid.specs.Map.{region_at}
use Rattle.grid.specs.Margins.{region-inside}
use Rattle.grid.specs.Listing.{Cycle, start_codes, owners, cycle_count, corner_count}
use Rattle.grid.specs.Listed.{SidesOnce, listing-length, owner_at, start_at, each_side_once}
use Rattle.grid.specs.Bounds.{cycles_fit, corner-count_fits}
use Rattle.links.specs.Image.{image_outlines}
use Rattle.given_outlines.specs.Given.{Outlines, HasOutlines, cycles_of, cycles_are_outlines}
use Rattle.given_outlines.specs.Candidate.{region_from}
use Rattle.given_outlines.specs.Complete.{region_from_edges}

-- No image of side 2^n with so many regions has these cycles as its outlines.
abbrev pub NoImage : ℕ → ℕ → List Cycle → Type 0
NoImage n count l = (px : List ℕ) → regions n px ≡ count → image_outlines n px ≡ l → ⊥

-- Then none has the outlines that hold them.
pub none_has : {n : ℕ} {o : Outlines} → NoImage n (length o.colour_list) (cycles_of o) → (px : List ℕ) → HasOutlines n o px → ⊥
none_has none px has = none px has.a_colour_each_lem (sym (cycles_are_outlines has))

module _ {n : ℕ} (px : List ℕ) (small : n ≤ 8) where
  abbrev l : List Cycle
  l = image_outlines n px

  -- The counts are no larger than the image allows.
  pub few_regions : regions n px ≤ 4 ^ n
  few_regions = regions_at_most_pixels n px

  pub few_cycles : length (image_outlines n px) ≤ 4 ^ n
  unfolding cycle_count
  few_cycles = cycles_fit n (numbers n px) (regions n px)

  pub few_corners : corner_count (image_outlines n px) ≤ 4 * 4 ^ n
  few_corners = corner-count_fits n (numbers n px) (regions n px) small

  -- Owners are region numbers.
  pub owner-below : (k : ℕ) → k < length (image_outlines n px) → get_or (owners (image_outlines n px)) k 0 < regions n px
  owner-below k h =
      let s : k < length (start_codes n (numbers n px) (regions n px)) = omega (arith, listing-length n (numbers n px) (regions n px)) in
      omega (
        arith,
        owner_at n (numbers n px) (regions n px) k s,
        number-below-regions n px (get_or (start_codes n (numbers n px) (regions n px)) k 0) (start_at n (numbers n px) (regions n px) small k h).inside,
      )

  pub sides_once : SidesOnce (region_at n (numbers n px)) (image_outlines n px)
  sides_once = each_side_once n (numbers n px) (regions n px) small (number-below-regions n px)

  -- Every pixel has a region: there is a northward edge at it or west of it.
  pub region_told : (x y : ℕ) → x < 2 ^ n → y < 2 ^ n → 0 < region_from (image_outlines n px) y x
  region_told x y a b =
      omega (arith, region_from_edges n (numbers n px) small l sides_once x y a b, region-inside n (numbers n px) x y a b)
