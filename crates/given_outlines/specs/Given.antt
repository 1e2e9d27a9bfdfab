-- Outlines that are given with the colour of each region, and the images and block lists that have them (document 02, request f).
use Rattle.std.specs.Prelude.{◌≡◌, List, [], ◌++◌, map, ℕ, ◌^◌, ◌<◌, length, get_or, take}
use Rattle.std.proofs.Common.{sym, ap, ap₂, ◌∙◌, append-nil}
use Rattle.std.proofs.Math.Seq.{drop-nil}
use Rattle.std.proofs.lemmas.List.{length-map}
use Rattle.sequences.specs.Maps.{get_d_map}
use Rattle.sequences.specs.Over.{over}
use Rattle.quadtree.specs.BlockLists.{BlockList, image_of, number_of}
use Rattle.components.specs.Numbers.{numbers, regions}
use Rattle.components.proofs.Numbered.{length-numbers}
use Rattle.grid.specs.Listing.{Cycle, owners, ends, all_corners, corner_count}
use Rattle.grid.specs.Stretches.{length-ends}
use Rattle.links.specs.Image.{image_outlines}
use Rattle.held.specs.Held.{cycles_held, cycles_read_back}

-- Outlines as lists: the owner and the end of each cycle, the corners of all, and one colour a region.
pub record Outlines : Type 0 where
  pub owner_list : List ℕ
  pub end_list : List ℕ
  pub corner_list : List ℕ
  pub colour_list : List ℕ

abbrev pub outline_lists : List ℕ → List ℕ → List ℕ → List ℕ → Outlines
outline_lists os es cs ks = record { owner_list = os; end_list = es; corner_list = cs; colour_list = ks }

-- "The counts of regions, cycles and corners come in with the lists".
pub record Given : Type 0 where
  pub region_total : ℕ
  pub cycle_total : ℕ
  pub corner_total : ℕ
  pub lists : Outlines

abbrev pub given_as : ℕ → ℕ → ℕ → Outlines → Given
given_as regions cycles corners o = record { region_total = regions; cycle_total = cycles; corner_total = corners; lists = o }

-- The lists up to the counts: "entries beyond them are not looked at".
abbrev pub up_to_counts : Given → Outlines
up_to_counts g = record {
  owner_list = take g.cycle_total g.lists.owner_list;
  end_list = take g.cycle_total g.lists.end_list;
  corner_list = take g.corner_total g.lists.corner_list;
  colour_list = take g.region_total g.lists.colour_list;
}

-- Each region number with the colour that a list has at it.
unfoldable pub coloured : List ℕ → List ℕ → List ℕ
coloured colours nums = map (λ r. get_or colours r 0) nums

-- The image px of side 2^n "has those cycles, owners, ends, corners and region colours": there is one colour for each of its regions, and
-- each pixel has that of its own.
pub record HasOutlines (n : ℕ) (o : Outlines) (px : List ℕ) : Type 0 where
  pub owners_are : owners (image_outlines n px) ≡ o.owner_list
  pub ends_are : ends (image_outlines n px) ≡ o.end_list
  pub corners_are : all_corners (image_outlines n px) ≡ o.corner_list
  pub a_colour_each_lem : regions n px ≡ length o.colour_list
  pub colours_are : px ≡ coloured o.colour_list (numbers n px)

-- It has what is given with counts: these are its own, and it has the lists up to them.
pub record HasGiven (n : ℕ) (g : Given) (px : List ℕ) : Type 0 where
  pub region-count : regions n px ≡ g.region_total
  pub cycle-count : length (image_outlines n px) ≡ g.cycle_total
  pub corner-count : corner_count (image_outlines n px) ≡ g.corner_total
  pub same_up_to_counts : HasOutlines n (up_to_counts g) px

-- An "accepted list of that n" that has it: its image does.
pub record ListHasGiven (n : ℕ) (g : Given) (a : BlockList) : Type 0 where
  pub accepted : number_of n a ≡ 0
  pub has : HasGiven n g (image_of a)

-- The cycles that an owner, an end and a corner list hold, as many as there are ends.
unfoldable pub cycles_in : List ℕ → List ℕ → List ℕ → List Cycle
unfolding cycles_held
cycles_in os es cs = cycles_held os es cs (length es)

abbrev pub cycles_of : Outlines → List Cycle
cycles_of o = cycles_in o.owner_list o.end_list o.corner_list

pub coloured_at : (colours nums : List ℕ) (c : ℕ) → c < length nums → get_or (coloured colours nums) c 0 ≡ get_or colours (get_or nums c 0) 0
unfolding coloured
coloured_at colours nums c h = get_d_map (λ r. get_or colours r 0) nums c 0 0 h

pub length-coloured : (colours nums : List ℕ) → length (coloured colours nums) ≡ length nums
unfolding coloured
length-coloured colours nums = length-map nums (λ r. get_or colours r 0)

over_nothing : (xs : List ℕ) → over xs [] ≡ xs
unfolding over
over_nothing xs = ap (λ t. xs ++ t) (drop-nil (length xs)) ∙ append-nil xs

-- The lists of a listing hold it.
pub listing-held : (l : List Cycle) → cycles_in (owners l) (ends l) (all_corners l) ≡ l
unfolding cycles_in
listing-held l =
    ap (cycles_held (owners l) (ends l) (all_corners l)) (length-ends l)
    ∙ ap₂ (λ os es. cycles_held os es (all_corners l) (length l)) (sym (over_nothing (owners l))) (sym (over_nothing (ends l)))
    ∙ ap (λ cs. cycles_held (over (owners l) []) (over (ends l) []) cs (length l)) (sym (over_nothing (all_corners l)))
    ∙ cycles_read_back l [] [] []

module _ {n : ℕ} {o : Outlines} {px : List ℕ} (has : HasOutlines n o px) where
  pub image_size : length px ≡ 4 ^ n
  image_size = ap length has.colours_are ∙ length-coloured o.colour_list (numbers n px) ∙ length-numbers n px

  -- The lists then hold the outlines of the image.
  pub cycles_are_outlines : cycles_of o ≡ image_outlines n px
  cycles_are_outlines =
      ap₂ (λ os es. cycles_in os es o.corner_list) (sym has.owners_are) (sym has.ends_are)
      ∙ ap (cycles_in (owners (image_outlines n px)) (ends (image_outlines n px))) (sym has.corners_are)
      ∙ listing-held (image_outlines n px)
