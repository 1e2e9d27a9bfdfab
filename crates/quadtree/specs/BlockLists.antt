-- A block list as one: its three lists, its blocks, its image; and three lists that a block list is written to.
use Rattle.std.specs.Prelude.{◌≡◌, refl, Bool, ◌||◌, List, ℕ, ◌^◌, ◌≤◌, ◌<◌, min, length, ltb}
use Rattle.std.proofs.Common.{◌∙◌, arith, lt-ltb, le-ltb}
use Rattle.std.proofs.Math.Decide.{dec_lt}
use Rattle.quadtree.specs.Blocks.{Block, blocks, paint}
use Rattle.quadtree.specs.Number.{number}
use Rattle.quadtree.specs.Covering.{Covers, covers_of_zero, pixels_covering}
use Rattle.quadtree.specs.Painting.{length-paint}
use Rattle.quadtree.specs.Accepted.{number-zero}
use Rattle.quadtree.specs.Lists.{EqualLengths}

-- "codes, levels, colours" (document 01): three lists, of any lengths.
pub record BlockList : Type 0 where
  pub codes : List ℕ
  pub levels : List ℕ
  pub colours : List ℕ

abbrev pub list_of : List ℕ → List ℕ → List ℕ → BlockList
list_of cs ls ks = record { codes = cs; levels = ls; colours = ks }

-- The blocks of a block list, its image, and its number: 0 where it is accepted, else 1 to 7.
abbrev pub blocks_of : BlockList → List Block
blocks_of a = blocks a.codes a.levels a.colours

abbrev pub image_of : BlockList → List ℕ
image_of a = paint (blocks_of a)

abbrev pub number_of : ℕ → BlockList → ℕ
number_of n a = number n a.codes a.levels a.colours

-- A block list that covers its image.
pub record Covering (n : ℕ) (a : BlockList) : Type 0 where
  pub long : EqualLengths a.codes a.levels a.colours
  pub covers : Covers n 0 (blocks_of a)

pub accepted_covers : (n : ℕ) (a : BlockList) → number_of n a ≡ 0 → Covering n a
accepted_covers n a h =
    let p = number-zero n a.codes a.levels a.colours h in
    record {
      long = record { levels_too = p.equal_levels; colours_too = p.equal_colours };
      covers = covers_of_zero n 0 (blocks_of a) (omega arith) p.covering;
    }

pub length_image : (n : ℕ) (a : BlockList) → Covering n a → length (image_of a) ≡ 4 ^ n
length_image n a f = omega (arith, length-paint (blocks_of a), pixels_covering n 0 (blocks_of a) f.covers)

-- ---- lengths

-- 8, "a lent list shorter than its need", for three lists that need k entries each, by their lengths.
unfoldable pub one_short : ℕ → ℕ → ℕ → ℕ → Bool
one_short k codes levels colours = ltb codes k || (ltb levels k || ltb colours k)

-- One of them is too short exactly where the shortest is.
pub short_by_least : (k cs ls ks : ℕ) → one_short k cs ls ks ≡ ltb (min cs (min ls ks)) k
unfolding one_short
short_by_least k cs ls ks = pick (dec_lt cs k) (dec_lt ls k) (dec_lt ks k)
  where
    pick : Dec (cs < k) → Dec (ls < k) → Dec (ks < k) → ltb cs k || (ltb ls k || ltb ks k) ≡ ltb (min cs (min ls ks)) k
    pick (yes a) b c = rw (lt-ltb cs k a, lt-ltb (min cs (min ls ks)) k (omega arith)) refl
    pick (no a) (yes b) c = rw (le-ltb cs k (omega arith), lt-ltb ls k b, lt-ltb (min cs (min ls ks)) k (omega arith)) refl
    pick (no a) (no b) (yes c) = rw (le-ltb cs k (omega arith), le-ltb ls k (omega arith), lt-ltb ks k c, lt-ltb (min cs (min ls ks)) k (omega arith)) refl
    pick (no a) (no b) (no c) =
        rw (le-ltb cs k (omega arith), le-ltb ls k (omega arith), le-ltb ks k (omega arith), le-ltb (min cs (min ls ks)) k (omega arith)) refl

-- The length of the shortest of three lists.
abbrev pub least_length : BlockList → ℕ
least_length lists = min (length lists.codes) (min (length lists.levels) (length lists.colours))

abbrev pub is_too_short : ℕ → BlockList → Bool
is_too_short k lists = one_short k (length lists.codes) (length lists.levels) (length lists.colours)

-- Three lists with at least k entries each.
pub record RoomFor (k : ℕ) (lists : BlockList) : Type 0 where
  pub in_codes : k ≤ length lists.codes
  pub in_levels : k ≤ length lists.levels
  pub in_colours : k ≤ length lists.colours

pub room_by_least : {k : ℕ} {lists : BlockList} → k ≤ least_length lists → RoomFor k lists
room_by_least h = record { in_codes = omega arith; in_levels = omega arith; in_colours = omega arith }

pub room_for_fewer : {j k : ℕ} {lists : BlockList} → j ≤ k → RoomFor k lists → RoomFor j lists
room_for_fewer h g = record { in_codes = omega (arith, g.in_codes); in_levels = omega (arith, g.in_levels); in_colours = omega (arith, g.in_colours) }

-- Three lists of the same lengths as three others.
pub record SameLengths (after before : BlockList) : Type 0 where
  pub for_codes : length after.codes ≡ length before.codes
  pub for_levels : length after.levels ≡ length before.levels
  pub for_colours : length after.colours ≡ length before.colours

pub same_again : {after between before : BlockList} → SameLengths after between → SameLengths between before → SameLengths after before
same_again f g = record { for_codes = f.for_codes ∙ g.for_codes; for_levels = f.for_levels ∙ g.for_levels; for_colours = f.for_colours ∙ g.for_colours }

pub room_again : {k : ℕ} {after before : BlockList} → SameLengths after before → RoomFor k before → RoomFor k after
room_again f g = record {
  in_codes = omega (arith, f.for_codes, g.in_codes);
  in_levels = omega (arith, f.for_levels, g.in_levels);
  in_colours = omega (arith, f.for_colours, g.in_colours);
}
