-- The parents of all regions: the map is filled, the regions are settled, and an entry a region is cleared.
use Rattle.std.specs.Prelude.{◌≡◌, List, ℕ, ◌+◌, ◌*◌, ◌^◌, ◌≤◌, ◌<◌, length, get_or, take}
use Rattle.std.proofs.Common.{sym, ap, ◌∙◌, subst, arith}
use Rattle.sequences.specs.Fill.{fill, length-fill, fill-inside, fill-beyond}
use Rattle.sequences.specs.Over.{over}
use Rattle.quadtree.specs.Blocks.{Block, blocks, pixels, paint}
use Rattle.quadtree.specs.Raster.{in_rows}
use Rattle.staircase.specs.FirstBlocks.{block_placed}
use Rattle.components.specs.Holders.{block_at, holder, HoldsAt, pixels_grow, held_colour, held_in_image, pixel_held, first_pixel_held}
use Rattle.components.specs.Numbers.{numbers, regions}
use Rattle.components.proofs.Numbered.{regions_at_most_pixels, each_number_given}
use Rattle.links.specs.Forward.{Labelled}
use Rattle.links.specs.Relabelled.{length_as, code_as, colour_as}
use Rattle.mapping.specs.Filling.{raised, Fillable, MapFilled, map-filled}
use Rattle.surrounding.specs.Parents.{parent_of}
use Rattle.parents.specs.Blocks.{BlocksNumbered, AllNext, AllSettled}

-- Blocks with the region numbers of an image for labels, `count` regions in all, and a work list that is long enough.
pub record RegionsNumbered (n count : ℕ) (codes levels labels work : List ℕ) : Type 0 where
  pub labelled : Labelled n (blocks codes levels labels)
  pub equal : length codes ≡ length levels
  pub enough : length codes ≤ length labels
  pub image : List ℕ
  pub numbered : paint (blocks codes levels labels) ≡ numbers n image
  pub counted : count ≡ regions n image
  pub room : 2 * 4 ^ n ≤ length work

-- From the place 4^n of the work list on stand the parents of the regions: 1 plus the parent's number, 0 where there is none. What lies
-- beyond is as it was. In front one entry a region is 0; what the others hold is free.
pub record ParentsFound (n count : ℕ) (codes levels labels work work' : List ℕ) : Type 0 where
  pub long : length work' ≡ length work
  pub blank : (v : ℕ) → v < count → get_or work' v 0 ≡ 0
  pub parents : (v : ℕ) → v < count → get_or work' (4 ^ n + v) 0 ≡ parent_of n (paint (blocks codes levels labels)) v
  pub beyond : (j : ℕ) → 4 ^ n + count ≤ j → get_or work' j 0 ≡ get_or work j 0

-- ---- the blocks of such a list, by their codes and labels alone

module _ {n count : ℕ} {codes levels labels work : List ℕ} (ok : RegionsNumbered n count codes levels labels work) where
  abbrev bs : List Block
  bs = blocks codes levels labels

  abbrev nums : List ℕ
  nums = paint (blocks codes levels labels)

  long : length (blocks codes levels labels) ≡ length codes
  long = length_as codes levels labels ok.equal ok.enough

  -- The block i starts where the blocks before it end.
  code_is : (i : ℕ) → i < length codes → get_or codes i 0 ≡ pixels (take i bs)
  code_is i h = sym (code_as codes levels labels ok.equal ok.enough i h) ∙ (block_placed n i bs _ ok.labelled.covering (omega (arith, long))).here

  label_is : (i : ℕ) → i < length codes → get_or labels i 0 ≡ (block_at bs i).colour
  label_is i h = sym (colour_as codes levels labels ok.equal ok.enough i h)

  blocks-numbered : BlocksNumbered n nums codes labels
  blocks-numbered = record {
    enough = ok.enough;
    inside = λ i h. omega (arith, code_is i h, held_in_image n bs ok.labelled.covering i (pixels (take i bs)) (first i h));
    first = λ i h. label_is i h ∙ sym (held_colour bs i (pixels (take i bs)) (first i h)) ∙ ap (λ (d : ℕ). get_or nums d 0) (sym (code_is i h));
    rising = λ i j h l. omega (arith, code_is i (omega arith), code_is j l, pixels_grow bs i j h);
    held = λ c h.
        let p : HoldsAt bs (holder bs c) c = pixel_held n bs ok.labelled.covering c h in
        let l : holder bs c < length codes = omega (arith, p.place, long) in
        record {
          block = holder bs c;
          place = l;
          from = omega (arith, code_is (holder bs c) l, p.from);
          label = label_is (holder bs c) l ∙ sym (held_colour bs (holder bs c) c p);
        };
  }
    where
      first : (i : ℕ) → i < length codes → HoldsAt bs i (pixels (take i bs))
      first i h = first_pixel_held n bs ok.labelled.covering i (omega (arith, long))

  pub fillable : Fillable n codes levels labels work
  fillable = record { levels_too = ok.equal; labels_too = ok.enough; labelled = ok.labelled; enough = omega (arith, ok.room) }

  module _ {mapped : List ℕ} (e : mapped ≡ over (in_rows n (raised (paint (blocks codes levels labels)))) work) where
    filled : MapFilled n (paint (blocks codes levels labels)) work mapped
    filled = map-filled fillable e

    pub all_next : AllNext n count codes labels mapped
    all_next = record {
      blocks = subst (λ (m : List ℕ). BlocksNumbered n m codes labels) (sym filled.numbers) blocks-numbered;
      given = λ v h.
          let f = each_number_given n ok.image v (omega (arith, ok.counted)) in
          (f.pixel, f.first.inside, ap (λ (m : List ℕ). get_or m f.pixel 0) (filled.numbers ∙ ok.numbered) ∙ f.value);
      start = record {
        small = ok.labelled.small;
        image = ok.image;
        mapped = filled.mapped;
        numbered = filled.numbers ∙ ok.numbered;
        room = omega (arith, filled.same_length, ok.room);
        marked = λ q h. (λ m. absurd (filled.unmarked q h m), λ f. absurd (omega (arith, f.smaller)));
        parents = λ v h. absurd (omega arith);
      };
    }

    module _ {settled : List ℕ} (t : AllSettled n count mapped settled) where
      few : count ≤ 4 ^ n
      few = omega (arith, ok.counted, regions_at_most_pixels n ok.image)

      pub clear_room : 0 + count ≤ length settled
      clear_room = omega (arith, few, t.settled.room)

      pub parents_found : {cleared : List ℕ} → cleared ≡ fill settled 0 count 0 → ParentsFound n count codes levels labels work cleared
      parents_found {cleared} c = record {
        long = ap length c ∙ length-fill settled 0 count 0 ∙ t.long ∙ filled.same_length;
        blank = λ v h. at v ∙ fill-inside settled 0 count 0 v clear_room (omega arith) (omega arith);
        parents = λ v h. behind (4 ^ n + v) (omega arith) ∙ t.settled.parents v h ∙ ap (λ (m : List ℕ). parent_of n m v) (t.same_numbers ∙ filled.numbers);
        beyond = λ j h. behind j (omega arith) ∙ t.beyond j h ∙ filled.beyond j (omega arith);
      }
        where
          at : (j : ℕ) → get_or cleared j 0 ≡ get_or (fill settled 0 count 0) j 0
          at j = ap (λ (l : List ℕ). get_or l j 0) c

          behind : (j : ℕ) → 4 ^ n ≤ j → get_or cleared j 0 ≡ get_or settled j 0
          behind j h = at j ∙ fill-beyond settled 0 count 0 j (omega (arith, few))
