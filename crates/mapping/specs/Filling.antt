-- The map filled with 1 plus the label of each block: what the loop over the blocks needs, and that the map then holds the labels.
use Rattle.std.specs.Prelude.{◌≡◌, refl, take, replicate}
use Rattle.std.proofs.Math.Path.{sym, ap}
use Rattle.std.proofs.Common.{◌∙◌, subst, add-one, arith, length-take, get_or-take}
use mathlib.Core.List.{List, [], ◌∷◌, ◌++◌, map}
use Prim.Native.Nat.{ℕ, zero, suc, ◌+◌, ◌/◌, ◌%◌, ◌^◌, ◌≤◌, ◌<◌}
use Rattle.std.proofs.Math.ListN.{length, get_or}
use Rattle.std.proofs.lemmas.List.{length-map}
use Rattle.std.proofs.Math.Seq.{ext_get_or}
use Rattle.sequences.specs.Maps.{get_d_map}
use Rattle.sequences.specs.Over.{over, length_over, over_inside, over_beyond}
use Rattle.sequences.specs.Powers.{pow4_mono}
use Rattle.interleaving.specs.Codes.{code}
use Rattle.interleaving.specs.Interleaving.{code_below}
use Rattle.location.specs.Levels.{side_of}
use Rattle.quadtree.specs.Raster.{place, in_rows}
use Rattle.quadtree.specs.Orders.{place_in, code_of_place, in_rows_at, length_in_rows}
use Rattle.quadtree.specs.Blocks.{Block, blocks, paint}
use Rattle.quadtree.specs.Painting.{length-paint}
use Rattle.squares.specs.Filling.{RowsFilled}
use Rattle.squares.specs.BlockByBlock.{Paintable, PaintedTo, painted_more, painted_all}
use Rattle.staircase.specs.FirstBlocks.{all_pixels}
use Rattle.components.specs.Holders.{holder, HoldsAt, held_colour, pixel_held}
use Rattle.links.specs.Forward.{Labelled}
use Rattle.links.specs.Relabelled.{length_as, colour_as, cover_as}
use Rattle.cycles.specs.Mapped.{nums_of, Mapped, Marked, length-nums, nums_at}

-- The blocks have their labels for colours, the lists are long enough, and the map has room for the image.
pub record Fillable (n : ℕ) (codes levels labels map : List ℕ) : Type 0 where
  pub levels_too : length codes ≡ length levels
  pub labels_too : length codes ≤ length labels
  pub labelled : Labelled n (blocks codes levels labels)
  pub enough : 4 ^ n ≤ length map

-- The map after it: it holds these numbers and no mark, and what lies beyond it is as it was.
pub record MapFilled (n : ℕ) (nums map map' : List ℕ) : Type 0 where
  pub mapped : Mapped n map'
  pub numbers : nums_of n map' ≡ nums
  pub unmarked : (c : ℕ) → c < 4 ^ n → Marked n map' c → ⊥
  pub same_length : length map' ≡ length map
  pub beyond : (j : ℕ) → 4 ^ n ≤ j → get_or map' j 0 ≡ get_or map j 0

-- 1 plus each number of a list.
unfoldable pub raised : List ℕ → List ℕ
raised l = map suc l

-- The value of each block: 1 plus its label.
unfoldable pub values : List ℕ → List ℕ → List ℕ
values codes labels = map suc (take (length codes) labels)

pub length-values : (codes labels : List ℕ) → length codes ≤ length labels → length (values codes labels) ≡ length codes
unfolding values
length-values codes labels h = length-map (take (length codes) labels) suc ∙ omega (arith, length-take (length codes) labels)

value_at : (codes labels : List ℕ) (i : ℕ) → length codes ≤ length labels → i < length codes → get_or (values codes labels) i 0 ≡ suc (get_or labels i 0)
unfolding values
value_at codes labels i h l =
    get_d_map suc (take (length codes) labels) i 0 0 (omega (arith, length-take (length codes) labels)) ∙ ap suc (get_or-take (length codes) labels i 0 l)

-- The blocks with these values paint 1 plus what the blocks with their labels paint.
map-run : (k v : ℕ) (l : List ℕ) → map suc (replicate k v ++ l) ≡ replicate k (suc v) ++ map suc l
map-run zero v l = refl
map-run (suc k) v l = ap (λ (t : List ℕ). suc v ∷ t) (map-run k v l)

paint-values : (cs ls ks : List ℕ) → length cs ≡ length ls → length cs ≤ length ks → paint (blocks cs ls (values cs ks)) ≡ map suc (paint (blocks cs ls ks))
unfolding blocks paint values
paint-values [] ls ks e f = refl
paint-values (c ∷ cs) [] ks e f = absurd (omega arith)
paint-values (c ∷ cs) (l ∷ ls) [] e f = absurd (omega arith)
paint-values (c ∷ cs) (l ∷ ls) (k ∷ ks) e f =
    ap (λ (t : List ℕ). replicate (4 ^ l) (suc k) ++ t) (paint-values cs ls ks (omega arith) (omega arith)) ∙ sym (map-run (4 ^ l) k (paint (blocks cs ls ks)))

module _ {n : ℕ} {codes levels labels map : List ℕ} (f : Fillable n codes levels labels map) where
  abbrev bs : List Block
  bs = blocks codes levels labels

  block-count : length (blocks codes levels labels) ≡ length codes
  block-count = length_as codes levels labels f.levels_too f.labels_too

  pub paintable : Paintable n codes levels (values codes labels) map
  paintable = record {
    small = f.labelled.small;
    long = record { levels_too = f.levels_too; colours_too = omega (arith, f.levels_too, length-values codes labels f.labels_too) };
    covered = cover_as n 0 codes levels (values codes labels) labels f.levels_too (omega (arith, length-values codes labels f.labels_too)) f.labels_too ∙ f.labelled.covering;
    enough = f.enough;
  }

  -- A label is so small that 1 plus it has no mark.
  image_small : 4 ^ n ≤ 65536
  image_small = pow4_mono f.labelled.small

  pub label_small : (i : ℕ) → i < length codes → get_or labels i 0 < 65536
  label_small i h =
      omega (arith, image_small, f.labelled.known i (omega (arith, block-count)), colour_as codes levels labels f.levels_too f.labels_too i h)

  label_here : (i : ℕ) → i < length codes → get_or labels i 0 + 1 ≡ get_or (values codes labels) i 0
  label_here i h = add-one (get_or labels i 0) ∙ sym (value_at codes labels i f.labels_too h)

  pub filled_more : {w : ℕ} {new newer : List ℕ} {i at s : ℕ} → PaintedTo n codes levels (values codes labels) map w new i → i < length codes
      → at ≡ place n (get_or codes i 0) → s ≡ side_of (get_or levels i 0) → RowsFilled w at s s (get_or labels i 0 + 1) new newer
      → PaintedTo n codes levels (values codes labels) map w newer (i + 1)
  filled_more {w} {new} {newer} {i} {at} {s} p more ea es r =
      painted_more paintable p more ea es (subst (λ v. RowsFilled w at s s v new newer) (label_here i more) r)

  pub filled_all : {w : ℕ} {new : List ℕ} {i : ℕ} → PaintedTo n codes levels (values codes labels) map w new i → length codes ≤ i
      → new ≡ over (in_rows n (raised (paint (blocks codes levels labels)))) map
  unfolding raised
  filled_all p past =
      painted_all paintable p past ∙ ap (λ (px : List ℕ). over (in_rows n px) map) (paint-values codes levels labels f.levels_too f.labels_too)

  -- ---- what the filled map holds

  long_paint : length (paint (blocks codes levels labels)) ≡ 4 ^ n
  long_paint = length-paint (blocks codes levels labels) ∙ all_pixels n (blocks codes levels labels) f.labelled.covering

  pixel_small : (c : ℕ) → c < 4 ^ n → get_or (paint (blocks codes levels labels)) c 0 < 4 ^ n
  pixel_small c h =
      let p : HoldsAt (blocks codes levels labels) (holder (blocks codes levels labels) c) c = pixel_held n (blocks codes levels labels) f.labelled.covering c h in
      omega (arith, held_colour (blocks codes levels labels) (holder (blocks codes levels labels) c) c p, f.labelled.known (holder (blocks codes levels labels) c) p.place)

  module _ {map' : List ℕ} (e : map' ≡ over (in_rows n (raised (paint (blocks codes levels labels)))) map) where
    front : length (in_rows n (raised (paint (blocks codes levels labels)))) ≡ 4 ^ n
    front = length_in_rows n (raised (paint (blocks codes levels labels)))

    filled_at : (j : ℕ) → j < 4 ^ n → get_or map' j 0 ≡ suc (get_or (paint (blocks codes levels labels)) (code n (j % 2 ^ n) (j / 2 ^ n)) 0)
    unfolding raised
    filled_at j h =
        ap (λ l. get_or l j 0) e
        ∙ over_inside (in_rows n (raised (paint (blocks codes levels labels)))) map j (omega (arith, front))
        ∙ in_rows_at n (raised (paint (blocks codes levels labels))) j h
        ∙ get_d_map suc (paint (blocks codes levels labels)) (code n (j % 2 ^ n) (j / 2 ^ n)) 0 0 (omega (arith, long_paint, code_below n (j % 2 ^ n) (j / 2 ^ n)))

    filled_low : (j : ℕ) → j < 4 ^ n → (0 < get_or map' j 0) × (get_or map' j 0 ≤ 65536)
    filled_low j h =
        let k = pixel_small (code n (j % 2 ^ n) (j / 2 ^ n)) (code_below n (j % 2 ^ n) (j / 2 ^ n)) in
        (omega (arith, filled_at j h), omega (arith, filled_at j h, k, image_small))

    filled-code : (c : ℕ) → c < 4 ^ n → get_or map' (place n c) 0 ≡ suc (get_or (paint (blocks codes levels labels)) c 0)
    filled-code c h =
        filled_at (place n c) (place_in n c) ∙ ap (λ d. suc (get_or (paint (blocks codes levels labels)) d 0)) (code_of_place n c h)

    pub map-filled : MapFilled n (paint (blocks codes levels labels)) map map'
    unfolding Marked
    map-filled = record {
      mapped = record {
        long = omega (arith, f.enough, same_long);
        numbered = λ j h. omega (arith, filled_low j h);
        bounded = λ j h. omega (arith, filled_low j h);
      };
      numbers = ext_get_or 0 (nums_of n map') (paint (blocks codes levels labels)) (length-nums n map' ∙ sym long_paint) (λ c h.
          let l : c < 4 ^ n = omega (arith, length-nums n map') in
          let k = pixel_small c l in
          omega (arith, nums_at n map' c l, filled-code c l, image_small));
      unmarked = λ c h m. omega (arith, filled_low (place n c) (place_in n c));
      same_length = same_long;
      beyond = λ j h. ap (λ l. get_or l j 0) e ∙ over_beyond (in_rows n (raised (paint (blocks codes levels labels)))) map j (omega (arith, front));
    }
      where
        same_long : length map' ≡ length map
        same_long = ap length e ∙ length_over (in_rows n (raised (paint (blocks codes levels labels)))) map (omega (arith, front, f.enough))
