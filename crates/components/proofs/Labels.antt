-- Labels: all pixels of a block have one region number, and the labels of two blocks are equal exactly when their pixels are joined.
use Rattle.std.specs.Prelude.{◌≡◌, ◌↔◌, List, ℕ, suc, ◌^◌, ◌<◌, length, take, get_or}
use Rattle.std.proofs.Common.{sym, ap, ◌∙◌, arith}
use Rattle.std.proofs.lemmas.List.{length-map}
use Rattle.std.proofs.Math.Seq.{take-length}
use Rattle.sequences.specs.Maps.{get_d_map}
use Rattle.quadtree.specs.Blocks.{Block, blocks, pixels, paint}
use Rattle.quadtree.specs.Number.{cover, number}
use Rattle.quadtree.specs.Accepted.{number-zero}
use Rattle.staircase.specs.FirstBlocks.{Within, all_pixels}
use Rattle.components.specs.Joined.{Connected, Joined}
use Rattle.components.proofs.Joined.{connected_through, connected_back}
use Rattle.components.specs.Numbers.{numbers, labels}
use Rattle.components.proofs.Numbered.{one_number_exactly_when_joined}
use Rattle.components.specs.Holders.{block_at, holder, HoldsAt, pixels_grow, held_colour, held-before, placed, pixels_with, within_held, first_pixel_held, held_in_image, pixel_held}
use Rattle.components.proofs.ConnectedSquares.{OneColour, square_is_connected}

pub length-labels : (n : ℕ) (bs : List Block) → length (labels n bs) ≡ length bs
unfolding labels
length-labels n bs = length-map bs _

label_is : (n : ℕ) (bs : List Block) (i : ℕ) → i < length bs → get_or (labels n bs) i 0 ≡ get_or (numbers n (paint bs)) (block_at bs i).code 0
unfolding labels
label_is n bs i h = get_d_map (λ (b : Block). get_or (numbers n (paint bs)) b.code 0) bs i (record { code = 0; level = 0; colour = 0 }) 0 h

module _ (n : ℕ) (bs : List Block) (covering : cover n 0 bs ≡ 0) where
  pub all_first_pixels : pixels (take (length bs) bs) ≡ 4 ^ n
  all_first_pixels = ap pixels (take-length bs) ∙ all_pixels n bs covering

  -- Within the first k blocks, each of them is connected.
  block_one_colour : (i k : ℕ) → i < length bs → i < k → OneColour n (paint bs) (pixels (take k bs)) (block_at bs i).level (pixels (take i bs))
  block_one_colour i k place l =
      let p = placed n bs covering i place in
      let more = pixels_with n bs covering i place in
      let here = first_pixel_held n bs covering i place in
      let last = (held-before bs i (pixels (take i bs)) k here).1 l in
      record {
        level = p.low;
        room = p.room;
        multiple = p.multiple;
        within = omega (arith, more, pixels_grow bs (suc i) k l);
        alike = λ c a b.
            held_colour bs i c (record { place = place; from = a; before = omega (arith, more) }) ∙ sym (held_colour bs i (pixels (take i bs)) here);
      }

  pub block_is_connected : (i c k : ℕ) → HoldsAt bs i c → i < k → Connected n (paint bs) (pixels (take k bs)) c (pixels (take i bs))
  block_is_connected i c k h l =
      square_is_connected n (paint bs) (pixels (take k bs)) (block_at bs i).level (pixels (take i bs)) (block_one_colour i k h.place l) c h.from
      (omega (arith, h.before, pixels_with n bs covering i h.place))

  pub block_is_joined : (i c : ℕ) → HoldsAt bs i c → Joined n (paint bs) c (pixels (take i bs))
  block_is_joined i c h = rw all_first_pixels at (block_is_connected i c (length bs) h h.place)

  -- All pixels of one block have one number, its label.
  pub one_number_in_a_block : (i c d : ℕ) → HoldsAt bs i c → HoldsAt bs i d → get_or (numbers n (paint bs)) c 0 ≡ get_or (numbers n (paint bs)) d 0
  one_number_in_a_block i c d f g =
      (one_number_exactly_when_joined n (paint bs) c d (held_in_image n bs covering i c f) (held_in_image n bs covering i d g)).1
      (connected_through (block_is_joined i c f) (connected_back (block_is_joined i d g)))

  pub label_of_held : (i c : ℕ) → HoldsAt bs i c → get_or (labels n bs) i 0 ≡ get_or (numbers n (paint bs)) c 0
  label_of_held i c h =
      label_is n bs i h.place
      ∙ ap (λ (x : ℕ). get_or (numbers n (paint bs)) x 0) (placed n bs covering i h.place).here
      ∙ one_number_in_a_block i (pixels (take i bs)) c (first_pixel_held n bs covering i h.place) h

  pub label_of_pixel_lem : (c : ℕ) → c < 4 ^ n → get_or (labels n bs) (holder bs c) 0 ≡ get_or (numbers n (paint bs)) c 0
  label_of_pixel_lem c l = label_of_held (holder bs c) c (pixel_held n bs covering c l)

  pub labels_equal_exactly_when_joined : (i j c d : ℕ) → HoldsAt bs i c → HoldsAt bs j d → (get_or (labels n bs) i 0 ≡ get_or (labels n bs) j 0) ↔ Joined n (paint bs) c d
  labels_equal_exactly_when_joined i j c d f g =
      let both = one_number_exactly_when_joined n (paint bs) c d (held_in_image n bs covering i c f) (held_in_image n bs covering j d g) in
      (λ e. both.0 (sym (label_of_held i c f) ∙ e ∙ label_of_held j d g), λ p. label_of_held i c f ∙ both.1 p ∙ sym (label_of_held j d g))

-- For an accepted list: the blocks that hold two pixels have one label exactly when a path of one colour joins the pixels.
pub accepted_labels_equal_exactly_when_joined : (n : ℕ) (codes levels colours : List ℕ) → number n codes levels colours ≡ 0
    → (i j c d : ℕ) → i < length (blocks codes levels colours) → j < length (blocks codes levels colours)
    → Within (block_at (blocks codes levels colours) i) c → Within (block_at (blocks codes levels colours) j) d
    → (get_or (labels n (blocks codes levels colours)) i 0 ≡ get_or (labels n (blocks codes levels colours)) j 0)
    ↔ Joined n (paint (blocks codes levels colours)) c d
accepted_labels_equal_exactly_when_joined n codes levels colours accepted i j c d a b v w =
    let bs : List Block = blocks codes levels colours in
    let covering : cover n 0 bs ≡ 0 = (number-zero n codes levels colours accepted).covering in
    labels_equal_exactly_when_joined n bs covering i j c d ((within_held n bs covering i c a).0 v) ((within_held n bs covering j d b).0 w)
