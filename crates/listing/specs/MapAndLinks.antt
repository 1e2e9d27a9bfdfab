-- A labelled list of blocks while its cycles are listed: the map holds the labels, and behind it the links lead along the blocks of each
-- region.
use Rattle.std.specs.Prelude.{◌≡◌, refl, List, ◌++◌, ℕ, zero, suc, ◌+◌, ◌%◌, ◌^◌, ◌≤◌, ◌<◌, length, get_or}
use Rattle.std.proofs.Common.{sym, ◌∙◌, subst, arith}
use Rattle.std.proofs.Math.Path.{ap, ap₂}
use Rattle.sequences.specs.Powers.{pow4_mono}
use Rattle.quadtree.specs.Blocks.{Block, blocks, paint}
use Rattle.components.specs.Holders.{block_at}
use Rattle.links.specs.TopRows.{top_row, block_level, block_inside, block_multiple}
use Rattle.links.specs.Links.{first_from, first-here, first_end, first_same, Next, next_some, next_none}
use Rattle.links.specs.Linking.{label_at}
use Rattle.links.specs.Candidates.{colour_at, rows_from}
use Rattle.links.specs.Ahead.{Ahead}
use Rattle.links.specs.Forward.{Labelled, rows_next, rows_none}
use Rattle.links.specs.Relabelled.{length_as, code_as, level_as, colour_as}
use Rattle.starts.specs.Progress.{State, LentList, CycleRoom, Listed, PixelsNext, listed_self, room_after}
use Rattle.starts.specs.Blocks.{top_of, BlockInside}
use Rattle.listing.specs.Chains.{link_of, rows_along, chain_from, ChainNext, along_none, along_some}

-- The blocks of three lists that a function was lent, with their labels for colours.
abbrev pub entry_blocks : LentList ℕ → LentList ℕ → LentList ℕ → List Block
entry_blocks codes levels labels = blocks codes.entry.now levels.entry.now labels.entry.now

-- A list of blocks with labels, and the state of its listing: the map holds the labels, the links of the blocks stand behind it.
pub record MapAndLinks (n : ℕ) (codes levels labels : List ℕ) (s : State) : Type 0 where
  pub labelled : Labelled n (blocks codes levels labels)
  pub equal : length codes ≡ length levels
  pub enough : length codes ≤ length labels
  pub few : length codes ≤ 4 ^ n
  pub long : 4 ^ n + 4 ^ n ≤ length s.work
  pub links : (i : ℕ) → i < length codes → link_of n s.work i ≡ first_from (label_at labels) (length codes) (get_or labels i 0) (suc i)
  pub room : CycleRoom n s
  pub listed : Listed n (paint (blocks codes levels labels)) s s

module _ {n : ℕ} {codes levels labels : List ℕ} where
  -- Listing more cycles keeps all that.
  pub map_and_links_after : {s₀ s : State} → MapAndLinks n codes levels labels s₀ → Listed n (paint (blocks codes levels labels)) s₀ s → MapAndLinks n codes levels labels s
  map_and_links_after {s₀} {s} g l = record {
    labelled = g.labelled;
    equal = g.equal;
    enough = g.enough;
    few = g.few;
    long = omega (arith, g.long, l.long);
    links = λ i h. l.beyond (4 ^ n + i) (omega arith) ∙ g.links i h;
    room = room_after g.room l;
    listed = listed_self l;
  }

  module _ {s : State} (g : MapAndLinks n codes levels labels s) where
    abbrev bs : List Block
    bs = blocks codes levels labels

    pub blocks_long : length (blocks codes levels labels) ≡ length codes
    blocks_long = length_as codes levels labels g.equal g.enough

    pub blocks_few : length codes ≤ 65536
    blocks_few = let w : 4 ^ n ≤ 4 ^ 8 = pow4_mono g.room.small in omega (arith, g.few)

    pub colour_is : (i : ℕ) → i < length codes → (block_at (blocks codes levels labels) i).colour ≡ get_or labels i 0
    colour_is i h = colour_as codes levels labels g.equal g.enough i h

    -- The pixels cs come next, in the terms of the map.
    pixels-next : (cs : List ℕ) → Ahead n (paint (blocks codes levels labels)) cs s.cycles → PixelsNext n cs s
    pixels-next cs a = record {
      room = g.room;
      listed = subst (λ (m : List ℕ). Listed n m s s) (sym g.listed.numbers) g.listed;
      ahead = subst (λ (m : List ℕ). Ahead n m cs s.cycles) (sym g.listed.numbers) a;
    }

    top_is : (i : ℕ) → i < length codes → top_row n (block_at bs i) ≡ top_of n (get_or codes i 0) (get_or levels i 0)
    unfolding top_row
    top_is i h = ap₂ (top_of n) (code_as codes levels labels g.equal g.enough i h) (level_as codes levels labels g.equal g.enough i h)

    in_image : (i : ℕ) → i < length codes → BlockInside n (get_or codes i 0) (get_or levels i 0)
    in_image i h =
        let p : i < length bs = omega (arith, blocks_long) in
        let ec = code_as codes levels labels g.equal g.enough i h in
        let el = level_as codes levels labels g.equal g.enough i h in
        record {
          level = subst (λ (x : ℕ). x ≤ n) el (block_level n bs g.labelled.covering i p);
          inside = subst (λ (x : ℕ). x < 4 ^ n) ec (block_inside n bs g.labelled.covering i p);
          multiple = sym (ap₂ (λ (x y : ℕ). x % 4 ^ y) ec el) ∙ block_multiple n bs g.labelled.covering i p;
        }

    -- The link of a block of colour r is the next block of that colour.
    link_is : (i r : ℕ) → i < length codes → (block_at bs i).colour ≡ r → link_of n s.work i ≡ first_from (colour_at bs) (length bs) r (suc i)
    link_is i r h e =
        g.links i h
        ∙ ap (λ (x : ℕ). first_from (label_at labels) (length codes) x (suc i)) (sym (colour_is i h) ∙ e)
        ∙ first_same (label_at labels) (colour_at bs) (length codes) r (suc i) (omega arith) (λ j l. sym (colour_is j l))
        ∙ ap (λ (x : ℕ). first_from (colour_at bs) x r (suc i)) (sym blocks_long)

    link_some : (i k : ℕ) → i < length codes → link_of n s.work i ≡ suc k → (suc i ≤ k) × (k < length codes)
    link_some i k h e =
        let r : ℕ = (block_at bs i).colour in
        let w : Next (colour_at bs) (length bs) r (suc i) k =
        next_some (colour_at bs) (length bs) r (suc i) k (omega (arith, blocks_long)) (sym (link_is i r h refl) ∙ e) in
        (w.from, omega (arith, w.place, blocks_long))

    link_known : (i k : ℕ) → i < length codes → link_of n s.work i ≡ k → k ≤ length codes
    link_known i zero h e = omega arith
    link_known i (suc k) h e = omega (arith, link_some i k h e)

    link_later : (i k : ℕ) → i < length codes → link_of n s.work i ≡ k → 0 < k → suc i < k
    link_later i zero h e p = absurd (omega arith)
    link_later i (suc k) h e p = omega (arith, link_some i k h e)

    -- The blocks along the links are those of the colour, in list order.
    along_is : (r most from : ℕ) → from ≤ length codes → length codes ≤ from + most
        → rows_along n codes levels s.work most (first_from (colour_at bs) (length bs) r from) ≡ rows_from n bs r from
    along_is r zero from l m = none_left (first_end (colour_at bs) (length bs) r from (omega (arith, blocks_long)))
      where
        none_left : first_from (colour_at bs) (length bs) r from ≡ 0 → rows_along n codes levels s.work 0 (first_from (colour_at bs) (length bs) r from) ≡ rows_from n bs r from
        none_left z =
            along_none n codes levels s.work 0 (first_from (colour_at bs) (length bs) r from) z
            ∙ sym (rows_none n bs r from (next_none (colour_at bs) (length bs) r from (omega (arith, blocks_long)) z))
    along_is r (suc most) from l m = pick (first_from (colour_at bs) (length bs) r from) refl (λ j. along_is r most (suc j))
      where
        pick : (k : ℕ) → first_from (colour_at bs) (length bs) r from ≡ k
            → ((j : ℕ) → suc j ≤ length codes → length codes ≤ suc j + most → rows_along n codes levels s.work most (first_from (colour_at bs) (length bs) r (suc j)) ≡ rows_from n bs r (suc j))
            → rows_along n codes levels s.work (suc most) (first_from (colour_at bs) (length bs) r from) ≡ rows_from n bs r from
        pick zero z ih =
            along_none n codes levels s.work (suc most) (first_from (colour_at bs) (length bs) r from) z
            ∙ sym (rows_none n bs r from (next_none (colour_at bs) (length bs) r from (omega (arith, blocks_long)) z))
        pick (suc j) e ih =
            let w : Next (colour_at bs) (length bs) r from j = next_some (colour_at bs) (length bs) r from j (omega (arith, blocks_long)) e in
            let h : j < length codes = omega (arith, w.place, blocks_long) in
            ap (rows_along n codes levels s.work (suc most)) e
            ∙ along_some n codes levels s.work most j
            ∙ ap₂ (λ (t l : List ℕ). t ++ l) (sym (top_is j h)) (ap (rows_along n codes levels s.work most) (link_is j r h w.labelled) ∙ ih j (omega arith) (omega (arith, w.from)))
            ∙ sym (rows_next n bs r from j w)

    -- The chain from a block of colour r on.
    pub chain_is_rows : (i r : ℕ) → i < length codes → (block_at bs i).colour ≡ r → chain_from n codes levels s.work i ≡ rows_from n bs r i
    unfolding chain_from
    chain_is_rows i r h e =
        ap (rows_along n codes levels s.work (length codes)) (sym (first-here (colour_at bs) (length bs) r i (omega (arith, blocks_long)) e))
        ∙ along_is r (length codes) i (omega arith) (omega arith)

    pub chain_next : (i r : ℕ) → i < length codes → (block_at bs i).colour ≡ r → Ahead n (paint bs) (rows_from n bs r i) s.cycles → ChainNext n codes levels i s
    chain_next i r h e a = record {
      equal = g.equal;
      few = g.few;
      in_image = in_image;
      long = g.long;
      later = λ j l k. link_later j (link_of n s.work j) l refl k;
      known = λ j l. link_known j (link_of n s.work j) l refl;
      place = h;
      next = subst (λ (cs : List ℕ). PixelsNext n cs s) (sym (chain_is_rows i r h e)) (pixels-next (rows_from n bs r i) a);
    }
