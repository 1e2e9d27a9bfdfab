-- The loop over the blocks: what one turn is handed, and that it leads from k blocks done to one more.
use Rattle.std.specs.Prelude.{◌≡◌, refl, List, [], ◌∷◌, ℕ, ◌+◌, ◌*◌, ◌^◌, ◌≤◌, ◌<◌, length, get_or, set}
use Rattle.std.proofs.Common.{sym, ap, ◌∙◌, subst, arith}
use Rattle.sequences.specs.Fill.{fill, begin as fill_begin, again as fill_again, finish}
use Rattle.sequences.specs.Powers.{pow4_pos, pow4_mono}
use Rattle.sequences.specs.Ranges.{range, length-range}
use Rattle.interleaving.specs.Codes.{column, row}
use Rattle.location.specs.Levels.{side_of, side_is_power}
use Rattle.quadtree.specs.Blocks.{Block, blocks, pixels}
use Rattle.quadtree.specs.Accepted.{Passes}
use Rattle.staircase.specs.FirstBlocks.{all_pixels}
use Rattle.components.specs.Walk.{Walking, begin, block-count, level_at_most, block_in_image, column_in_code, row_in_code, north-ready, west-ready}
use Rattle.components.proofs.Walked.{one_block_more}
use Rattle.border.specs.BorderSpans.{BorderSpans, SpansJoined}

-- The walk may begin: an accepted list, each block its own parent, and room for the border.
pub record Walkable (n : ℕ) (cs ls ks p work : List ℕ) : Type 0 where
  pub passes : Passes n cs ls ks
  pub own : p ≡ range 0 (length cs)
  pub room : 2 * 2 ^ n ≤ length work

-- All blocks are walked over.
abbrev pub Walked : ℕ → List ℕ → List ℕ → List ℕ → List ℕ → List ℕ → List ℕ → Type 0
Walked n cs ls ks work₀ work p = Walking n cs ls ks work₀ (length cs) work p

-- The block k lies at (x, y) and has the side s, in an image of side w.
pub record LiesAt (n : ℕ) (cs ls : List ℕ) (k w x y s : ℕ) : Type 0 where
  pub width : w ≡ 2 ^ n
  pub column : x ≡ column n (get_or cs k 0)
  pub row : y ≡ row n (get_or cs k 0)
  pub side : s ≡ 2 ^ get_or ls k 0

-- The stores of the block k have room.
pub record Storable (work : List ℕ) (w x y s : ℕ) : Type 0 where
  pub in_columns : x + s ≤ length work
  pub in_rows : w + y + s ≤ length work

-- In a single column and a single row nothing needs a loop.
pub stored_single : (work : List ℕ) (w x y s k : ℕ) → s ≡ 1 → set (set work x k) (w + y) k ≡ fill (fill work x s k) (w + y) s k
stored_single work w x y s k single = ap (λ (l : List ℕ). set l (w + y) k) (one work x) ∙ one (fill work x s k) (w + y)
  where
    one : (l : List ℕ) (from : ℕ) → set l from k ≡ fill l from s k
    one l from = finish (fill_again (fill_begin l from s k) (omega arith)) (omega arith)

-- Each block has a pixel, so an image has at most 65536 blocks, and a block's place fits 32 bits.
each_has_a_pixel : (bs : List Block) → length bs ≤ pixels bs
unfolding pixels
each_has_a_pixel [] = omega arith
each_has_a_pixel (b ∷ bs) = omega (arith, pow4_pos b.level, each_has_a_pixel bs)

pub few_blocks : {n : ℕ} {cs ls ks : List ℕ} → Passes n cs ls ks → length cs < 65537
few_blocks {n} {cs} {ls} {ks} passes =
    let most : 4 ^ n ≤ 65536 = pow4_mono passes.small in
    omega (arith, block-count passes, each_has_a_pixel (blocks cs ls ks), all_pixels n (blocks cs ls ks) passes.covering)

pub walk_begins : {n : ℕ} {cs ls ks p work : List ℕ} → Walkable n cs ls ks p work → Walking n cs ls ks work 0 work p
walk_begins {n} {cs} {ls} {ks} {p} {work} h = rw h.own (begin n cs ls ks work h.room)

pub parents-kept : {n : ℕ} {cs ls ks p₀ work₀ : List ℕ} → Walkable n cs ls ks p₀ work₀ → {k : ℕ} {work p : List ℕ} → Walking n cs ls ks work₀ k work p → length p ≡ length p₀
parents-kept {n} {cs} h g = g.long ∙ sym (ap length h.own ∙ length-range 0 (length cs))

pub walk_ends : {n : ℕ} {cs ls ks work₀ : List ℕ} {k : ℕ} {work p : List ℕ} → Walking n cs ls ks work₀ k work p → length cs ≤ k → Walked n cs ls ks work₀ work p
walk_ends {n} {cs} {ls} {ks} {work₀} {k} {work} {p} g h =
    let all : k ≡ length cs = omega (arith, g.place) in
    subst (λ (i : ℕ). Walking n cs ls ks work₀ i work p) all g

module _ {n : ℕ} {cs ls ks : List ℕ} (passes : Passes n cs ls ks) {work₀ work p : List ℕ} {k : ℕ} (g : Walking n cs ls ks work₀ k work p) (less : k < length cs) where
  pub lies_at : {w x y s : ℕ} → w ≡ side_of n → x ≡ column 16 (get_or cs k 0) → y ≡ row 16 (get_or cs k 0) → s ≡ side_of (get_or ls k 0) → LiesAt n cs ls k w x y s
  lies_at a b c d = record {
    width = a ∙ side_is_power n (omega (arith, passes.small));
    column = b ∙ column_in_code passes k less;
    row = c ∙ row_in_code passes k less;
    side = d ∙ side_is_power (get_or ls k 0) (omega (arith, level_at_most passes k less, passes.small));
  }

  module _ {w x y s : ℕ} (at : LiesAt n cs ls k w x y s) where
    pub spans : BorderSpans work w x y s ks k p
    spans =
        rw (at.width, at.column, at.row, at.side)
        (record {
          room = omega (arith, block_in_image passes k less, g.room, g.same_length);
          north = record { low = g.low; named = north-ready passes k less g };
          west = record { low = g.low; named = west-ready passes k less g g.low refl };
        })

    pub storable : Storable work w x y s
    storable =
        rw (at.width, at.column, at.row, at.side)
        (record {
          in_columns = omega (arith, block_in_image passes k less, g.room, g.same_length);
          in_rows = omega (arith, block_in_image passes k less, g.room, g.same_length);
        })

    pub again : {p' work' : List ℕ} → SpansJoined work w x y s ks k p p' → work' ≡ fill (fill work x s k) (w + y) s k → Walking n cs ls ks work₀ (k + 1) work' p'
    again {p'} {work'} j e =
        let joined : SpansJoined work (2 ^ n) (column n (get_or cs k 0)) (row n (get_or cs k 0)) (2 ^ get_or ls k 0) ks k p p' =
        rw (at.width, at.column, at.row, at.side) at j in
        let kept : work' ≡ fill (fill work (column n (get_or cs k 0)) (2 ^ get_or ls k 0) k) (2 ^ n + row n (get_or cs k 0)) (2 ^ get_or ls k 0) k =
        rw (at.width, at.column, at.row, at.side) at e in
        one_block_more passes g less joined.north joined.west kept
