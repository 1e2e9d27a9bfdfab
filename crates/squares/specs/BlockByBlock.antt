-- The loop that paints a raster block by block: what holds at its head.
use Rattle.std.specs.Prelude.{◌≡◌, refl, drop}
use Rattle.std.proofs.Math.Path.{sym, ap, ap₂}
use Rattle.std.proofs.Common.{◌∙◌, length-append, drop_of_length-le}
use mathlib.Core.List.{List, [], ◌∷◌, ◌++◌, append_assoc}
use Prim.Native.Nat.{ℕ, ◌+◌, ◌-◌, ◌*◌, ◌/◌, ◌%◌, ◌^◌, ◌≤◌, ◌<◌}
use Rattle.std.proofs.Math.Nat.{add-mul, div-add-mod'}
use Rattle.std.proofs.Math.Decide.{dec_lt}
use native.Mathlib.Omega.{arith}
use Rattle.std.proofs.Math.ListN.{length, get_or, replicate, length-replicate, get_or-replicate, get_or-append}
use Rattle.std.proofs.Math.Seq.{get_or-append-add, ext_get_or}
use Rattle.std.proofs.Math.Arith.{digits_div, digits_mod}
use Rattle.sequences.specs.Over.{over, over_inside, over_beyond, length_over}
use Rattle.sequences.specs.Powers.{pow2_mono}
use Rattle.interleaving.specs.Codes.{code, column, row}
use Rattle.interleaving.specs.Interleaving.{code_below}
use Rattle.location.specs.Levels.{side_of, side_is_power}
use Rattle.location.specs.Places.{place_of}
use Rattle.location.specs.Squares.{square_in_image, block_is_square}
use Rattle.quadtree.specs.Blocks.{Block, blocks, paint}
use Rattle.quadtree.specs.Number.{cover}
use Rattle.quadtree.specs.Raster.{place, in_rows}
use Rattle.quadtree.specs.Orders.{column_in, row_in, in_rows_at, length_in_rows, place_worked_out}
use Rattle.quadtree.specs.Covering.{NextBlock, cover-zero, cover-zero_end}
use Rattle.quadtree.specs.Lists.{EqualLengths, block_of, length-blocks, rest-after}
use Rattle.squares.specs.Rows.{RowsFit, square_fits}
use Rattle.squares.specs.Filling.{RowsFilled}

-- The code of the pixel at the place j of a raster of side 2^n.
unfoldable pub code_at : ℕ → ℕ → ℕ
code_at n j = code n (j % 2 ^ n) (j / 2 ^ n)

-- The places of a block's square are those of its codes.
module _ (n l c : ℕ) (level : l ≤ n) (inside : c < 4 ^ n) (multiple : c % 4 ^ l ≡ 0) (j : ℕ) (room : j < 4 ^ n) where
  pub place_in_square : c ≤ code_at n j → code_at n j < c + 4 ^ l → (x : ℕ) × (y : ℕ) × (x < 2 ^ l) × (y < 2 ^ l) × (j ≡ place n c + y * 2 ^ n + x)
  unfolding code_at place
  place_in_square a b =
      let s = (block_is_square n l c level inside multiple (j % 2 ^ n) (j / 2 ^ n) (column_in n j) (row_in n j room)).0 (a, b) in
      let y : ℕ = j / 2 ^ n - row n c in
      let e : j / 2 ^ n ≡ row n c + y = omega arith in
      (j % 2 ^ n - column n c, y, omega arith, omega arith, omega (arith, div-add-mod' j (2 ^ n), ap (λ (z : ℕ). z * 2 ^ n) e, add-mul (row n c) y (2 ^ n)))

  pub of_square : (x y : ℕ) → x < 2 ^ l → y < 2 ^ l → j ≡ place n c + y * 2 ^ n + x → (c ≤ code_at n j) × (code_at n j < c + 4 ^ l)
  unfolding code_at place
  of_square x y a b e =
      let s = square_in_image n l c level inside multiple in
      let f : j ≡ (row n c + y) * 2 ^ n + (column n c + x) = omega (arith, add-mul (row n c) y (2 ^ n)) in
      let low : column n c + x < 2 ^ n = omega arith in
      let ex : j % 2 ^ n ≡ column n c + x = ap (λ (i : ℕ). i % 2 ^ n) f ∙ digits_mod (row n c + y) low in
      let ey : j / 2 ^ n ≡ row n c + y = ap (λ (i : ℕ). i / 2 ^ n) f ∙ digits_div (row n c + y) low in
      (block_is_square n l c level inside multiple (j % 2 ^ n) (j / 2 ^ n) (column_in n j) (row_in n j room)).1 (omega arith)

-- After the blocks before the place i: the pixels with codes below `sum` are painted, and what lies beyond the image is as it was.
pub record Painting (n : ℕ) (bs : List Block) (old new : List ℕ) (i : ℕ) : Type 0 where
  pub within : i ≤ length bs
  pub long : length new ≡ length old
  pub front : List ℕ
  pub rest : cover n (length front) (drop i bs) ≡ 0
  pub most : length front ≤ 4 ^ n
  pub whole : paint bs ≡ front ++ paint (drop i bs)
  pub painted : (j : ℕ) → j < 4 ^ n → code_at n j < length front → get_or new j 0 ≡ get_or (paint bs) (code_at n j) 0
  pub beyond : (j : ℕ) → 4 ^ n ≤ j → get_or new j 0 ≡ get_or old j 0

-- A block of the list: its square lies in a raster of the length `size`.
pub record Placeable (n : ℕ) (b : Block) (size : ℕ) : Type 0 where
  pub level : b.level ≤ n
  pub room : b.code < 4 ^ n
  pub multiple : b.code % 4 ^ b.level ≡ 0
  pub fits : RowsFit size (2 ^ n) (place n b.code) (2 ^ b.level) (2 ^ b.level)

module _ {n : ℕ} {bs : List Block} {old : List ℕ} where
  pub painting_none : cover n 0 bs ≡ 0 → Painting n bs old old 0
  painting_none h = record {
    within = omega arith;
    long = refl;
    front = [];
    rest = h;
    most = omega arith;
    whole = refl;
    painted = λ j a b. absurd (omega arith);
    beyond = λ j a. refl;
  }

  module _ {new : List ℕ} {i : ℕ} (p : Painting n bs old new i) (b : Block) (here : drop i bs ≡ b ∷ drop (i + 1) bs) where
    step : NextBlock n (length p.front) b (drop (i + 1) bs)
    step = cover-zero n (length p.front) b (drop (i + 1) bs) p.most (sym (ap (cover n (length p.front)) here) ∙ p.rest)

    pub placeable : 4 ^ n ≤ length old → Placeable n b (length new)
    placeable enough =
        let room : b.code < 4 ^ n = omega (arith, step.here, step.room) in
        record {
          level = step.low;
          room = room;
          multiple = step.multiple;
          fits = λ j h. omega (arith, square_fits n b.level b.code step.low room step.multiple j h, p.long, enough);
        }

    -- The colours that the block paints.
    in_block : (d : ℕ) → length p.front ≤ d → d < length p.front + 4 ^ b.level → get_or (paint bs) d 0 ≡ b.colour
    unfolding paint
    in_block d a h =
        let k : ℕ = d - length p.front in
        let e : d ≡ length p.front + k = omega arith in
        let run : List ℕ = replicate (4 ^ b.level) b.colour in
        ap₂ (λ (l : List ℕ) (z : ℕ). get_or l z 0) (p.whole ∙ ap (λ (l : List Block). p.front ++ paint l) here) e
        ∙ get_or-append-add p.front (run ++ paint (drop (i + 1) bs)) k 0
        ∙ get_or-append run (paint (drop (i + 1) bs)) 0 k (omega (arith, length-replicate (4 ^ b.level) b.colour))
        ∙ get_or-replicate (4 ^ b.level) k b.colour 0 (omega arith)

    painting_more : {newer : List ℕ} → i < length bs → 4 ^ n ≤ length old
        → RowsFilled (2 ^ n) (place n b.code) (2 ^ b.level) (2 ^ b.level) b.colour new newer → Painting n bs old newer (i + 1)
    unfolding paint
    painting_more {newer} more enough filled = record {
      within = omega arith;
      long = filled.long ∙ p.long;
      front = p.front ++ replicate (4 ^ b.level) b.colour;
      rest = ap (λ (s : ℕ). cover n s (drop (i + 1) bs)) size ∙ step.rest;
      most = omega (arith, size, step.fits);
      whole =
          p.whole ∙ ap (λ (l : List Block). p.front ++ paint l) here
          ∙ sym (append_assoc p.front (replicate (4 ^ b.level) b.colour) (paint (drop (i + 1) bs)));
      painted = λ j a h. by j a (omega (arith, size)) (dec_lt (code_at n j) (length p.front));
      beyond = λ j a. filled.outside j (λ x y k l e. omega (arith, e, space.fits y l, enough, p.long, a, far x y k l)) ∙ p.beyond j a;
    }
      where
        space : Placeable n b (length new)
        space = placeable enough

        size : length (p.front ++ replicate (4 ^ b.level) b.colour) ≡ length p.front + 4 ^ b.level
        size = omega (arith, length-append p.front (replicate (4 ^ b.level) b.colour), length-replicate (4 ^ b.level) b.colour)

        far : (x y : ℕ) → x < 2 ^ b.level → y < 2 ^ b.level → place n b.code + y * 2 ^ n + x < 4 ^ n
        far x y k l = omega (arith, square_fits n b.level b.code step.low space.room step.multiple y l)

        by : (j : ℕ) → j < 4 ^ n → code_at n j < length p.front + 4 ^ b.level → Dec (code_at n j < length p.front) → get_or newer j 0 ≡ get_or (paint bs) (code_at n j) 0
        by j a h (yes t) =
            filled.outside j (λ x y k l e. omega (arith, of_square n b.level b.code step.low space.room step.multiple j a x y k l e, step.here))
            ∙ p.painted j a t
        by j a h (no f) =
            let s = place_in_square n b.level b.code step.low space.room step.multiple j a (omega (arith, step.here)) (omega (arith, step.here)) in
            ap (λ (z : ℕ). get_or newer z 0) s.4 ∙ filled.inside s.0 s.1 s.2 s.3
            ∙ sym (in_block (code_at n j) (omega arith) h)

  -- All blocks done, the raster is the image row by row.
  pub painting_all : {new : List ℕ} {i : ℕ} → Painting n bs old new i → length bs ≤ i → 4 ^ n ≤ length old → new ≡ over (in_rows n (paint bs)) old
  unfolding code_at
  painting_all {new} {i} p past enough =
      let size : length (in_rows n (paint bs)) ≡ 4 ^ n = length_in_rows n (paint bs) in
      let full : length p.front ≡ 4 ^ n =
      cover-zero_end n (length p.front) p.most (sym (ap (cover n (length p.front)) (drop_of_length-le bs {i = i} past)) ∙ p.rest) in
      ext_get_or 0 new (over (in_rows n (paint bs)) old) (p.long ∙ sym (length_over (in_rows n (paint bs)) old (omega arith))) (λ j h.
      elim (dec_lt j (4 ^ n)) [
        | yes a ↦
            p.painted j a (omega (arith, full, below j))
            ∙ sym (over_inside (in_rows n (paint bs)) old j (omega arith) ∙ in_rows_at n (paint bs) j a)
        | no a ↦ p.beyond j (omega arith) ∙ sym (over_beyond (in_rows n (paint bs)) old j (omega arith))
      ])
    where
      below : (j : ℕ) → code_at n j < 4 ^ n
      below j = code_below n (j % 2 ^ n) (j / 2 ^ n)

-- An accepted list, and a raster with room for its image.
pub record Paintable (n : ℕ) (codes levels colours raster : List ℕ) : Type 0 where
  pub small : n ≤ 8
  pub long : EqualLengths codes levels colours
  pub covered : cover n 0 (blocks codes levels colours) ≡ 0
  pub enough : 4 ^ n ≤ length raster

-- The loop over the three lists, in rows of w.
pub record PaintedTo (n : ℕ) (codes levels colours old : List ℕ) (w : ℕ) (new : List ℕ) (i : ℕ) : Type 0 where
  pub wide : w ≡ 2 ^ n
  pub painting : Painting n (blocks codes levels colours) old new i

module _ {n : ℕ} {codes levels colours old : List ℕ} (ok : Paintable n codes levels colours old) where
  pub painted_none : {w : ℕ} → w ≡ side_of n → PaintedTo n codes levels colours old w old 0
  painted_none e = record { wide = e ∙ side_is_power n (omega (arith, ok.small)); painting = painting_none ok.covered }

  module _ {w : ℕ} {new : List ℕ} {i : ℕ} (p : PaintedTo n codes levels colours old w new i) where
    pub same_length : length new ≡ length old
    same_length = p.painting.long

    module _ (more : i < length codes) where
      b : Block
      b = block_of codes levels colours i

      here : drop i (blocks codes levels colours) ≡ block_of codes levels colours i ∷ drop (i + 1) (blocks codes levels colours)
      here = rest-after codes levels colours ok.long i more

      pub at_block : Placeable n (block_of codes levels colours i) (length new)
      at_block = placeable p.painting (block_of codes levels colours i) here ok.enough

      code_inside : get_or codes i 0 < 4 ^ n
      unfolding block_of
      code_inside = at_block.room

      -- Where its square begins.
      pub block_placed : {at : ℕ} → at ≡ place_of n (get_or codes i 0) → at ≡ place n (get_or codes i 0)
      block_placed e = e ∙ place_worked_out n (get_or codes i 0) (omega (arith, ok.small)) code_inside

      module _ {at s : ℕ} (ea : at ≡ place n (get_or codes i 0)) (es : s ≡ side_of (get_or levels i 0)) where
        side : s ≡ 2 ^ get_or levels i 0
        unfolding block_of
        side = es ∙ side_is_power (get_or levels i 0) (omega (arith, at_block.level, ok.small))

        pub block_fits : (w ≤ 256) × RowsFit (length new) w at s s
        unfolding block_of
        block_fits = rw (p.wide, ea, side) (pow2_mono ok.small, at_block.fits)

        pub painted_more : {newer : List ℕ} → RowsFilled w at s s (get_or colours i 0) new newer → PaintedTo n codes levels colours old w newer (i + 1)
        unfolding block_of
        painted_more {newer} f = record {
          wide = p.wide;
          painting =
              painting_more p.painting (block_of codes levels colours i) here
              (omega (arith, length-blocks codes levels colours ok.long)) ok.enough (rw (p.wide, ea, side) at f);
        }

    pub painted_all : length codes ≤ i → new ≡ over (in_rows n (paint (blocks codes levels colours))) old
    painted_all past = painting_all p.painting (omega (arith, length-blocks codes levels colours ok.long)) ok.enough
