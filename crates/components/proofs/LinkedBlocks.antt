-- The pairs joined by the first k blocks link exactly the blocks whose pixels are connected within the first k blocks.
use Rattle.std.specs.Prelude.{◌≡◌, ◌⊎◌, ◌↔◌, ℕ, zero, suc, ◌+◌, ◌-◌, ◌^◌, ◌≤◌, ◌<◌, length, take, get_or}
use Rattle.std.proofs.Common.{sym, ap, ap₂, ◌∙◌, subst, inl, inr, eq-or-lt_of_le, arith}
use mathlib.Core.List.{List, Memᴰ}
use Rattle.std.proofs.Math.Decide.{dec_lt}
use Rattle.sequences.specs.Maps.{get_d_map}
use Rattle.sequences.specs.Powers.{pow2_pos}
use Rattle.interleaving.specs.Codes.{code, column, row}
use Rattle.interleaving.specs.Interleaving.{column-below, row_below, column_of_code, row_of_code, code_of_coordinates, code_below}
use Rattle.location.specs.Squares.{square_in_image}
use Rattle.quadtree.specs.Blocks.{Block, pixels, paint}
use Rattle.quadtree.specs.Number.{cover}
use Rattle.quadtree.specs.Fields.{colours}
use Rattle.unions.specs.Pairs.{Pair, pair_of, Linked, same, symmetric, transitive, listed, linked_as}
use Rattle.components.specs.Joined.{Step, north, east, south, west, Beside, Connected, start, on}
use Rattle.components.proofs.Joined.{connected_from, connected_to, connected_through, connected_step, connected_back}
use Rattle.components.specs.Holders.{block_at, holder, HoldsAt, one_holder, held-before, held_colour, placed, pixel_held}
use Rattle.components.proofs.Labels.{block_is_connected}
use Rattle.components.specs.LastBlocks.{last_in_column, last_in_row, ColumnOf, RowOf, square-held, held-square, north-entry, west-entry}
use Rattle.components.specs.BlockPairs.{north_pairs, west_pairs, block_pairs, OfSpan, span_pair, span-listed, north_pairs_lem, no_north_pairs, west_pairs_lem, no_west_pairs, no_pairs, north_among, west_among, newest_pairs}

pub colour_at_lem : (bs : List Block) (i : ℕ) → i < length bs → get_or (colours bs) i 0 ≡ (block_at bs i).colour
colour_at_lem bs i h = get_d_map (λ (b : Block). b.colour) bs i (record { code = 0; level = 0; colour = 0 }) 0 h

-- Two of the first k blocks that have neighbouring pixels of one colour.
pub record Touching (n : ℕ) (bs : List Block) (k : ℕ) (e : Pair) : Type 0 where
  pub one_done : e.one < k
  pub two_done : e.two < k
  pub c : ℕ
  pub d : ℕ
  pub one_holds : HoldsAt bs e.one c
  pub two_holds : HoldsAt bs e.two d
  pub beside : Beside n c d
  pub alike : get_or (paint bs) d 0 ≡ get_or (paint bs) c 0

module _ (n : ℕ) (bs : List Block) (covering : cover n 0 bs ≡ 0) where
  -- Held pixels have one colour exactly when the entries of the colour list are equal.
  colours-held : (i j c d : ℕ) → HoldsAt bs i c → HoldsAt bs j d → get_or (colours bs) i 0 ≡ get_or (colours bs) j 0 → get_or (paint bs) d 0 ≡ get_or (paint bs) c 0
  colours-held i j c d f g e =
      held_colour bs j d g ∙ sym (colour_at_lem bs j g.place) ∙ sym e ∙ colour_at_lem bs i f.place ∙ sym (held_colour bs i c f)

  held-colours : (i j c d : ℕ) → HoldsAt bs i c → HoldsAt bs j d → get_or (paint bs) c 0 ≡ get_or (paint bs) d 0 → get_or (colours bs) i 0 ≡ get_or (colours bs) j 0
  held-colours i j c d f g e =
      colour_at_lem bs i f.place ∙ sym (held_colour bs i c f) ∙ e ∙ held_colour bs j d g ∙ sym (colour_at_lem bs j g.place)

  -- ---- every pair that is joined touches

  module _ (k : ℕ) (place : k < length bs) where
    here : (block_at bs k).code ≡ pixels (take k bs)
    here = (placed n bs covering k place).here

    fits : (column n (pixels (take k bs)) + 2 ^ (block_at bs k).level ≤ 2 ^ n) × (row n (pixels (take k bs)) + 2 ^ (block_at bs k).level ≤ 2 ^ n) × (pixels (take k bs) + 4 ^ (block_at bs k).level ≤ 4 ^ n)
    fits = let p = placed n bs covering k place in square_in_image n (block_at bs k).level (pixels (take k bs)) p.low p.room p.multiple

    first_row_of : RowOf n bs k (row n (pixels (take k bs)))
    first_row_of = record { from_north = omega arith; to_south = omega (arith, pow2_pos (block_at bs k).level) }

    first_column_of : ColumnOf n bs k (column n (pixels (take k bs)))
    first_column_of = record { from_west = omega arith; to_east = omega (arith, pow2_pos (block_at bs k).level) }

    north_touches : (e : Pair) → 0 < row n (block_at bs k).code
        → OfSpan (last_in_column n bs k) (colours bs) k (column n (block_at bs k).code) (2 ^ (block_at bs k).level) e → Touching n bs (suc k) e
    north_touches e positive o =
        let p : 0 < row n (pixels (take k bs)) = rw here at positive in
        let x : ℕ = o.at in
        let y : ℕ = row n (pixels (take k bs)) in
        let xs : ColumnOf n bs k x = record { from_west = omega (arith, ap (column n) here, o.from); to_east = omega (arith, ap (column n) here, o.before) } in
        let up = north-entry n bs covering k place x xs p in
        let mine : HoldsAt bs k (code n x y) = square-held n bs covering k place x y xs first_row_of in
        let other : HoldsAt bs e.one (code n x (y - 1)) = rw o.one up.holds in
        let cx : column n (code n x y) ≡ x = column_of_code n x y (omega (arith, fits, xs.to_east)) in
        let cy : row n (code n x y) ≡ y = row_of_code n x y (row_below n (pixels (take k bs))) in
        let cx' : column n (code n x (y - 1)) ≡ x = column_of_code n x (y - 1) (omega (arith, fits, xs.to_east)) in
        let cy' : row n (code n x (y - 1)) ≡ y - 1 = row_of_code n x (y - 1) (omega (arith, row_below n (pixels (take k bs)))) in
        record {
          one_done = omega (arith, o.one, up.done);
          two_done = omega (arith, o.two);
          c = code n x (y - 1);
          d = code n x y;
          one_holds = other;
          two_holds = rw o.two mine;
          beside = record { from = code_below n x (y - 1); to = code_below n x y; step = south (cx ∙ sym cx') (omega arith) };
          alike = colours-held e.one k (code n x (y - 1)) (code n x y) other mine (ap (λ (b : ℕ). get_or (colours bs) b 0) o.one ∙ o.alike);
        }

    west_touches : (e : Pair) → 0 < column n (block_at bs k).code
        → OfSpan (last_in_row n bs k) (colours bs) k (row n (block_at bs k).code) (2 ^ (block_at bs k).level) e → Touching n bs (suc k) e
    west_touches e positive o =
        let p : 0 < column n (pixels (take k bs)) = rw here at positive in
        let y : ℕ = o.at in
        let x : ℕ = column n (pixels (take k bs)) in
        let ys : RowOf n bs k y = record { from_north = omega (arith, ap (row n) here, o.from); to_south = omega (arith, ap (row n) here, o.before) } in
        let up = west-entry n bs covering k place y ys p in
        let mine : HoldsAt bs k (code n x y) = square-held n bs covering k place x y first_column_of ys in
        let other : HoldsAt bs e.one (code n (x - 1) y) = rw o.one up.holds in
        let cx : column n (code n x y) ≡ x = column_of_code n x y (column-below n (pixels (take k bs))) in
        let cy : row n (code n x y) ≡ y = row_of_code n x y (omega (arith, fits, ys.to_south)) in
        let cx' : column n (code n (x - 1) y) ≡ x - 1 = column_of_code n (x - 1) y (omega (arith, column-below n (pixels (take k bs)))) in
        let cy' : row n (code n (x - 1) y) ≡ y = row_of_code n (x - 1) y (omega (arith, fits, ys.to_south)) in
        record {
          one_done = omega (arith, o.one, up.done);
          two_done = omega (arith, o.two);
          c = code n (x - 1) y;
          d = code n x y;
          one_holds = other;
          two_holds = rw o.two mine;
          beside = record { from = code_below n (x - 1) y; to = code_below n x y; step = east (omega arith) (cy ∙ sym cy') };
          alike = colours-held e.one k (code n (x - 1) y) (code n x y) other mine (ap (λ (b : ℕ). get_or (colours bs) b 0) o.one ∙ o.alike);
        }

    north_pair_touches : (e : Pair) → Memᴰ e (north_pairs n bs k) → Touching n bs (suc k) e
    north_pair_touches e m = pick (eq-or-lt_of_le (omega arith))
      where
        pick : (0 ≡ row n (block_at bs k).code) ⊎ (0 < row n (block_at bs k).code) → Touching n bs (suc k) e
        pick (inl z) = absurd (mathlib.Core.List.Memᴰ.not-nil (rw (no_north_pairs n bs k (sym z)) at m))
        pick (inr p) = north_touches e p (span_pair _ _ _ _ _ e (rw (north_pairs_lem n bs k p) at m))

    west_pair_touches : (e : Pair) → Memᴰ e (west_pairs n bs k) → Touching n bs (suc k) e
    west_pair_touches e m = pick (eq-or-lt_of_le (omega arith))
      where
        pick : (0 ≡ column n (block_at bs k).code) ⊎ (0 < column n (block_at bs k).code) → Touching n bs (suc k) e
        pick (inl z) = absurd (mathlib.Core.List.Memᴰ.not-nil (rw (no_west_pairs n bs k (sym z)) at m))
        pick (inr p) = west_touches e p (span_pair _ _ _ _ _ e (rw (west_pairs_lem n bs k p) at m))

  pub joined_pairs_touch : (k : ℕ) → k ≤ length bs → (e : Pair) → Memᴰ e (block_pairs n bs k) → Touching n bs k e
  joined_pairs_touch zero l e m = absurd (mathlib.Core.List.Memᴰ.not-nil (rw (no_pairs n bs) at m))
  joined_pairs_touch (suc k) l e m = pick (joined_pairs_touch k (omega arith) e) (newest_pairs n bs k e m)
    where
      later : Touching n bs k e → Touching n bs (suc k) e
      later t = record {
        one_done = omega (arith, t.one_done);
        two_done = omega (arith, t.two_done);
        c = t.c;
        d = t.d;
        one_holds = t.one_holds;
        two_holds = t.two_holds;
        beside = t.beside;
        alike = t.alike;
      }

      pick : (Memᴰ e (block_pairs n bs k) → Touching n bs k e) → Memᴰ e (west_pairs n bs k) ⊎ (Memᴰ e (north_pairs n bs k) ⊎ Memᴰ e (block_pairs n bs k))
          → Touching n bs (suc k) e
      pick ih (inl w) = west_pair_touches k l e w
      pick ih (inr (inl v)) = north_pair_touches k l e v
      pick ih (inr (inr o)) = later (ih o)

  -- ---- linked blocks are connected

  module _ (k : ℕ) (most : k ≤ length bs) where
    -- the first pixels of two blocks are connected within the first k blocks
    Firsts : ℕ → ℕ → Type 0
    Firsts i j = Connected n (paint bs) (pixels (take k bs)) (pixels (take i bs)) (pixels (take j bs))

    touching_connected : (e : Pair) → Touching n bs k e → Firsts e.one e.two
    unfolding Firsts
    touching_connected e t =
        let p = block_is_connected n bs covering e.one t.c k t.one_holds t.one_done in
        let q = block_is_connected n bs covering e.two t.d k t.two_holds t.two_done in
        connected_through (connected_back p) (connected_through (connected_step (connected_from p) (connected_from q) t.beside t.alike) q)

    linked_firsts : {i j : ℕ} → Linked (block_pairs n bs k) i j → (i ≡ j) ⊎ Firsts i j
    unfolding Firsts
    linked_firsts = linked_as (block_pairs n bs k) Firsts (λ e l. touching_connected e (joined_pairs_touch k most e l)) (λ i j. connected_back) (λ i j o. connected_through)

    pub linked_connected : (i j c d : ℕ) → i < k → j < k → HoldsAt bs i c → HoldsAt bs j d → Linked (block_pairs n bs k) i j → Connected n (paint bs) (pixels (take k bs)) c d
    unfolding Firsts
    linked_connected i j c d a b f g l =
        let p = block_is_connected n bs covering i c k f a in
        let q = block_is_connected n bs covering j d k g b in
        pick p q (linked_firsts l)
      where
        pick : Connected n (paint bs) (pixels (take k bs)) c (pixels (take i bs)) → Connected n (paint bs) (pixels (take k bs)) d (pixels (take j bs))
            → (i ≡ j) ⊎ Firsts i j → Connected n (paint bs) (pixels (take k bs)) c d
        pick p q (inl e) = connected_through p (subst (λ (z : ℕ). Connected n (paint bs) (pixels (take k bs)) (pixels (take z bs)) d) (sym e) (connected_back q))
        pick p q (inr r) = connected_through p (connected_through r (connected_back q))

    -- ---- connected blocks are linked

    -- The pixel d = (x, y) in block j, the pixel c straight north of it in block i: one block, or a pair of block j's.
    north_linked : (i j x y : ℕ) → x < 2 ^ n → suc y < 2 ^ n → j < k → HoldsAt bs i (code n x y) → HoldsAt bs j (code n x (suc y))
        → get_or (paint bs) (code n x y) 0 ≡ get_or (paint bs) (code n x (suc y)) 0 → Linked (block_pairs n bs k) i j
    north_linked i j x y a b l f g e = pick (dec_lt (row n (pixels (take j bs))) (suc y))
      where
        spans : ColumnOf n bs j x × RowOf n bs j (suc y)
        spans = held-square n bs covering j g.place x (suc y) a b g

        inside : row n (pixels (take j bs)) < suc y → HoldsAt bs j (code n x y)
        inside h =
            square-held n bs covering j g.place x y spans.0
            (record { from_north = omega arith; to_south = omega (arith, spans.1.to_south) })

        above : row n (pixels (take j bs)) ≡ suc y → Linked (block_pairs n bs k) i j
        above top =
            let spot : (block_at bs j).code ≡ pixels (take j bs) = (placed n bs covering j g.place).here in
            let positive : 0 < row n (block_at bs j).code = omega (arith, ap (row n) spot) in
            let entry = north-entry n bs covering j g.place x spans.0 (omega arith) in
            let up : row n (pixels (take j bs)) - 1 ≡ y = omega arith in
            let named : last_in_column n bs j x ≡ i = one_holder bs (last_in_column n bs j x) i (code n x y) (rw up at entry.holds) f in
            let listing : Memᴰ (pair_of (last_in_column n bs j x) j) (north_pairs n bs j) =
            rw (north_pairs_lem n bs j positive)
            (span-listed (last_in_column n bs j) (colours bs) j (column n (block_at bs j).code) (2 ^ (block_at bs j).level) x
            (omega (arith, ap (column n) spot, spans.0.from_west)) (omega (arith, ap (column n) spot, spans.0.to_east))
            (rw named (held-colours i j (code n x y) (code n x (suc y)) f g e))) in
            listed (block_pairs n bs k) i j (rw named at (north_among n bs j k (pair_of (last_in_column n bs j x) j) l listing))

        pick : Dec (row n (pixels (take j bs)) < suc y) → Linked (block_pairs n bs k) i j
        pick (yes h) = same (one_holder bs i j (code n x y) f (inside h))
        pick (no h) = above (omega (arith, spans.1.from_north))

    west_linked : (i j x y : ℕ) → suc x < 2 ^ n → y < 2 ^ n → j < k → HoldsAt bs i (code n x y) → HoldsAt bs j (code n (suc x) y)
        → get_or (paint bs) (code n x y) 0 ≡ get_or (paint bs) (code n (suc x) y) 0 → Linked (block_pairs n bs k) i j
    west_linked i j x y a b l f g e = pick (dec_lt (column n (pixels (take j bs))) (suc x))
      where
        spans : ColumnOf n bs j (suc x) × RowOf n bs j y
        spans = held-square n bs covering j g.place (suc x) y a b g

        inside : column n (pixels (take j bs)) < suc x → HoldsAt bs j (code n x y)
        inside h =
            square-held n bs covering j g.place x y
            (record { from_west = omega arith; to_east = omega (arith, spans.0.to_east) }) spans.1

        beyond : column n (pixels (take j bs)) ≡ suc x → Linked (block_pairs n bs k) i j
        beyond top =
            let spot : (block_at bs j).code ≡ pixels (take j bs) = (placed n bs covering j g.place).here in
            let positive : 0 < column n (block_at bs j).code = omega (arith, ap (column n) spot) in
            let entry = west-entry n bs covering j g.place y spans.1 (omega arith) in
            let left : column n (pixels (take j bs)) - 1 ≡ x = omega arith in
            let named : last_in_row n bs j y ≡ i = one_holder bs (last_in_row n bs j y) i (code n x y) (rw left at entry.holds) f in
            let listing : Memᴰ (pair_of (last_in_row n bs j y) j) (west_pairs n bs j) =
            rw (west_pairs_lem n bs j positive)
            (span-listed (last_in_row n bs j) (colours bs) j (row n (block_at bs j).code) (2 ^ (block_at bs j).level) y
            (omega (arith, ap (row n) spot, spans.1.from_north)) (omega (arith, ap (row n) spot, spans.1.to_south))
            (rw named (held-colours i j (code n x y) (code n (suc x) y) f g e))) in
            listed (block_pairs n bs k) i j (rw named at (west_among n bs j k (pair_of (last_in_row n bs j y) j) l listing))

        pick : Dec (column n (pixels (take j bs)) < suc x) → Linked (block_pairs n bs k) i j
        pick (yes h) = same (one_holder bs i j (code n x y) f (inside h))
        pick (no h) = beyond (omega (arith, spans.0.from_west))

    -- One step between pixels of the first k blocks.
    south_step : (i j c d : ℕ) → c < 4 ^ n → d < 4 ^ n → j < k → HoldsAt bs i c → HoldsAt bs j d → column n d ≡ column n c → row n d ≡ suc (row n c)
        → get_or (paint bs) c 0 ≡ get_or (paint bs) d 0 → Linked (block_pairs n bs k) i j
    south_step i j c d a b l f g x y e =
        let at_c : code n (column n c) (row n c) ≡ c = code_of_coordinates n c a in
        let at_d : code n (column n c) (suc (row n c)) ≡ d = ap₂ (code n) (sym x) (sym y) ∙ code_of_coordinates n d b in
        north_linked i j (column n c) (row n c) (column-below n c) (omega (arith, row_below n d)) l (rw at_c f) (rw at_d g) (rw (at_c, at_d) e)

    east_step : (i j c d : ℕ) → c < 4 ^ n → d < 4 ^ n → j < k → HoldsAt bs i c → HoldsAt bs j d → column n d ≡ suc (column n c) → row n d ≡ row n c
        → get_or (paint bs) c 0 ≡ get_or (paint bs) d 0 → Linked (block_pairs n bs k) i j
    east_step i j c d a b l f g x y e =
        let at_c : code n (column n c) (row n c) ≡ c = code_of_coordinates n c a in
        let at_d : code n (suc (column n c)) (row n c) ≡ d = ap₂ (code n) (sym x) (sym y) ∙ code_of_coordinates n d b in
        west_linked i j (column n c) (row n c) (omega (arith, column-below n d)) (row_below n c) l (rw at_c f) (rw at_d g) (rw (at_c, at_d) e)

    step_linked : (i j c d : ℕ) → i < k → j < k → HoldsAt bs i c → HoldsAt bs j d → c < 4 ^ n → d < 4 ^ n → Step n c d → get_or (paint bs) d 0 ≡ get_or (paint bs) c 0
        → Linked (block_pairs n bs k) i j
    step_linked i j c d p q f g a b (north x y) e = symmetric (south_step j i d c b a p g f (sym x) (sym y) e)
    step_linked i j c d p q f g a b (east x y) e = east_step i j c d a b q f g x y (sym e)
    step_linked i j c d p q f g a b (south x y) e = south_step i j c d a b q f g x y (sym e)
    step_linked i j c d p q f g a b (west x y) e = symmetric (east_step j i d c b a p g f (sym x) (sym y) e)

    connected_linked : {c d : ℕ} → Connected n (paint bs) (pixels (take k bs)) c d → (i j : ℕ) → HoldsAt bs i c → HoldsAt bs j d → Linked (block_pairs n bs k) i j
    connected_linked {c} (start h) i j f g = same (one_holder bs i j c f g)
    connected_linked {c} (on {d} {e} p b l h) i j f g =
        let held : HoldsAt bs (holder bs d) d = pixel_held n bs covering d b.from in
        transitive (connected_linked p i (holder bs d) f held)
        (step_linked (holder bs d) j d e ((held-before bs (holder bs d) d k held).0 (connected_to p)) ((held-before bs j e k g).0 l) held g b.from b.to b.step h)

    -- Blocks are linked by the pairs joined so far exactly when paths of one colour within the first k blocks connect their pixels.
    pub linked_exactly_when_connected : (i j c d : ℕ) → i < k → j < k → HoldsAt bs i c → HoldsAt bs j d
        → Linked (block_pairs n bs k) i j ↔ Connected n (paint bs) (pixels (take k bs)) c d
    linked_exactly_when_connected i j c d a b f g = (linked_connected i j c d a b f g, λ p. connected_linked p i j f g)
