-- Four single pixels of an accepted list painted at once.
use Rattle.std.specs.Prelude.{◌≡◌, length, set, drop}
use Rattle.std.proofs.Math.Path.{refl, ap, subst}
use Rattle.std.proofs.Common.{sym, ◌∙◌}
use mathlib.Core.List.{List, ◌∷◌}
use Prim.Native.Nat.{ℕ, zero, suc, ◌+◌, ◌%◌, ◌^◌, ◌≤◌, ◌<◌}
use native.Mathlib.Omega.{arith}
use Rattle.std.proofs.Math.ListN.{get_or}
use Rattle.sequences.specs.Powers.{pow2_mono}
use Rattle.location.specs.Levels.{side_of, side_is_power}
use Rattle.quadtree.specs.Blocks.{blocks}
use Rattle.quadtree.specs.Number.{cover}
use Rattle.quadtree.specs.Raster.{place}
use Rattle.quadtree.specs.Orders.{place_in}
use Rattle.quadtree.specs.Covering.{NextBlock, cover-zero}
use Rattle.quadtree.specs.Lists.{block_of, rest-after}
use Rattle.squares.specs.Filling.{one_filled}
use Rattle.squares.specs.BlockByBlock.{Paintable, PaintedTo, block_fits, painted_more}
use Rattle.squares.specs.Fours.{four_stored}
use Rattle.squares.specs.Quadrants.{FourPlaces, four_places, level_of_other}

module _ {n : ℕ} {codes levels colours old : List ℕ} (ok : Paintable n codes levels colours old) where
  painted_pixel : {w : ℕ} {new : List ℕ} {i at : ℕ} (j : ℕ) → i + 1 ≡ j → PaintedTo n codes levels colours old w new i → i < length codes → get_or levels i 0 ≡ 0
      → at ≡ place n (get_or codes i 0) → PaintedTo n codes levels colours old w (set new at (get_or colours i 0)) j
  painted_pixel {w} {new} {i} {at} j e p more level ea =
      let one : 1 ≡ side_of (get_or levels i 0) = sym (ap side_of level ∙ side_is_power 0 (omega arith)) in
      let room = (block_fits ok p more ea one).1 0 (omega arith) in
      subst (PaintedTo n codes levels colours old w (set new at (get_or colours i 0))) e (painted_more ok p more ea one (one_filled refl (omega (arith, room))))

  -- Four single pixels from the place i on.
  module _ {w : ℕ} {new : List ℕ} {i at : ℕ} (p : PaintedTo n codes levels colours old w new i) (more : i + 3 < length codes)
      (level : get_or levels i 0 ≡ 0) (multiple : get_or codes i 0 % 4 ≡ 0) (ea : at ≡ place n (get_or codes i 0)) where
    next : (j k sum : ℕ) → j < length codes → j + 1 ≡ k → sum ≤ 4 ^ n → cover n sum (drop j (blocks codes levels colours)) ≡ 0
        → NextBlock n sum (block_of codes levels colours j) (drop k (blocks codes levels colours))
    next j k sum h e most covered =
        cover-zero n sum (block_of codes levels colours j) (drop k (blocks codes levels colours)) most
        (sym (ap (cover n sum) (rest-after codes levels colours ok.long j h ∙ ap (λ (m : ℕ). block_of codes levels colours j ∷ drop m (blocks codes levels colours)) e)) ∙ covered)

    -- After a single pixel and before a multiple of 4 stands a single pixel.
    single : (j k m s : ℕ) → k < length codes → j + 1 ≡ k → k + 1 ≡ m → get_or levels j 0 ≡ 0
        → NextBlock n s (block_of codes levels colours j) (drop k (blocks codes levels colours)) → (suc s % 4 ≡ 0 → ⊥)
        → (get_or levels k 0 ≡ 0) × NextBlock n (suc s) (block_of codes levels colours k) (drop m (blocks codes levels colours))
    unfolding block_of
    single j k m s h e f single_before before other =
        let one : s + 4 ^ get_or levels j 0 ≡ suc s = ap (λ (l : ℕ). s + 4 ^ l) single_before ∙ omega arith in
        let here = next k m (suc s) h f (omega (arith, before.fits, one)) (ap (λ (t : ℕ). cover n t (drop k (blocks codes levels colours))) (sym one) ∙ before.rest) in
        (level_of_other (get_or codes k 0) (get_or levels k 0) here.multiple (λ t. other (ap (λ (c : ℕ). c % 4) (sym here.here) ∙ t)), here)

    first : NextBlock n (length p.painting.front) (block_of codes levels colours i) (drop (i + 1) (blocks codes levels colours))
    first = next i (i + 1) (length p.painting.front) (omega arith) refl p.painting.most p.painting.rest

    start : (length p.painting.front ≡ get_or codes i 0) × (length p.painting.front % 4 ≡ 0)
    unfolding block_of
    start = (sym first.here, ap (λ (c : ℕ). c % 4) (sym first.here) ∙ multiple)

    second : (get_or levels (i + 1) 0 ≡ 0) × NextBlock n (suc (length p.painting.front)) (block_of codes levels colours (i + 1)) (drop (i + 2) (blocks codes levels colours))
    second = single i (i + 1) (i + 2) (length p.painting.front) (omega arith) refl (omega arith) level first (λ e. omega (arith, start))

    third : (get_or levels (i + 2) 0 ≡ 0) × NextBlock n (suc (suc (length p.painting.front))) (block_of codes levels colours (i + 2)) (drop (i + 3) (blocks codes levels colours))
    third = single (i + 1) (i + 2) (i + 3) (suc (length p.painting.front)) (omega arith) (omega arith) (omega arith) second.0 second.1 (λ e. omega (arith, start))

    fourth : (get_or levels (i + 3) 0 ≡ 0) × NextBlock n (suc (suc (suc (length p.painting.front)))) (block_of codes levels colours (i + 3)) (drop (i + 4) (blocks codes levels colours))
    fourth = single (i + 2) (i + 3) (i + 4) (suc (suc (length p.painting.front))) (omega arith) (omega arith) (omega arith) third.0 third.1 (λ e. omega (arith, start))

    places : FourPlaces n (get_or codes i 0)
    places = four_places n (get_or codes i 0) (more_than_one n second.1.room) (omega (arith, start, first.room)) multiple
      where
        more_than_one : (n : ℕ) → suc (length p.painting.front) < 4 ^ n → 0 < n
        more_than_one zero h = absurd (omega arith)
        more_than_one (suc n) h = omega arith

    pub four_room : (w ≤ 256) × (at + w + 1 < length new)
    four_room =
        (omega (arith, p.wide, pow2_mono ok.small), omega (arith, ea, p.wide, places.southeast, place_in n (get_or codes i 0 + 3), ok.enough, p.painting.long))

    pub painted_four : {newer : List ℕ} → newer ≡ four_stored w at (get_or colours i 0) (get_or colours (i + 1) 0) (get_or colours (i + 2) 0) (get_or colours (i + 3) 0) new → PaintedTo n codes levels colours old w newer (i + 4)
    unfolding four_stored block_of
    painted_four stored =
        let northwest = painted_pixel (i + 1) refl p (omega arith) level ea in
        let northeast = painted_pixel (i + 2) (omega arith) northwest (omega arith) second.0 (at_place (at + 1) 1 (i + 1) (omega (arith, ea, places.east)) (omega (arith, start, second.1.here))) in
        let southwest = painted_pixel (i + 3) (omega arith) northeast (omega arith) third.0 (at_place (at + w) 2 (i + 2) (omega (arith, ea, p.wide, places.south)) (omega (arith, start, third.1.here))) in
        let southeast = painted_pixel (i + 4) (omega arith) southwest (omega arith) fourth.0 (at_place (at + w + 1) 3 (i + 3) (omega (arith, ea, p.wide, places.southeast)) (omega (arith, start, fourth.1.here))) in
        subst (λ (list : List ℕ). PaintedTo n codes levels colours old w list (i + 4)) (sym stored) southeast
      where
        at_place : (here k j : ℕ) → here ≡ place n (get_or codes i 0 + k) → get_or codes j 0 ≡ get_or codes i 0 + k → here ≡ place n (get_or codes j 0)
        at_place here k j e f = e ∙ ap (place n) (sym f)
