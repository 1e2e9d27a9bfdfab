-- The loops: row after row, and pixel after pixel of a row. What is left to move makes up the whole.
use Rattle.std.specs.Prelude.{◌≡◌, length, get_or}
use Rattle.std.proofs.Math.Path.{sym, ap, ap₂}
use Rattle.std.proofs.Common.{◌∙◌, suc-mul}
use mathlib.Core.List.{List}
use Prim.Native.Nat.{ℕ, suc, ◌+◌, ◌-◌, ◌*◌, ◌^◌, ◌≤◌, ◌<◌}
use Rattle.std.proofs.Math.Nat.{zero-mul}
use native.Mathlib.Omega.{arith}
use Rattle.std.proofs.Math.ListN.{set}
use Rattle.sequences.specs.Over.{over}
use Rattle.sequences.specs.Powers.{pow2_pos, pow2_mono, pow4_mono, square_of_side}
use Rattle.interleaving.specs.Codes.{code}
use Rattle.interleaving.specs.Interleaving.{code_below}
use Rattle.interleaving.specs.Splitting.{code_wider}
use Rattle.location.specs.Levels.{side_of, side_is_power}
use Rattle.rearranging.specs.Ways.{Way, to_block_order, to_rows, rearranged, code_at, read_at, written_at, source_place, target_place, pixel_inside, code_of_pixel}
use Rattle.rearranging.specs.Moving.{with_entry, moved, length_moved, moved_more, all_moved}
use Rattle.rearranging.specs.Promise.{Fits}

-- What is asked for a row: that it is one of the image.
pub record RowFits (n y source target : ℕ) : Type 0 where
  pub fit : Fits n source target
  pub inside : y < 2 ^ n

-- ---- one pixel of a row of w pixels: its place in the rows, and its code by the table

pub width : {n source target w : ℕ} → Fits n source target → w ≡ side_of n → w ≡ 2 ^ n
width {n} f side = side ∙ side_is_power n (omega (arith, f.small))

module _ {n y source target w : ℕ} (f : RowFits n y source target) (side : w ≡ side_of n) where
  -- The number of pixels, and the bytes of their coordinates.
  pub few : (4 ^ n ≤ 65536) × (y < 256) × (y * w < 65536)
  few =
      let small = f.fit.small in
      let start : y * w < 4 ^ n = omega (arith, ap (λ (k : ℕ). y * k) (width f.fit side), pixel_inside n (pow2_pos n) f.inside) in
      (pow4_mono small, omega (arith, f.inside, pow2_mono small), omega (arith, start, pow4_mono small))

  module _ {x : ℕ} (less : x < w) where
    in_row : x < 2 ^ n
    in_row = omega (arith, width f.fit side)

    pub column-byte : x < 256
    column-byte = omega (arith, in_row, pow2_mono f.fit.small)

    at : y * w + x ≡ y * 2 ^ n + x
    at = ap (λ (k : ℕ). y * k + x) (width f.fit side)

    pub place_inside : y * w + x < 4 ^ n
    place_inside = omega (arith, at, pixel_inside n in_row f.inside)

    code_by_bytes : code 8 x y ≡ code n x y
    code_by_bytes = code_wider n 8 x y f.fit.small in_row f.inside

    pub code_inside : {c : ℕ} → c ≡ code 8 x y → c < 4 ^ n
    code_inside e = omega (arith, e, code_by_bytes, code_below n x y)

    code_is : code 8 x y ≡ code_at n (y * 2 ^ n + x)
    code_is = code_by_bytes ∙ sym (code_of_pixel n in_row f.inside)

    pub pixel_stored : {c : ℕ} (raster stored : List ℕ) → c ≡ code 8 x y
        → set stored c (get_or raster (y * w + x) 0) ≡ with_entry to_block_order n raster (y * 2 ^ n + x) stored
    unfolding with_entry target_place source_place
    pixel_stored raster stored e = ap₂ (λ (d i : ℕ). set stored d (get_or raster i 0)) (e ∙ code_is) at

    pub pixel_fetched : {c : ℕ} (stored raster : List ℕ) → c ≡ code 8 x y
        → set raster (y * w + x) (get_or stored c 0) ≡ with_entry to_rows n stored (y * 2 ^ n + x) raster
    unfolding with_entry target_place source_place
    pixel_fetched stored raster e = ap₂ (λ (d i : ℕ). set raster i (get_or stored d 0)) (e ∙ code_is) at

    -- Either way.
    pub read_inside : {c : ℕ} (way : Way) → c ≡ code 8 x y → read_at way (y * w + x) c < 4 ^ n
    read_inside to_block_order e = place_inside
    read_inside to_rows e = code_inside e

    pub written_inside : {c : ℕ} (way : Way) → c ≡ code 8 x y → written_at way (y * w + x) c < 4 ^ n
    written_inside to_block_order e = code_inside e
    written_inside to_rows e = place_inside

    pub pixel_moved : {c : ℕ} (way : Way) (source target : List ℕ) → c ≡ code 8 x y
        → set target (written_at way (y * w + x) c) (get_or source (read_at way (y * w + x) c) 0) ≡ with_entry way n source (y * 2 ^ n + x) target
    pixel_moved to_block_order source target e = pixel_stored source target e
    pixel_moved to_rows source target e = pixel_fetched source target e

-- ---- the pixels of the row y, of which those before x are moved

pub record RowMoved (way : Way) (n : ℕ) (source : List ℕ) (y : ℕ) (target₀ target : List ℕ) (x : ℕ) : Type 0 where
  pub within : x ≤ 2 ^ n
  pub left : moved way n source (y * 2 ^ n + x) (2 ^ n - x) target ≡ moved way n source (y * 2 ^ n) (2 ^ n) target₀

module _ (way : Way) (n : ℕ) (source : List ℕ) (y : ℕ) where
  pub row-begun : (target : List ℕ) → RowMoved way n source y target target 0
  row-begun target =
      let e : y * 2 ^ n + 0 ≡ y * 2 ^ n = omega arith in
      let f : 2 ^ n - 0 ≡ 2 ^ n = omega arith in
      record { within = omega arith; left = ap₂ (λ (i k : ℕ). moved way n source i k target) e f }

  module _ {target₀ target : List ℕ} {x : ℕ} (p : RowMoved way n source y target₀ target x) where
    pub row_more : {target' : List ℕ} → x < 2 ^ n → target' ≡ with_entry way n source (y * 2 ^ n + x) target → RowMoved way n source y target₀ target' (x + 1)
    unfolding moved
    row_more {target'} h e =
        let one : 2 ^ n - x ≡ suc (2 ^ n - (x + 1)) = omega arith in
        let next : y * 2 ^ n + (x + 1) ≡ y * 2 ^ n + x + 1 = omega arith in
        record {
          within = omega arith;
          left =
              ap₂ (λ (i : ℕ) (l : List ℕ). moved way n source i (2 ^ n - (x + 1)) l) next e
              ∙ sym (ap (λ (k : ℕ). moved way n source (y * 2 ^ n + x) k target) one)
              ∙ p.left;
        }

    pub row_done : 2 ^ n ≤ x → target ≡ moved way n source (y * 2 ^ n) (2 ^ n) target₀
    unfolding moved
    row_done h =
        let none : 2 ^ n - x ≡ 0 = omega arith in
        sym (ap (λ (k : ℕ). moved way n source (y * 2 ^ n + x) k target) none) ∙ p.left

    pub row-length : length target ≡ length target₀
    row-length =
        sym (length_moved way n source (y * 2 ^ n + x) (2 ^ n - x) target) ∙ ap length p.left ∙ length_moved way n source (y * 2 ^ n) (2 ^ n) target₀

-- ---- the rows, of which those before y are moved

pub record RowsMoved (way : Way) (n : ℕ) (source target₀ target : List ℕ) (y : ℕ) : Type 0 where
  pub within : y ≤ 2 ^ n
  pub left : moved way n source (y * 2 ^ n) ((2 ^ n - y) * 2 ^ n) target ≡ moved way n source 0 (4 ^ n) target₀

module _ (way : Way) (n : ℕ) (source : List ℕ) where
  pub rows-begun : (target : List ℕ) → RowsMoved way n source target target 0
  rows-begun target =
      let e : 0 * 2 ^ n ≡ 0 = omega arith in
      let f : 2 ^ n - 0 ≡ 2 ^ n = omega arith in
      record { within = omega arith; left = ap₂ (λ (i k : ℕ). moved way n source i k target) e (ap (λ (k : ℕ). k * 2 ^ n) f ∙ square_of_side n) }

  module _ {target₀ target : List ℕ} {y : ℕ} (p : RowsMoved way n source target₀ target y) where
    pub rows_more : {target' : List ℕ} → y < 2 ^ n → target' ≡ moved way n source (y * 2 ^ n) (2 ^ n) target → RowsMoved way n source target₀ target' (y + 1)
    rows_more {target'} h e =
        let one : 2 ^ n - y ≡ suc (2 ^ n - (y + 1)) = omega arith in
        let split : (2 ^ n - y) * 2 ^ n ≡ 2 ^ n + (2 ^ n - (y + 1)) * 2 ^ n =
        ap (λ (k : ℕ). k * 2 ^ n) one ∙ omega (arith, suc-mul (2 ^ n - (y + 1)) (2 ^ n)) in
        let next : (y + 1) * 2 ^ n ≡ y * 2 ^ n + 2 ^ n = omega (arith, suc-mul y (2 ^ n)) in
        record {
          within = omega arith;
          left =
              ap₂ (λ (i : ℕ) (l : List ℕ). moved way n source i ((2 ^ n - (y + 1)) * 2 ^ n) l) next e
              ∙ sym (moved_more way n source (y * 2 ^ n) (2 ^ n) ((2 ^ n - (y + 1)) * 2 ^ n) target)
              ∙ sym (ap (λ (k : ℕ). moved way n source (y * 2 ^ n) k target) split)
              ∙ p.left;
        }

    pub rows-length : length target ≡ length target₀
    rows-length =
        sym (length_moved way n source (y * 2 ^ n) ((2 ^ n - y) * 2 ^ n) target) ∙ ap length p.left ∙ length_moved way n source 0 (4 ^ n) target₀

    pub row_fits : Fits n (length source) (length target₀) → y < 2 ^ n → RowFits n y (length source) (length target)
    row_fits f h = record { fit = record { small = f.small; whole = f.whole; room = omega (arith, f.room, rows-length) }; inside = h }

    pub rows-done : 2 ^ n ≤ y → 4 ^ n ≤ length target₀ → target ≡ over (rearranged way n source) target₀
    unfolding moved
    rows-done h room =
        let none : 2 ^ n - y ≡ 0 = omega arith in
        let gone : (2 ^ n - y) * 2 ^ n ≡ 0 = ap (λ (k : ℕ). k * 2 ^ n) none ∙ zero-mul (2 ^ n) in
        sym (ap (λ (k : ℕ). moved way n source (y * 2 ^ n) k target) gone) ∙ p.left ∙ all_moved way n source target₀ room
