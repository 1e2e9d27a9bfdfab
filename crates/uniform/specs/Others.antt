-- The three squares beside a block: where they lie in the raster, and when they have its colour.
use Rattle.std.specs.Prelude.{◌≡◌, Bool, true, List, ℕ, ◌+◌, ◌*◌, ◌%◌, ◌^◌, ◌≤◌, ◌<◌}
use Rattle.std.proofs.Math.Path.{sym, ap₂}
use Rattle.std.proofs.Common.{ap, ◌∙◌, subst, arith}
use Rattle.std.proofs.Math.Bool.{◌&&◌}
use Rattle.sequences.specs.Powers.{pow2_mono, pow4_mono}
use Rattle.quadtree.specs.Quadtree.{alike}
use Rattle.quadtree.specs.Raster.{place, in_code_order}
use Rattle.quadtree.specs.Orders.{place_in}
use Rattle.squares.specs.Rows.{RowsFit, square_fits}
use Rattle.squares.specs.Quadrants.{quadrant-inside, quadrant_multiple, east_place, south_place, southeast_place}
use Rattle.uniform.specs.Squares.{rows_alike, square-alike}
use Rattle.uniform.specs.Growing.{others_alike, square_grows}

-- The squares of side s east, south and southeast of the one at `at` lie within a list of length `size`, in rows of w.
pub record OthersFit (size w at s : ℕ) : Type 0 where
  pub narrow : w ≤ 256
  pub near : at + s * w + s < 2 ^ 32
  pub east : RowsFit size w (at + s) s s
  pub south : RowsFit size w (at + s * w) s s
  pub southeast : RowsFit size w (at + s * w + s) s s

-- Whether they have the colour v.
unfoldable pub beside_alike : List ℕ → ℕ → ℕ → ℕ → ℕ → Bool
unfolding rows_alike
beside_alike raster v w at s = rows_alike raster v w (at + s) s s && (rows_alike raster v w (at + s * w) s s && rows_alike raster v w (at + s * w + s) s s)

module _ (n l c : ℕ) (level : l + 1 ≤ n) (inside : c < 4 ^ n) (multiple : c % 4 ^ (l + 1) ≡ 0) where
  fits_at : (i at : ℕ) → i < 4 → place n (c + i * 4 ^ l) ≡ at → RowsFit (4 ^ n) (2 ^ n) at (2 ^ l) (2 ^ l)
  fits_at i at h e =
      subst (λ (p : ℕ). RowsFit (4 ^ n) (2 ^ n) p (2 ^ l) (2 ^ l)) e
      (square_fits n l (c + i * 4 ^ l) (omega arith) (quadrant-inside n l c level inside multiple i h) (quadrant_multiple n l c level inside multiple i))

  pub others_fit : n ≤ 8 → (size : ℕ) → size ≡ 4 ^ n → OthersFit size (2 ^ n) (place n c) (2 ^ l)
  others_fit small size e = subst (λ (k : ℕ). OthersFit k (2 ^ n) (place n c) (2 ^ l)) (sym e) (record {
    narrow = pow2_mono small;
    near = omega (arith, southeast_place n l c level inside multiple, place_in n (c + 3 * 4 ^ l), pow4_mono small);
    east = fits_at 1 (place n c + 2 ^ l) (omega arith) (east_place n l c level inside multiple);
    south = fits_at 2 (place n c + 2 ^ l * 2 ^ n) (omega arith) (south_place n l c level inside multiple);
    southeast = fits_at 3 (place n c + 2 ^ l * 2 ^ n + 2 ^ l) (omega arith) (southeast_place n l c level inside multiple);
  })

  alike_at : (raster : List ℕ) (v i at : ℕ) → i < 4 → place n (c + i * 4 ^ l) ≡ at
      → rows_alike raster v (2 ^ n) at (2 ^ l) (2 ^ l) ≡ alike (in_code_order n raster) v (c + i * 4 ^ l) (4 ^ l)
  alike_at raster v i at h e =
      ap (λ (p : ℕ). rows_alike raster v (2 ^ n) p (2 ^ l) (2 ^ l)) (sym e)
      ∙ square-alike n l (c + i * 4 ^ l) (omega arith) (quadrant-inside n l c level inside multiple i h) (quadrant_multiple n l c level inside multiple i) raster v

  -- The three squares beside a block of one colour have its colour exactly where the square one level up has one.
  pub others_by_codes : (raster : List ℕ) (v : ℕ) → alike (in_code_order n raster) v c (4 ^ l) ≡ true
      → beside_alike raster v (2 ^ n) (place n c) (2 ^ l) ≡ alike (in_code_order n raster) v c (4 ^ (l + 1))
  unfolding beside_alike others_alike
  others_by_codes raster v first =
      ap₂ ◌&&◌ (alike_at raster v 1 (place n c + 2 ^ l) (omega arith) (east_place n l c level inside multiple))
      (ap₂ ◌&&◌ (alike_at raster v 2 (place n c + 2 ^ l * 2 ^ n) (omega arith) (south_place n l c level inside multiple))
      (alike_at raster v 3 (place n c + 2 ^ l * 2 ^ n + 2 ^ l) (omega arith) (southeast_place n l c level inside multiple)))
      ∙ sym (square_grows (in_code_order n raster) v c l first)
