-- The larger of two colours, pixel by pixel.
use Rattle.std.specs.Prelude.{◌≡◌, refl, ℕ, zero, suc, ◌^◌, max, length, get_or}
use Rattle.std.proofs.Common.{sym, ap, ◌∙◌, arith}
use mathlib.Core.List.{List, [], ◌∷◌, zip_with}
use Rattle.quadtree.specs.BlockLists.{BlockList, image_of, number_of, accepted_covers, length_image}

-- "every pixel has the larger of the two colours" (document 02, request b): two images of one size, in rising location code.
unfoldable pub larger : List ℕ → List ℕ → List ℕ
unfolding zip_with
larger px qx = zip_with max px qx

length-larger : (px qx : List ℕ) → length px ≡ length qx → length (larger px qx) ≡ length px
unfolding larger zip_with
length-larger [] [] h = refl
length-larger [] (y ∷ qx) h = absurd (omega arith)
length-larger (x ∷ px) [] h = absurd (omega arith)
length-larger (x ∷ px) (y ∷ qx) h = ap suc (length-larger px qx (omega arith))

pub larger_at : (px qx : List ℕ) (i : ℕ) → length px ≡ length qx → get_or (larger px qx) i 0 ≡ max (get_or px i 0) (get_or qx i 0)
unfolding larger zip_with
larger_at [] [] i h = omega arith
larger_at [] (y ∷ qx) i h = absurd (omega arith)
larger_at (x ∷ px) [] i h = absurd (omega arith)
larger_at (x ∷ px) (y ∷ qx) zero h = refl
larger_at (x ∷ px) (y ∷ qx) (suc i) h = larger_at px qx i (omega arith)

-- The images of two accepted lists of one n have one size, and so have the larger colours.
module _ (n : ℕ) (a b : BlockList) (f : number_of n a ≡ 0) (g : number_of n b ≡ 0) where
  pub same_size : length (image_of a) ≡ length (image_of b)
  same_size = length_image n a (accepted_covers n a f) ∙ sym (length_image n b (accepted_covers n b g))

  pub length_of_larger : length (larger (image_of a) (image_of b)) ≡ 4 ^ n
  length_of_larger = length-larger (image_of a) (image_of b) same_size ∙ length_image n a (accepted_covers n a f)
